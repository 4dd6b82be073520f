use mir.Val.{SFits}
use mir.Syntax.{w64}
use Rattle.std.proofs.lemmas.Int.{to_z-of_z}
use Rattle.std.proofs.Common.{rules, arith}
use Rattle.sqlite.specs.Held.{state}
use Rattle.sqlite.specs.State.{HasCleanDisk}
use Rattle.tenant_tables.specs.Change.{Drops}
use Rattle.tenant_tables.proofs.Changed.{done_of, crash_of}
use Rattle.tenant_tables.proofs.Committing.{drops_tenant}
use Rattle.tenant_tables.proofs.tables.TenantTables.remove.Goals as goal

pub write-requires-clause-sound : goal.write-requires-clause-sound
write-requires-clause-sound g c clean ready db made =
    let fits : SFits w64 c.args.id = search rules in
    (drops_tenant g.S.Store c.args.self.now.0 ready c.args.id db (c.requires.there clean) (simp to_z-of_z at made)).1

pub returns-clause-done : goal.returns-clause-done
returns-clause-done g c clean =
    let old = c.args.self.now.0 in
    let fits : SFits w64 c.args.id = search rules in
    let early : HasCleanDisk (state g.S.Store old) = omega (arith, clean, c.write.ensures.crash.clean) in
    done_of g.S.Store old c.write.new.self.0 _ (Drops c.args.id (state g.S.Store old).now.trees) c.write.result (c.write.ensures.done clean)
    (λ db made. (drops_tenant g.S.Store old (c.write.ensures.ready early) c.args.id db (c.requires.there early) (simp to_z-of_z at made)).0)

pub returns-clause-crash : goal.returns-clause-crash
returns-clause-crash g c =
    let old = c.args.self.now.0 in
    let fits : SFits w64 c.args.id = search rules in
    crash_of g.S.Store old c.write.new.self.0 _ (Drops c.args.id (state g.S.Store old).now.trees) c.write.ensures.crash
    (λ early db made. (drops_tenant g.S.Store old (c.write.ensures.ready early) c.args.id db (c.requires.there early) (simp to_z-of_z at made)).0)
