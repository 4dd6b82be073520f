use Rattle.std.proofs.Common.{arith}
use Rattle.sqlite.specs.Held.{state}
use Rattle.sqlite.specs.State.{HasCleanDisk}
use Rattle.tenant_tables.specs.Change.{Creates}
use Rattle.tenant_tables.proofs.Changed.{done_of, crash_of}
use Rattle.tenant_tables.proofs.Committing.{makes_tenant}
use Rattle.tenant_tables.proofs.tables.TenantTables.create.Goals as goal

pub write-requires-clause-sound : goal.write-requires-clause-sound
write-requires-clause-sound g c clean ready db made = (makes_tenant g.S.Store c.args.self.now.0 ready c.args.name db (c.requires.absent clean ready) made).1

pub returns-clause-done : goal.returns-clause-done
returns-clause-done g c clean =
    let old = c.args.self.now.0 in
    let early : HasCleanDisk (state g.S.Store old) = omega (arith, clean, c.write.ensures.crash.clean) in
    done_of g.S.Store old c.write.new.self.0 _ (Creates c.args.name.now (state g.S.Store old).now.trees) c.write.result (c.write.ensures.done clean)
    (λ db made. (makes_tenant g.S.Store old (c.write.ensures.ready early) c.args.name db (c.requires.absent early (c.write.ensures.ready early)) made).0)

pub returns-clause-crash : goal.returns-clause-crash
returns-clause-crash g c =
    let old = c.args.self.now.0 in
    crash_of g.S.Store old c.write.new.self.0 _ (Creates c.args.name.now (state g.S.Store old).now.trees) c.write.ensures.crash
    (λ early db made. (makes_tenant g.S.Store old (c.write.ensures.ready early) c.args.name db (c.requires.absent early (c.write.ensures.ready early)) made).0)
