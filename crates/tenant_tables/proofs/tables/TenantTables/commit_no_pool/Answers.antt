use mir.Val.{SFits}
use mir.Syntax.{w64}
use Rattle.std.proofs.lemmas.Int.{to_z-of_z}
use Rattle.std.proofs.Common.{rules, [], ◌∷◌, refl, arith}
use Rattle.sqlite.specs.Held.{state}
use Rattle.sqlite.specs.State.{HasCleanDisk}
use Rattle.tenant_tables.specs.Change.{Accepts, without_pool}
use Rattle.tenant_tables.specs.declared.write.Write.TheVariants.{ClearExceptions, RemovePool, AddReceipt}
use Rattle.tenant_tables.proofs.Accepting.{accepts, accepted_sound}
use Rattle.tenant_tables.proofs.Changed.{done_of, crash_of}
use Rattle.tenant_tables.proofs.tables.TenantTables.commit_no_pool.Goals as goal

pub write-requires-clause-sound : goal.write-requires-clause-sound
write-requires-clause-sound g c clean ready db made =
    let args = c.args in
    let a = c.args.accepted.now in
    let fits-id : SFits w64 c.args.accepted.now.id = search rules in
    let fits-epoch : SFits w64 c.args.accepted.now.epoch = search rules in
    let fits-pool : SFits w64 c.args.pool = search rules in
    let there = c.requires.there clean in
    accepted_sound g.S.Store args.self.now.0 ready a.id a.epoch (ClearExceptions a.id args.pool ∷ RemovePool a.id args.pool ∷ AddReceipt a.id a.receipt ∷ []) (refl, (refl, (refl, tt))) db (simp to_z-of_z at made) there.0 there.1 there.2

pub returns-clause-done : goal.returns-clause-done
returns-clause-done g c clean =
    let args = c.args in
    let a = c.args.accepted.now in
    let old = c.args.self.now.0 in
    let fits-id : SFits w64 c.args.accepted.now.id = search rules in
    let fits-epoch : SFits w64 c.args.accepted.now.epoch = search rules in
    let fits-pool : SFits w64 c.args.pool = search rules in
    let early : HasCleanDisk (state g.S.Store old) = omega (arith, clean, c.write.ensures.crash.clean) in
    done_of g.S.Store old c.write.new.self.0 _ (Accepts a (without_pool args.pool) (state g.S.Store old).now.trees) c.write.result (c.write.ensures.done clean)
    (λ db made. accepts g.S.Store old (c.write.ensures.ready early) a.id a.epoch (ClearExceptions a.id args.pool ∷ RemovePool a.id args.pool ∷ AddReceipt a.id a.receipt ∷ []) (refl, (refl, (refl, tt))) db (simp to_z-of_z at made))

pub returns-clause-crash : goal.returns-clause-crash
returns-clause-crash g c =
    let args = c.args in
    let a = c.args.accepted.now in
    let old = c.args.self.now.0 in
    let fits-id : SFits w64 c.args.accepted.now.id = search rules in
    let fits-epoch : SFits w64 c.args.accepted.now.epoch = search rules in
    let fits-pool : SFits w64 c.args.pool = search rules in
    crash_of g.S.Store old c.write.new.self.0 _ (Accepts a (without_pool args.pool) (state g.S.Store old).now.trees) c.write.ensures.crash
    (λ early db made. accepts g.S.Store old (c.write.ensures.ready early) a.id a.epoch (ClearExceptions a.id args.pool ∷ RemovePool a.id args.pool ∷ AddReceipt a.id a.receipt ∷ []) (refl, (refl, (refl, tt))) db (simp to_z-of_z at made))
