use Rattle.std.proofs.Common.{◌≡◌, take}
use Rattle.crush_pool.specs.Placements.{up_of}
use Rattle.crush_pool.proofs.placing.set_up_of.Given as goal

abbrev pub invariant-loop-slot : goal.invariant-loop-slot
invariant-loop-slot l = l.up.items ≡ up_of l.erasure l.states (take l.slot-index l.raw)
