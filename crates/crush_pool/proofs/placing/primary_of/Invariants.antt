use Rattle.std.proofs.Common.{◌≡◌, drop}
use Rattle.crush_pool.specs.Placements.{primary_of}
use Rattle.crush_pool.proofs.placing.primary_of.Given as goal

abbrev pub invariant-loop-slot : goal.invariant-loop-slot
invariant-loop-slot l = primary_of l.up ≡ primary_of (drop l.slot-index l.up)
