use Rattle.std.proofs.Common.{◌*◌}
use Rattle.crush_bucket.specs.Private.Soonest.{IsBest}
use Rattle.crush_bucket.proofs.straw2.straw2_place.Given as goal

abbrev pub invariant-loop-block : goal.invariant-loop-block
invariant-loop-block l = IsBest l.items l.x l.r (8 * l.block) l.best
