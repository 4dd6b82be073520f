use Rattle.std.proofs.Common.{◌+◌}
use Rattle.crush_bucket.specs.Private.Soonest.{IsBest}
use Rattle.crush_bucket.proofs.straw2.offer_lanes.Given as goal

abbrev pub invariant-loop-lane : goal.invariant-loop-lane
invariant-loop-lane l = IsBest l.items l.x l.r (l.from + l.lane) l.best
