use Rattle.std.proofs.Common.{ℕ, ◌<◌, slice_index, slice_index_or}
use Rattle.crush_bucket.specs.Private.Walks.{IsOnWay}
use Rattle.crush_bucket.proofs.walks.walk_down.Given as goal

abbrev pub invariant-loop-left : goal.invariant-loop-left
invariant-loop-left l = (lane : ℕ) (d : _) → lane < 8 → IsOnWay (slice_index_or l.fn.trees lane d) (slice_index l.fn.xs lane) l.fn.r l.left (slice_index l.nodes lane)

abbrev pub decreases-loop-left : goal.decreases-loop-left
decreases-loop-left l = l.left
