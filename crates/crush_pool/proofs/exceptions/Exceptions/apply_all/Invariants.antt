use Rattle.std.proofs.Common.{◌≡◌, ◌<◌, ◌-◌, drop, length, slice_index_or}
use Rattle.crush_pool.specs.Exceptions.{excepted}
use Rattle.crush_pool.specs.Private.Pairs.{no_pair}
use Rattle.crush_pool.proofs.exceptions.Exceptions.apply_all.Given as goal

-- at the place is a pair of the group, and those from it on make the same of what there is by now
abbrev pub invariant-loop-place : goal.invariant-loop-place
invariant-loop-place l = record {
  own : l.place < length l.self → (slice_index_or l.self l.place no_pair).group ≡ l.group;
  same : excepted l.tables l.weights (drop l.place l.self) l.group l.slots ≡ excepted l.tables l.weights l.self l.group l.fn.slots;
}

abbrev pub decreases-loop-place : goal.decreases-loop-place
decreases-loop-place l = length l.self - l.place
