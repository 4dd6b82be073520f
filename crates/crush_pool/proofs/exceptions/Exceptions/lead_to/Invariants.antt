use Rattle.std.proofs.Common.{◌≡◌, ◌<◌, ◌-◌, drop, length, slice_index_or}
use Rattle.crush_map.specs.Faults.{has_number}
use Rattle.crush_pool.specs.Exceptions.{targets_of}
use Rattle.crush_pool.specs.Private.Pairs.{no_pair}
use Rattle.crush_pool.proofs.exceptions.Exceptions.lead_to.Given as goal

-- at the place is a pair of the group, and one leads to the device if one from it on does
abbrev pub invariant-loop-place : goal.invariant-loop-place
invariant-loop-place l = record {
  own : l.place < length l.self → (slice_index_or l.self l.place no_pair).group ≡ l.group;
  same : has_number (targets_of (drop l.place l.self) l.group) l.device ≡ has_number (targets_of l.self l.group) l.device;
}

abbrev pub decreases-loop-place : goal.decreases-loop-place
decreases-loop-place l = length l.self - l.place
