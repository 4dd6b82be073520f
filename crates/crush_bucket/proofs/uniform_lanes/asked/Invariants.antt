use Rattle.std.proofs.Common.{◌≡◌, ℕ, ◌<◌, length, slice_index, slice_index_or}
use Rattle.crush_bucket.specs.Private.Asked.{IsAsked}
use Rattle.crush_hash.specs.Permutation.{no_id}
use Rattle.crush_bucket.proofs.uniform_lanes.asked.Given as goal

abbrev pub invariant-loop-lane : goal.invariant-loop-lane
invariant-loop-lane l = record {
  ids : length l.ids ≡ 8;
  sizes : length l.sizes ≡ 8;
  asked : (n : ℕ) (d : _) → n < l.lane → IsAsked (slice_index_or l.fn.buckets n d).now l.fn.place l.fn.r (slice_index_or l.ids n no_id) (slice_index l.sizes n);
}
