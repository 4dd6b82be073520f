use Rattle.std.proofs.Common.{◌≡◌, ℕ, ◌<◌, length, slice_index, slice_index_or}
use Rattle.crush_bucket.specs.Bucket.{item_at, IsItemOf}
use Rattle.crush_hash.specs.Permutation.{no_id}
use Rattle.crush_bucket.proofs.uniform_lanes.items_of.Given as goal

abbrev pub invariant-loop-lane : goal.invariant-loop-lane
invariant-loop-lane l = record {
  size : length l.items ≡ 8;
  value : (n : ℕ) (d : _) → n < l.lane → slice_index_or l.items n no_id ≡ item_at (slice_index_or l.fn.buckets n d).now.items (slice_index l.fn.places n);
  item : (n : ℕ) (d : _) → n < l.lane → IsItemOf (slice_index_or l.fn.buckets n d).now.items (slice_index_or l.items n no_id);
}
