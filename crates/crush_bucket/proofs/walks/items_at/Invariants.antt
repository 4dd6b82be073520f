use Rattle.std.proofs.Common.{◌≡◌, ℕ, ◌<◌, length, slice_index, slice_index_or}
use Rattle.crush_bucket.specs.Private.Walks.{IsPickAt}
use Rattle.crush_hash.specs.Permutation.{no_id}
use Rattle.crush_bucket.proofs.walks.items_at.Given as goal

abbrev pub invariant-loop-lane : goal.invariant-loop-lane
invariant-loop-lane l = record {
  size : length l.items ≡ 8;
  picks : (n : ℕ) (d : _) → n < l.lane → IsPickAt (slice_index_or l.fn.trees n d) (slice_index l.fn.leaves n) (slice_index_or l.items n no_id);
}
