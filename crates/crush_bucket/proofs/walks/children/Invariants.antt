use Rattle.std.proofs.Common.{◌≡◌, ℕ, ◌<◌, length, slice_index, slice_index_or}
use Rattle.crush_bucket.specs.Private.Walks.{GoesOn}
use Rattle.crush_bucket.proofs.walks.children.Given as goal

abbrev pub invariant-loop-lane : goal.invariant-loop-lane
invariant-loop-lane l = record {
  size : length l.below ≡ 8;
  goes : (n : ℕ) (d : _) → n < l.lane → GoesOn (slice_index_or l.fn.trees n d) l.fn.left (slice_index l.fn.nodes n) (slice_index l.fn.hashes n) (slice_index l.below n);
}
