use Rattle.std.proofs.Common.{◌≡◌, ℕ, ◌<◌, ◌≤◌, ◌^◌, length, slice_index, slice_index_or}
use Rattle.crush_bucket.specs.Bucket.{word}
use Rattle.crush_bucket.specs.Private.Walks.{tree_height}
use Rattle.crush_bucket.proofs.walks.begin.Given as goal

abbrev pub invariant-loop-lane : goal.invariant-loop-lane
invariant-loop-lane l = record {
  words_size : length l.words ≡ 8;
  roots_size : length l.roots ≡ 8;
  words : (n : ℕ) (d : _) → n < l.lane → slice_index l.words n ≡ word (slice_index_or l.fn.trees n d).id;
  roots : (n : ℕ) (d : _) → n < l.lane → slice_index l.roots n ≡ 2 ^ tree_height (slice_index_or l.fn.trees n d);
  high : (n : ℕ) (d : _) → n < l.lane → tree_height (slice_index_or l.fn.trees n d) ≤ l.highest;
}
