use Rattle.std.proofs.Common.{◌≡◌, ℕ, ◌+◌, ◌<◌, length, slice_index}
use Rattle.crush_bucket.specs.Bucket.{weight_within}
use Rattle.crush_bucket.proofs.list.sums_of.Given as goal

abbrev pub invariant-loop-item : goal.invariant-loop-item
invariant-loop-item l = record {
  size : length l.sums.items ≡ l.item-index;
  sum : l.sum ≡ weight_within l.items 0 l.item-index;
  each : (place : ℕ) → place < l.item-index → slice_index l.sums.items place ≡ weight_within l.items 0 (place + 1);
}
