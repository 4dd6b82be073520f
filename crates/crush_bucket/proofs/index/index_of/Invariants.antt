use Rattle.std.proofs.Common.{◌≡◌, ℕ, ◌<◌, negsuc, drop, length, slice_index_or, None}
use Rattle.std.specs.List.{position_from}
use Rattle.std.specs.Ordering.{int_eq}
use Rattle.crush_bucket.specs.Tables.{no_bucket}
use Rattle.crush_bucket.proofs.index.index_of.Given as goal

abbrev pub invariant-loop-place : goal.invariant-loop-place
invariant-loop-place l = record {
  size : (place n : ℕ) → place < length l.rows → (slice_index_or l.rows place no_bucket).bucket.id.0 ≡ negsuc n → n < length l.index.items;
  each : (n : ℕ) → slice_index_or l.index.items n None ≡ position_from (λ b. int_eq b.bucket.id.0 (negsuc n)) l.place (drop l.place l.rows);
}
