use Rattle.std.proofs.Common.{◌≡◌, ℕ, ◌<◌, negsuc, slice_index_or}
use Rattle.crush_bucket.specs.Tables.{no_bucket}
use Rattle.crush_bucket.proofs.index.index_size.Given as goal

abbrev pub invariant-loop-row : goal.invariant-loop-row
invariant-loop-row l =
    (place n : ℕ) → place < l.row-index → (slice_index_or l.rows place no_bucket).bucket.id.0 ≡ negsuc n → n < l.size
