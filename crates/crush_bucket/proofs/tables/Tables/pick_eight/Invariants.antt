use Rattle.std.proofs.Common.{◌≡◌, ℕ, ◌<◌, length, slice_index, slice_index_or}
use Rattle.crush_bucket.specs.Tables.{bucket_at}
use Rattle.crush_bucket.proofs.tables.Tables.pick_eight.Given as goal

abbrev pub invariant-loop-lane : goal.invariant-loop-lane
invariant-loop-lane l = record {
  size : length l.asked ≡ 8;
  each : (n : ℕ) (d : _) → n < l.lane → (slice_index_or l.asked n d).now ≡ bucket_at l.self (slice_index l.fn.buckets n);
}
