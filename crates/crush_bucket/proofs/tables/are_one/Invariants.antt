use Rattle.std.proofs.Common.{◌≡◌, ℕ, ◌<◌, slice_index}
use Rattle.crush_bucket.proofs.tables.are_one.Given as goal

abbrev pub invariant-loop-lane : goal.invariant-loop-lane
invariant-loop-lane l = (n : ℕ) → n < l.lane → slice_index l.fn.buckets n ≡ slice_index l.fn.buckets 0
