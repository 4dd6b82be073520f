use Rattle.std.proofs.Common.{◌≡◌, ℕ, ◌<◌, length, slice_index, slice_index_or}
use Rattle.crush_bucket.specs.Pick.{pick, perm_of}
use Rattle.crush_hash.specs.Permutation.{no_id}
use Rattle.crush_bucket.proofs.any.AnyBucket.pick_eight.Given as goal

abbrev pub invariant-loop-lane : goal.invariant-loop-lane
invariant-loop-lane l = record {
  size : length l.items ≡ 8;
  of : l.perm.of ≡ perm_of l.self;
  picked : (n : ℕ) → n < l.lane → slice_index_or l.items n no_id ≡ pick l.self (slice_index l.fn.xs n) l.r;
}
