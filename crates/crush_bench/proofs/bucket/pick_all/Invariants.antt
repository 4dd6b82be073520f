use Rattle.std.proofs.Common.{◌≡◌}
use Rattle.crush_bench.proofs.bucket.pick_all.Given as goal

abbrev pub invariant-inputs : goal.invariant-inputs
invariant-inputs g l = l.perm.of ≡ l.initial.perm.of
