use Rattle.std.proofs.Common.{◌≡◌}
use Rattle.crush_bench.proofs.bucket.pick_tries.Given as goal

abbrev pub invariant-tries : goal.invariant-tries
invariant-tries g l = l.perm.of ≡ l.initial.perm.of
