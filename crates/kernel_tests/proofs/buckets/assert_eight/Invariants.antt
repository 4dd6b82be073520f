use Rattle.std.proofs.Common.{◌≡◌}
use Rattle.kernel_tests.proofs.buckets.assert_eight.Given as goal

abbrev pub invariant-attempts : goal.invariant-attempts
invariant-attempts g l = l.perm.of ≡ record { id = l.fn.id; size = l.fn.size }

abbrev pub invariant-lanes : goal.invariant-lanes
invariant-lanes g l = l.perm.of ≡ record { id = l.fn.id; size = l.fn.size }
