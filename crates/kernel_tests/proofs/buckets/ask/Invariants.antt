use Rattle.std.proofs.Common.{◌≡◌}
use Rattle.kernel_tests.proofs.buckets.ask.Given as goal

abbrev pub invariant-questions : goal.invariant-questions
invariant-questions l = l.perm.of ≡ record { id = l.fn.id; size = l.fn.size }
