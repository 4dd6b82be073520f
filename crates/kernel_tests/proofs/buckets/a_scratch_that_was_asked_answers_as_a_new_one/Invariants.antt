use Rattle.std.proofs.Common.{◌≡◌}
use Rattle.kernel_tests.proofs.buckets.a_scratch_that_was_asked_answers_as_a_new_one.Given as goal

abbrev pub invariant-questions : goal.invariant-questions
invariant-questions g l = l.asked.of.size ≡ l.size
