use Rattle.std.proofs.Common.{◌≡◌}
use Rattle.kernel_tests.proofs.sparse.a_perm_keeps_what_its_plain_form_moves.Given as goal

abbrev pub invariant-questions : goal.invariant-questions
invariant-questions g l = l.perm.of.size ≡ l.size
