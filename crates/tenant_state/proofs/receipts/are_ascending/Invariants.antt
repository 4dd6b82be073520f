use Rattle.std.proofs.Common.{◌≡◌, length}
use Rattle.tenant_state.proofs.Keeping.{pairs_of}
use Rattle.tenant_state.specs.Ordered.{is_ascending}
use Rattle.tenant_state.specs.Receipts.{is_before}
use Rattle.tenant_state.proofs.receipts.are_ascending.Given as goal

-- the rest of the list ascends exactly where the whole list does
abbrev pub invariant-loop-rest : goal.invariant-loop-rest
invariant-loop-rest l = is_ascending is_before (pairs_of l.rest) ≡ is_ascending is_before (pairs_of l.receipts)

abbrev pub decreases-loop-rest : goal.decreases-loop-rest
decreases-loop-rest l = length l.rest
