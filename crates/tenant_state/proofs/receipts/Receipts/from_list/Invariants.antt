use Rattle.std.proofs.Common.{◌≡◌, ◌++◌, length, true}
use Rattle.tenant_state.proofs.Keeping.{pairs_of}
use Rattle.tenant_state.specs.Ordered.{is_ascending}
use Rattle.tenant_state.specs.Receipts.{is_before}
use Rattle.tenant_state.proofs.receipts.Receipts.from_list.Given as goal

-- the remaining receipts, and then those in the map, are all, which are in order
abbrev pub invariant-loop-number : goal.invariant-loop-number
invariant-loop-number l = record {
  whole : pairs_of l.rest.items ++ pairs_of l.by_number.entries ≡ pairs_of l.fn.receipts.items;
  ordered : is_ascending is_before (pairs_of l.fn.receipts.items) ≡ true;
}

abbrev pub decreases-loop-number : goal.decreases-loop-number
decreases-loop-number l = length l.rest.items
