use Rattle.std.proofs.Common.{map, take}
use Rattle.std.specs.List.{AllByRecursion}
use Rattle.table_schema.specs.Found.{receipt_values}
use Rattle.tenant_tables.specs.Pages.{IsOfReceipt}
use Rattle.tenant_tables.proofs.judge.are_receipts.Given as goal

-- the rows so far are those of receipts
abbrev pub invariant-loop-row : goal.invariant-loop-row
invariant-loop-row l = AllByRecursion IsOfReceipt (map receipt_values (take l.row-index l.rows))
