use Rattle.std.proofs.Common.{IsTrue, true≢false, sym, ◌∙◌, arith}
use Rattle.tenant_tables.proofs.Pages.{one_of_receipt}
use Rattle.tenant_tables.proofs.judge.are_receipts.Goals as goal

-- a row is that of no receipt
pub returns-then-not-is_receipt_row : goal.returns-then-not-is_receipt_row
returns-then-not-is_receipt_row c = (
  λ no. absurd (true≢false (sym no)),
  λ all.
      let one : IsTrue c.is_receipt_row.result = c.is_receipt_row.ensures.1 (one_of_receipt c.args.rows.now c.loop-row.row-index c.row-item.result (omega arith) c.row-item.is all) in
      absurd (true≢false (sym one ∙ c.if-not-is_receipt_row.true)),
)
