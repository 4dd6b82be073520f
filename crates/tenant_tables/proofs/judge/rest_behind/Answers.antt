use Rattle.std.proofs.Common.{◌≡◌, ◌++◌, [], ◌∷◌, Option, Some, None, map, IsTrue, true≢false, sym, ap, subst, ◌∙◌, arith}
use Rattle.std.specs.Option.{option_to_list}
use Rattle.std.specs.List.{AllByRecursion}
use Rattle.std.proofs.lemmas.List.{length-map}
use Rattle.table_schema.specs.Found.{receipt_values}
use Rattle.table_schema.specs.declared.rows.ReceiptRow.{ReceiptRow}
use Rattle.tenant_tables.specs.Pages.{IsOfReceipt}
use Rattle.tenant_tables.proofs.Pages.{each_of_page, not_more, not_fewer, whole, leaves_more}
use Rattle.tenant_tables.proofs.judge.rest_behind.Goals as goal
use Rattle.tenant_tables.proofs.judge.rest_behind.Goals.{then-length-lt-PAGE, else-length-lt-PAGE}

-- a row of the page is that of no receipt
pub returns-then-not-are_receipts-clause-damaged : goal.returns-then-not-are_receipts-clause-damaged
returns-then-not-are_receipts-clause-damaged c = λ _ rows page h.
    let each = each_of_page rows (map receipt_values c.args.page.items) c.args.left page h in
    let yes : IsTrue c.are_receipts.result = c.are_receipts.ensures.1 (subst (λ l. AllByRecursion IsOfReceipt (map receipt_values l)) (sym c.deref.ensures.value) each) in
    absurd (true≢false (sym yes ∙ c.if-not-are_receipts.true))

-- the page has more rows than there may be receipts
pub returns-in_default-clause-damaged : goal.returns-in_default-clause-damaged
returns-in_default-clause-damaged c = λ _ rows page h.
    let most = not_more rows (map receipt_values c.args.page.items) c.args.left page h in
    let long = length-map c.args.page.items receipt_values in
    c.in_default.ensures (omega (arith, most, long, c.len-length.ensures))

pub returns-in-Some-last-clause-leaves : goal.returns-in-Some-last-clause-leaves
returns-in-Some-last-clause-leaves c = λ all rows tail page.
    let each : AllByRecursion IsOfReceipt (map receipt_values c.args.page.items) =
    subst (λ l. AllByRecursion IsOfReceipt (map receipt_values l)) c.deref.ensures.value (c.are_receipts.ensures.0 c.if-not-are_receipts.false) in
    let fewer = c.in-Some.ensures in
    elim c.if-length-lt-PAGE.branch [
      | then-length-lt-PAGE w ↦ absurd (not_some c.in-Some-last.row w.last-is c.in-Some-last.is)
      | else-length-lt-PAGE w ↦
          let split : c.args.page.items ≡ w.pop-last.new.self.items ++ c.in-Some-last.row ∷ [] = w.pop-last.ensures.items ∙ ap (λ o. w.pop-last.new.self.items ++ option_to_list o) (sym w.last-is ∙ c.in-Some-last.is) in
          leaves_more all rows c.args.page.items w.pop-last.new.self.items c.in-Some-last.row c.args.left c.in-Some.left split (omega (arith, fewer, c.len-length.ensures)) each tail page
    ]
  where
    not_some : {o : Option ReceiptRow} (row : ReceiptRow) → o ≡ None → o ≡ Some row → ⊥
    not_some row none some = cc

pub returns-in-None-clause-leaves : goal.returns-in-None-clause-leaves
returns-in-None-clause-leaves c = λ all rows tail page.
    let each : AllByRecursion IsOfReceipt (map receipt_values c.args.page.items) =
    subst (λ l. AllByRecursion IsOfReceipt (map receipt_values l)) c.deref.ensures.value (c.are_receipts.ensures.0 c.if-not-are_receipts.false) in
    let long = length-map c.args.page.items receipt_values in
    let fewer = c.in-Some.ensures in
    elim c.if-length-lt-PAGE.branch [
      | then-length-lt-PAGE w ↦ whole rows (map receipt_values c.args.page.items) c.args.left page (omega (arith, long, c.len-length.ensures)) (omega (arith, long, c.len-length.ensures, fewer)) each
      | else-length-lt-PAGE w ↦ let none = rw (sym w.last-is ∙ c.in-None.is) at w.pop-last.ensures.cases in absurd (omega (arith, none.0, c.len-length.ensures))
    ]

pub returns-clause-damaged : goal.returns-clause-damaged
returns-clause-damaged c = λ _ rows page h.
    let long = length-map c.args.page.items receipt_values in
    let fewer = c.in-Some.ensures in
    elim c.if-length-lt-PAGE.branch [
      | then-length-lt-PAGE w ↦
          let exact = not_fewer rows (map receipt_values c.args.page.items) c.args.left page (omega (arith, long, c.len-length.ensures)) h in
          absurd (omega (arith, long, exact, fewer, c.len-length.ensures))
      | else-length-lt-PAGE w ↦ let none = rw (sym w.last-is ∙ c.in-None.is) at w.pop-last.ensures.cases in absurd (omega (arith, none.0, c.len-length.ensures))
    ]
