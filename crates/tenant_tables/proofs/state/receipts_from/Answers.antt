use Rattle.std.proofs.Common.{◌≡◌, ◌++◌, map, true, string_bytes, sym, ap, subst, ◌∙◌}
use Rattle.std.proofs.lemmas.Result.{IfOk-weaker}
use Rattle.std.specs.Vec.Iter.{into_iter_items, into_iter_len}
use Rattle.tenant_state.specs.Ordered.{is_ascending}
use Rattle.tenant_state.specs.Receipts.{Receipts, is_before}
use Rattle.tenant_state.specs.Valid.{is_receipt}
use Rattle.table_schema.specs.Found.{receipt_values}
use Rattle.tenant_tables.specs.Rows.{row_of_receipt}
use Rattle.tenant_tables.proofs.Reading.{no_list, same_list, same_receipt, whole, refused}
use Rattle.tenant_tables.proofs.state.receipts_from.Goals as goal

-- a row is that of no receipt
pub returns-in-None-2-clause-none : goal.returns-in-None-2-clause-none
returns-in-None-2-clause-none c = λ _ receipts valid order same.
    let all = ap (λ l. c.loop-row.yielded ++ l) (sym c.in-Some.ensures.steps.0) ∙ c.loop-row.invariant.all in
    no_list receipt_values row_of_receipt is_receipt c.loop-row.yielded c.in-Some.row (into_iter_items c.next.new.self)
    (c.in_ok-receipt.ensures.none c.in-None-2.is) receipts valid
    (subst (λ l. map receipt_values l ≡ map row_of_receipt receipts) (sym all) same)

-- the list is out of order
pub returns-clause-none : goal.returns-clause-none
returns-clause-none c =
    let made : Receipts = map (λ e. (string_bytes e.0, e.1.value)) c.loop-row.receipts.items in
    let all = whole c.loop-row.yielded (into_iter_items c.loop-row.row-iterator) c.args.rows.items (into_iter_len c.loop-row.row-iterator) c.loop-row.invariant.all c.loop-row.invariant.long c.in-None.ensures.steps.0 in
    let read : map receipt_values c.args.rows.items ≡ map row_of_receipt made =
    subst (λ l. map receipt_values l ≡ map row_of_receipt made) all c.loop-row.invariant.read in
    IfOk-weaker c.from_list.result _ _
    (λ found is none receipts valid order same.
    refused is_before made found is none (subst (λ l. is_ascending is_before l ≡ true) (same_list row_of_receipt same_receipt receipts made (sym same ∙ read)) order))
    c.from_list.ensures
