use Rattle.std.proofs.Common.{◌≢◌, [], ◌∷◌, arith, rules}
use Rattle.std.proofs.lemmas.Result.{err_from_is_err_and}
use mir.Syntax.{w64}
use mir.Val.{SFits}
use Rattle.sqlite.specs.Held.{state}
use Rattle.sqlite.specs.State.{HasCleanDisk}
use Rattle.table_schema.specs.sqlite_value.specs.Order.{Row}
use Rattle.table_schema.specs.Found.{AreReceipt, IsReceiptRow, receipts_with}
use Rattle.table_schema.specs.Holds.{of_tenant}
use Rattle.table_schema.specs.Layout.{receipts_table}
use Rattle.tenant_tables.proofs.Accepted.{word_is}
use Rattle.tenant_tables.proofs.Listed.{moved}
use Rattle.tenant_tables.proofs.Whole.{has_receipts}
use Rattle.tenant_store.proofs.Refusing.{same_fault}
use Rattle.tenant_store.proofs.Receipts.{not_damaged}
use Rattle.tenant_store.proofs.reading.find_receipt.Goals as goal

pub returns-clause-found : goal.returns-clause-found
returns-clause-found g c clean s stands =
    let old = (state g.S.Store c.args.tables.now.0).now in
    let mid : HasCleanDisk (state g.S.Store c.tenant_of.new.tables.0) = omega (arith, clean, c.receipt_of.ensures.reads.crash.clean) in
    let kept = c.in_ok-tenant.ensures.kept mid c.in_ok-tenant.ensures.latches in
    let tenant = c.in_ok-tenant.tenant in
    let fits : SFits w64 tenant.id = search rules in
    let has = has_receipts old.trees c.args.name.now tenant s (c.in_ok-tenant.ensures.names mid) stands in
    c.receipt_in.ensures.found c.args.number.now s.receipts (of_tenant receipts_table tenant.id old.trees) has.rows has.ranges has.order
    (moved (λ db n. AreReceipt (receipts_with db n c.args.number.now) c.in_ok-row.row) _ _ _ _ kept (word_is tenant.id fits) (c.in_ok-row.ensures.found clean))

pub returns-clause-damaged : goal.returns-clause-damaged
returns-clause-damaged g c clean same =
    let old = (state g.S.Store c.args.tables.now.0).now in
    let mid : HasCleanDisk (state g.S.Store c.tenant_of.new.tables.0) = omega (arith, clean, c.receipt_of.ensures.reads.crash.clean) in
    let early : HasCleanDisk (state g.S.Store c.args.tables.now.0) = omega (arith, mid, c.tenant_of.ensures.crash.clean) in
    let kept = c.in_ok-tenant.ensures.kept mid c.in_ok-tenant.ensures.latches in
    let tenant = c.in_ok-tenant.tenant in
    let fits : SFits w64 tenant.id = search rules in
    let there = c.requires.there early (c.tenant_of.ensures.ready early) in
    let has = has_receipts old.trees c.args.name.now tenant there.0 (c.in_ok-tenant.ensures.names mid) there.1 in
    c.receipt_in.ensures.damaged same c.args.number.now there.0.receipts (of_tenant receipts_table tenant.id old.trees) has.rows has.ranges has.order
    (moved (λ db n. AreReceipt (receipts_with db n c.args.number.now) c.in_ok-row.row) _ _ _ _ kept (word_is tenant.id fits) (c.in_ok-row.ensures.found clean))

-- the query of the receipt is not refused
pub returns-in_err-row-clause-damaged : goal.returns-in_err-row-clause-damaged
returns-in_err-row-clause-damaged g c clean same =
    let p = err_from_is_err_and c.from_residual-in_err-row.result c.from_residual-in_err-row.ensures.1 in
    let old = (state g.S.Store c.args.tables.now.0).now in
    let mid : HasCleanDisk (state g.S.Store c.tenant_of.new.tables.0) = omega (arith, clean, c.receipt_of.ensures.reads.crash.clean) in
    let early : HasCleanDisk (state g.S.Store c.args.tables.now.0) = omega (arith, mid, c.tenant_of.ensures.crash.clean) in
    let kept = c.in_ok-tenant.ensures.kept mid c.in_ok-tenant.ensures.latches in
    let tenant = c.in_ok-tenant.tenant in
    let fits : SFits w64 tenant.id = search rules in
    let there = c.requires.there early (c.tenant_of.ensures.ready early) in
    let has = has_receipts old.trees c.args.name.now tenant there.0 (c.in_ok-tenant.ensures.names mid) there.1 in
    not_damaged c.args.number.now there.0.receipts (of_tenant receipts_table tenant.id old.trees) has.rows has.order has.ranges
    (moved (λ db n. (receipts_with db n c.args.number.now ≢ []) × ((row : Row) → IsReceiptRow row → receipts_with db n c.args.number.now ≢ row ∷ [])) _ _ _ _ kept (word_is tenant.id fits)
    (c.in_err-row.ensures.damaged clean (same_fault c.from_residual-in_err-row.result _ _ _ p.1 p.2 same)))
