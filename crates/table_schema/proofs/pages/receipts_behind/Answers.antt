use mir.Val.{SFits}
use mir.Syntax.{w64}
use Rattle.std.proofs.Common.{rules, map, sym, subst}
use Rattle.std.proofs.lemmas.Int.{to_z-of_z}
use Rattle.std.proofs.lemmas.Result.{IfOk-weaker}
use Rattle.table_schema.specs.Found.{AreFirst, receipt_values, IsReceiptRow}
use Rattle.table_schema.proofs.Paging.{begins, begins_none}
use Rattle.table_schema.proofs.pages.receipts_behind.Goals as goal

pub returns-clause-found : goal.returns-clause-found
returns-clause-found g c clean =
    let fits : SFits w64 c.args.id = search rules in
    let first = subst (AreFirst 17 _) (sym c.deref.ensures.value) (simp to_z-of_z at (c.in_ok-rows.ensures.found clean)) in
    IfOk-weaker c.page_of.result _ _ (λ page. begins _ c.deref.result.now (map receipt_values page.items) first) c.page_of.ensures.page

pub returns-clause-damaged : goal.returns-clause-damaged
returns-clause-damaged g c clean damaged =
    let fits : SFits w64 c.args.id = search rules in
    let first = subst (AreFirst 17 _) (sym c.deref.ensures.value) (simp to_z-of_z at (c.in_ok-rows.ensures.found clean)) in
    begins_none IsReceiptRow 17 _ c.deref.result.now first (c.page_of.ensures.damaged damaged)
