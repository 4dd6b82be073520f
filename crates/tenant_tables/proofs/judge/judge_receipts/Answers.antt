use mir.Val.{SFits}
use mir.Syntax.{w64}
use Rattle.std.proofs.Common.{◌≡◌, ◌∙◌, List, map, pos, to_z, of_z, inr, rules, refl, sym, ap, ap₂, subst, arith, Err, string_bytes}
use Rattle.std.proofs.lemmas.Int.{to_z-of_z}
use Rattle.std.proofs.lemmas.Result.{err_from_is_err_and}
use Rattle.table_schema.specs.sqlite_value.specs.Order.{Row}
use Rattle.sqlite.specs.Effect.{Database}
use Rattle.sqlite.specs.Held.{state}
use Rattle.sqlite.specs.State.{HasCleanDisk}
use Rattle.table_schema.specs.Found.{Begins, rows_above, receipt_values}
use Rattle.table_schema.specs.Holds.{of_tenant}
use Rattle.table_schema.specs.Layout.{receipts_table}
use Rattle.tenant_tables.specs.Changes.{HasReceipts}
use Rattle.tenant_tables.specs.Pages.{AreReceipts, Leaves}
use Rattle.tenant_tables.proofs.Listed.{same_tenant, worded}
use Rattle.tenant_tables.proofs.Pages.{unlisted, chained, receipts_are, same_fault}
use Rattle.tenant_tables.proofs.judge.judge_receipts.Goals as goal

-- the first page is that of no receipts
pub returns-in_err-page-clause-damaged : goal.returns-in_err-page-clause-damaged
returns-in_err-page-clause-damaged g c clean damaged = λ receipts h.
    let fits : SFits w64 c.args.tenant.now.id = search rules in
    let number : c.args.tenant.now.epoch ≡ pos c.in-Ok.number = search rules in
    let p = err_from_is_err_and c.from_residual.result c.from_residual.ensures.1 in
    let fault = same_fault c.from_residual.result p.0 _ _ p.1 p.2 damaged in
    let db = (state g.S.Store c.args.tables.now.0).now.trees in
    let own = same_tenant (λ d t. HasReceipts d t receipts) (state g.S.Store c.args.tables.now.0).now _ c.args.tenant.now fits refl h in
    unlisted _ c.in-Ok.number (c.in_err-page.ensures.damaged clean (ap Err fault)) (receipts_are db (worded c.args.tenant.now) c.in-Ok.number receipts number own)

-- a later page is that of no receipts
pub returns-in_err-page-2-clause-damaged : goal.returns-in_err-page-2-clause-damaged
returns-in_err-page-2-clause-damaged g c clean damaged = λ receipts h.
    let fits : SFits w64 c.args.tenant.now.id = search rules in
    let number : c.args.tenant.now.epoch ≡ pos c.in-Ok.number = search rules in
    let p = err_from_is_err_and c.from_residual-in_err-page-2.result c.from_residual-in_err-page-2.ensures.1 in
    let fault = same_fault c.from_residual-in_err-page-2.result p.0 _ _ p.1 p.2 damaged in
    let db = (state g.S.Store c.args.tables.now.0).now.trees in
    let early : HasCleanDisk (state g.S.Store c.loop-rest.tables.0) = omega (arith, clean, c.receipts_behind-in-Some.ensures.reads.crash.clean) in
    let decides = subst (Leaves _ _ c.in-Ok.number) c.in-Some.is (c.loop-rest.invariant.leaves early) in
    let trees = ap (λ (d : Database). d.trees) (c.loop-rest.invariant.same early) in
    let left = decides.0 (receipts_are db c.args.tenant.now c.in-Ok.number receipts number h) in
    let rows = ap₂ (λ t d. rows_above t (of_tenant receipts_table (to_z w64 (of_z w64 c.args.tenant.now.id)) d)) c.as_str.ensures.value trees
    ∙ ap (λ n. rows_above (string_bytes c.in-Some.more.after) (of_tenant receipts_table n db)) (to_z-of_z w64 c.args.tenant.now.id fits) in
    unlisted _ c.in-Some.more.left (c.in_err-page-2.ensures.damaged clean (ap Err fault)) (subst (AreReceipts c.in-Some.more.left) (sym rows) left)

-- parts that the tactic finds one at a time
pub returns-in_err-page-2-clause-reads : goal.returns-in_err-page-2-clause-reads
returns-in_err-page-2-clause-reads g c = record { full = search rules; kept = search rules; latches = search rules; crash = search rules }

pub returns-in_err-rest-2-clause-reads : goal.returns-in_err-rest-2-clause-reads
returns-in_err-rest-2-clause-reads g c = record { full = search rules; kept = search rules; latches = search rules; crash = search rules }

-- one more page
pub loop-rest-preserved : goal.loop-rest-preserved
loop-rest-preserved g c = record {
  live = search rules;
  number = search rules;
  same = search rules;
  crash = search rules;
  leaves = λ clean.
      let early : HasCleanDisk (state g.S.Store c.loop-rest.tables.0) = omega (arith, clean, c.receipts_behind-in-Some.ensures.reads.crash.clean) in
      let decides = subst (Leaves _ _ c.in-Ok.number) c.in-Some.is (c.loop-rest.invariant.leaves early) in
      let trees = ap (λ (d : Database). d.trees) (c.loop-rest.invariant.same early) in
      let fits : SFits w64 c.args.tenant.now.id = search rules in
      let db = (state g.S.Store c.args.tables.now.0).now.trees in
      let all : List Row = of_tenant receipts_table c.args.tenant.now.id db in
      let later : List Row = rows_above (string_bytes c.in-Some.more.after) all in
      let rows = ap₂ (λ t d. rows_above t (of_tenant receipts_table (to_z w64 (of_z w64 c.args.tenant.now.id)) d)) c.as_str.ensures.value trees
      ∙ ap (λ n. rows_above (string_bytes c.in-Some.more.after) (of_tenant receipts_table n db)) (to_z-of_z w64 c.args.tenant.now.id fits) in
      let found = subst (λ l. Begins 16 l (map receipt_values c.in_ok-page-2.page.items)) rows (c.in_ok-page-2.ensures.found clean) in
      let next = c.in_ok-rest-2.ensures.leaves all later (inr (string_bytes c.in-Some.more.after, refl)) found in
      chained all all later c.in-Ok.number c.in-Some.more.left c.in_ok-rest-2.rest decides next;
}
