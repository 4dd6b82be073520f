use mir.Val.{SFits}
use mir.Syntax.{w64}
use Rattle.std.proofs.Common.{◌≡◌, ◌∙◌, ℕ, List, rules, arith, map, length, sym, ap, subst}
use Rattle.std.proofs.lemmas.Int.{to_z-of_z}
use Rattle.tenant_state.specs.Receipts.{Receipts}
use Rattle.tenant_state.specs.State.{Inventory, inventory_of}
use Rattle.tenant_state.specs.Valid.{IsState}
use Rattle.table_schema.specs.Found.{receipt_values}
use Rattle.table_schema.specs.declared.rows.ReceiptRow.{ReceiptRow}
use Rattle.tenant_tables.specs.Lists.{AreRowsOf, AreRowsOfState}
use Rattle.tenant_tables.specs.Rows.{row_of_receipt}
use Rattle.tenant_tables.proofs.Counting.{count_rows}
use Rattle.tenant_tables.proofs.Whole.{has_of_state, is_state_of, are_rows_of_state}
use Rattle.tenant_tables.proofs.state.from_rows.Goals as goal

pub returns-in_default-clause-none : goal.returns-in_default-clause-none
returns-in_default-clause-none c = λ _ s is rows.
    let fits : SFits w64 c.args.epoch = search rules in
    c.in_ok-inventory.ensures.none c.in_default.is (inventory_of s) (has_of_state s is)
    (subst (λ e. AreRowsOf (inventory_of s) e c.args.versions.items c.args.states.items c.args.pools.items c.args.exceptions.now) (sym (to_z-of_z w64 c.args.epoch fits)) rows.has)

-- the epoch is the number of the rows, and so of the receipts
count_is : (i now : Inventory) (rows : List ReceiptRow) (receipts : Receipts) (epoch count : ℕ) → now ≡ i → epoch ≡ now.epoch → epoch ≡ count → count ≡ length rows
    → map receipt_values rows ≡ map row_of_receipt receipts → i.epoch ≡ length receipts
count_is i now rows receipts epoch count shown read same long are =
    ap (λ (x : Inventory). x.epoch) (sym shown) ∙ (sym read ∙ (same ∙ (long ∙ count_rows receipt_values row_of_receipt rows receipts are)))

pub of-requires-clause-epoch : goal.of-requires-clause-epoch
of-requires-clause-epoch c =
    let them = rw c.in-Some-2.is at c.in_ok-receipts.ensures.some in
    let long : c.len-count.result ≡ length c.args.receipts.items = search rules in
    let even : c.epoch.result ≡ c.len-count.result = omega (arith, c.if-epoch-count.false) in
    count_is c.in-Some.inventory.value c.deref.result.now c.args.receipts.items c.in-Some-2.receipts c.epoch.result c.len-count.result c.deref.ensures c.epoch.ensures.same even long them.2

pub of-requires-clause-state : goal.of-requires-clause-state
of-requires-clause-state c =
    let it = rw c.in-Some.is at c.in_ok-inventory.ensures.some in
    let them = rw c.in-Some-2.is at c.in_ok-receipts.ensures.some in
    let long : c.len-count.result ≡ length c.args.receipts.items = search rules in
    let even : c.epoch.result ≡ c.len-count.result = omega (arith, c.if-epoch-count.false) in
    let count = count_is c.in-Some.inventory.value c.deref.result.now c.args.receipts.items c.in-Some-2.receipts c.epoch.result c.len-count.result c.deref.ensures c.epoch.ensures.same even long them.2 in
    is_state_of c.in-Some.inventory.value c.in-Some-2.receipts it.0 count them.0 them.1

pub returns-clause-some : goal.returns-clause-some
returns-clause-some c =
    let a = c.args in
    let i = c.in-Some.inventory.value in
    let receipts = c.in-Some-2.receipts in
    let fits : SFits w64 c.args.epoch = search rules in
    let it = rw c.in-Some.is at c.in_ok-inventory.ensures.some in
    let them = rw c.in-Some-2.is at c.in_ok-receipts.ensures.some in
    let long : c.len-count.result ≡ length c.args.receipts.items = search rules in
    let even : c.epoch.result ≡ c.len-count.result = omega (arith, c.if-epoch-count.false) in
    let count = count_is c.in-Some.inventory.value c.deref.result.now c.args.receipts.items c.in-Some-2.receipts c.epoch.result c.len-count.result c.deref.ensures c.epoch.ensures.same even long them.2 in
    let rows = subst (λ e. AreRowsOf i e a.versions.items a.states.items a.pools.items a.exceptions.now) (to_z-of_z w64 c.args.epoch fits) it.1 in
    subst (λ s. IsState s × AreRowsOfState s a.epoch a.versions.items a.states.items a.pools.items a.exceptions.now a.receipts.items) (sym c.of.ensures)
    (is_state_of i receipts it.0 count them.0 them.1, are_rows_of_state i receipts a.epoch a.versions.items a.states.items a.pools.items a.exceptions.now a.receipts.items count rows them.2)
