-- What commits accept, of integers that go through machine words.
use Rattle.std.proofs.Common.{◌≡◌, ◌∙◌, ℤ, to_z, of_z, ap, sym, subst}
use Rattle.std.proofs.lemmas.Int.{to_z-of_z}
use mir.Val.{SFits}
use mir.Syntax.{w64}
use Rattle.sqlite_trees.specs.Tree.{Trees}
use Rattle.tenant_state.specs.State.{Change, Product}
use Rattle.tenant_state.specs.declared.receipts.Receipt as state
use Rattle.tenant_tables.specs.Change.{IsNumber}
use Rattle.table_schema.specs.Values.{receipt_row}
use Rattle.table_schema.specs.declared.values.ReceiptValues.{ReceiptValues}
use Rattle.tenant_tables.specs.Commits.{HasPoolsFor, rows_with_made}
use Rattle.tenant_tables.specs.Rows.{row_of_receipt}

abbrev pub word : ℤ → ℤ
word n = to_z w64 (of_z w64 n)

pub word_is : (n : ℤ) → SFits w64 n → word n ≡ n
word_is = to_z-of_z w64

pub number_of : (db : Trees) (id : ℤ) → SFits w64 id → IsNumber db id → IsNumber db (word id)
number_of db id fits is = subst (IsNumber db) (sym (word_is id fits)) is

pub pools_of : (db : Trees) (id : ℤ) (made : Product) → SFits w64 id → HasPoolsFor db id made → HasPoolsFor db (word id) made
pools_of db id made fits has = subst (λ n. HasPoolsFor db n made) (sym (word_is id fits)) has

pub made_is : (number : ℤ) (a b : Change) → SFits w64 number → a ≡ b → rows_with_made (word number) a.made ≡ rows_with_made number b.made
made_is number a b fits same = ap (λ n. rows_with_made n a.made) (word_is number fits) ∙ ap (λ (x : Change). rows_with_made number x.made) same

pub receipt_is : (values : ReceiptValues) (receipt : state.Receipt) (a b : Change) → receipt_row values ≡ row_of_receipt (a.number, receipt) → receipt ≡ a.receipt → a ≡ b → receipt_row values ≡ row_of_receipt (b.number, b.receipt)
receipt_is values receipt a b row one same = row ∙ ap (λ (r : state.Receipt). row_of_receipt (a.number, r)) one ∙ ap (λ (x : Change). row_of_receipt (x.number, x.receipt)) same
