-- Receipts are judged a page at a time.
use Rattle.std.specs.Prelude.{ℕ, ◌≡◌, ◌⊎◌, ◌↔◌, List, length, map, true, Option, Some, None, IsPermutation, string_bytes}
use Rattle.std.specs.List.{list_all}
use Rattle.table_schema.specs.sqlite_value.specs.Order.{Row}
use Rattle.tenant_state.specs.Ordered.{is_ascending}
use Rattle.tenant_state.specs.Receipts.{Receipts, is_before}
use Rattle.tenant_state.specs.Valid.{is_receipt}
use Rattle.tenant_state.specs.declared.receipts.Receipt.{Receipt}
use Rattle.table_schema.specs.Found.{rows_above}
use Rattle.tenant_tables.specs.Rows.{row_of_receipt}
use Rattle.tenant_tables.specs.declared.judge.Rest.{Rest}

-- the values are those of a receipt under its request number
abbrev pub IsOfReceipt : Row → Type 0
IsOfReceipt row = (r : List ℕ × Receipt) × (is_receipt r ≡ true) × (row ≡ row_of_receipt r)

-- the rows are those of `count` receipts, in any order
pub record AreReceipts (count : ℕ) (rows : List Row) : Type 0 where
  pub receipts : Receipts
  pub number : length receipts ≡ count
  pub ranges : list_all is_receipt receipts ≡ true
  pub order : is_ascending is_before receipts ≡ true
  pub same : IsPermutation rows (map row_of_receipt receipts)

-- the rows are all rows, or those above a text
abbrev pub IsTail : List Row → List Row → Type 0
IsTail all rows = (rows ≡ all) ⊎ ((after : List ℕ) × (rows ≡ rows_above after all))

-- The rows are those of `count` receipts; or they are so exactly where the rows that remain to be
-- judged are those of `rest.left` receipts.
abbrev pub Leaves : List Row → List Row → ℕ → Option Rest → Type 0
Leaves all rows count None = AreReceipts count rows
Leaves all rows count (Some rest) = AreReceipts count rows ↔ AreReceipts rest.left (rows_above (string_bytes rest.after) all)
