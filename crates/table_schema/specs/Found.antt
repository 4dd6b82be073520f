-- What is found where the tables are read.
use Rattle.std.specs.Prelude.{◌≡◌, ℕ, ℤ, List, [], ◌∷◌, ◌++◌, ◌⊎◌, ◌≤◌, length, filter, false, Option, Some, None, IsPermutation, IsUtf8, string_bytes}
use Rattle.std.specs.List.{AllByRecursion}
use Rattle.std.specs.Ordering.{is_gt, ordering_then}
use Rattle.std.specs.declared.cmp.Ordering.TheVariants.{Less}
use Rattle.sqlite_value.specs.declared.value.Value.TheVariants.{Int, Text as Words}
use Rattle.sqlite_value.specs.Order.{Row, column, value_cmp}
use Rattle.sqlite_trees.specs.Tree.{Trees, IsAscending}
use Rattle.table_schema.specs.Layout.{receipts_table}
use Rattle.table_schema.specs.Holds.{rows_with, of_tenant, tenants_of, IsAbsent}
use Rattle.table_schema.specs.Values.{version_row, state_row, exception_row}
use Rattle.table_schema.specs.declared.find.Tenant.{Tenant}
use Rattle.table_schema.specs.declared.rows.VersionRow.{VersionRow}
use Rattle.table_schema.specs.declared.rows.PoolRow.{PoolRow}
use Rattle.table_schema.specs.declared.rows.ReceiptRow.{ReceiptRow}
use Rattle.table_schema.specs.declared.values.ExceptionRow.{ExceptionRow}
use Rattle.table_schema.specs.declared.values.StateRow.{StateRow}

-- the number and the epoch of a row of tenants
abbrev pub head_of : Row → Row
head_of row = column row 0 ∷ column row 3 ∷ []

-- One row of tenants has the name, with the tenant's number and epoch, or no row has it.
abbrev pub Names : Trees → List ℕ → Option Tenant → Type 0
Names db name None = IsAbsent db name
Names db name (Some tenant) =
    (row : Row) × (tenants_of db name ≡ row ∷ []) × (column row 0 ≡ Int tenant.id) × (column row 3 ≡ Int tenant.epoch)

-- ---- the rows of a tenant, as values behind its number

-- a row comes before another by its first value, as SQL orders values: integers as numbers, texts
-- by their bytes
abbrev pub IsBelow : Row → Row → Type 0
IsBelow a b = value_cmp (column a 0) (column b 0) ≡ Less

-- the first values rise strictly
abbrev pub IsRising : List Row → Type 0
IsRising = IsAscending IsBelow

-- the list has each row of `all` once, in the order `Before`
pub record ListsBy (Before : Row → Row → Type 0) (all list : List Row) : Type 0 where
  pub same : IsPermutation all list
  pub rising : IsAscending Before list

-- the same in the order of the keys
abbrev pub Lists : List Row → List Row → Type 0
Lists = ListsBy IsBelow

-- a row comes before another by its first value, and where those are equal by its second
abbrev pub Precedes : Row → Row → Type 0
Precedes a b = ordering_then (value_cmp (column a 0) (column b 0)) (value_cmp (column a 1) (column b 1)) ≡ Less

-- the values of a row of maps that was read
abbrev pub version_values : VersionRow → Row
version_values row = version_row row.version (string_bytes row.text)

-- the values are those of a version
abbrev pub IsVersionRow : Row → Type 0
IsVersionRow row = (version : ℤ) × (text : List ℕ) × IsUtf8 text × (row ≡ version_row version text)

-- the values are those of a device's state
abbrev pub IsStateRow : Row → Type 0
IsStateRow row = (state : StateRow) × (row ≡ state_row state)

-- the values are those of an exception
abbrev pub IsExceptionRow : Row → Type 0
IsExceptionRow row = (e : ExceptionRow) × (row ≡ exception_row e)

-- the values of a row of pools that was read
abbrev pub pool_values : PoolRow → Row
pool_values pool =
    Int pool.id
    ∷ Words (string_bytes pool.name)
    ∷ Int pool.erasure
    ∷ Int pool.size
    ∷ Int pool.rule
    ∷ Int pool.pg_num
    ∷ Int pool.pgp_num
    ∷ Int pool.hashpspool
    ∷ Int pool.pairs
    ∷ []

-- the values are those of a pool
abbrev pub IsPoolRow : Row → Type 0
IsPoolRow row =
    (id : ℤ) × (name : List ℕ) × IsUtf8 name × (erasure : ℤ) × (size : ℤ) × (rule : ℤ) × (pg_num : ℤ) × (pgp_num : ℤ) × (hashpspool : ℤ) × (pairs : ℤ)
    × (row ≡ Int id ∷ Words name ∷ Int erasure ∷ Int size ∷ Int rule ∷ Int pg_num ∷ Int pgp_num ∷ Int hashpspool ∷ Int pairs ∷ [])

-- the values of a row of receipts that was read
abbrev pub receipt_values : ReceiptRow → Row
receipt_values receipt =
    Words (string_bytes receipt.request)
    ∷ Words (string_bytes receipt.path)
    ∷ Words (string_bytes receipt.body)
    ∷ Int receipt.status
    ∷ Words (string_bytes receipt.reply)
    ∷ []

-- the values are those of a receipt
abbrev pub IsReceiptRow : Row → Type 0
IsReceiptRow row =
    (request : List ℕ) × IsUtf8 request × (path : List ℕ) × IsUtf8 path × (body : List ℕ) × IsUtf8 body × (status : ℤ) × (reply : List ℕ) × IsUtf8 reply
    × (row ≡ Words request ∷ Words path ∷ Words body ∷ Int status ∷ Words reply ∷ [])

-- the tenant's receipts with the request
abbrev pub receipts_with : Trees → ℤ → List ℕ → List Row
receipts_with db id request = rows_with 0 (Words request) (of_tenant receipts_table id db)

-- the rows are the row of the receipt, or none
abbrev pub AreReceipt : List Row → Option ReceiptRow → Type 0
AreReceipt rows None = rows ≡ []
AreReceipt rows (Some receipt) = rows ≡ receipt_values receipt ∷ []

-- The rows are those of `all` in some order, and in the order `Before` where no two are alike in
-- it.
pub record AreOrderedBy (Before : Row → Row → Type 0) (all rows : List Row) : Type 0 where
  pub same : IsPermutation all rows
  pub in_order : (list : List Row) → ListsBy Before all list → rows ≡ list

-- the rows whose first value is above a text, as SQL orders values
abbrev pub rows_above : List ℕ → List Row → List Row
rows_above after rows = filter (λ row. is_gt (value_cmp (column row 0) (Words after))) rows

-- those rows, or all of them where there is no text
abbrev pub rows_behind : Option (List ℕ) → List Row → List Row
rows_behind None rows = rows
rows_behind (Some after) rows = rows_above after rows

-- The page is the first `most` rows of `all` in the order of the keys, or all of them.
pub record Begins (most : ℕ) (all page : List Row) : Type 0 where
  pub rest : List Row
  pub same : IsPermutation all (page ++ rest)
  pub rising : IsRising page
  pub above : AllByRecursion (λ row. AllByRecursion (IsBelow row) rest) page
  pub whole : (rest ≡ []) ⊎ (length page ≡ most)

-- The rows are the first `most` rows of `all` in an order of the keys, or all of them. The order is
-- the strict one where no key occurs twice.
pub record AreFirst (most : ℕ) (all rows : List Row) : Type 0 where
  pub rest : List Row
  pub short : length rows ≤ most
  pub same : IsPermutation all (rows ++ rest)
  pub sorted : IsAscending (λ a b. is_gt (value_cmp (column a 0) (column b 0)) ≡ false) (rows ++ rest)
  pub in_order : (list : List Row) → Lists all list → rows ++ rest ≡ list
  pub whole : (rest ≡ []) ⊎ (length rows ≡ most)

-- The rows rise. All of them are on the page, and are at most 16, or all but the last of them are,
-- and are at least 16.
pub record IsPageOf (rows page : List Row) : Type 0 where
  pub rising : IsRising rows
  pub split : (rows ≡ page) × (length page ≤ 16) ⊎ ((last : Row) × (rows ≡ page ++ last ∷ []) × (16 ≤ length page))
