-- Which rows of the tables are a tenant's, and what a write makes of them.
use Rattle.std.specs.Prelude.{◌≡◌, ◌≢◌, ℕ, ℤ, ◌+◌, ◌-◌, pos, List, [], ◌∷◌, map, filter, find, option_map, unwrap_or, drop, IsPermutation}
use Rattle.std.specs.List.{AllByRecursion}
use Rattle.sqlite_value.specs.declared.value.Value.{Value}
use Rattle.sqlite_value.specs.declared.value.Value.TheVariants.{Int, Text as Words}
use Rattle.sqlite_value.specs.declared.keys.Collation.TheVariants.{Binary}
use Rattle.sqlite_value.specs.Order.{Row, column}
use Rattle.sqlite_trees.specs.declared.store.Shape.TheVariants.{Table}
use Rattle.sqlite_trees.specs.Tree.{Trees}
use Rattle.sqlite_trees.specs.View.{IsShaped}
use Rattle.sqlite_schema.specs.declared.schema.Column.{Column}
use Rattle.sqlite_schema.specs.declared.schema.Table as schema
use Rattle.sqlite_schema.specs.Rules.{equal}
use Rattle.sqlite_trees.specs.Objects.{catalog_tree, number_in}
use Rattle.sqlite_catalog.specs.Listing.{is_table_row}
use Rattle.sqlite_rules.specs.Lists.{Has}
use Rattle.table_schema.specs.Layout.{tenants_table, maps_table, devices_table, pools_table, receipts_table, exceptions_table, tables_of_tenants}

-- A row is its rowid and then its columns, so that the first column has place 1. An INTEGER PRIMARY
-- KEY is the rowid.

-- The tree of the table with the name, as sqlite_schema lists it: the row with rowid n describes
-- what has tree n - 1.
abbrev pub tree_of : Trees → List ℕ → ℕ
tree_of db name =
    unwrap_or (option_map (λ row. number_in (column row 0) - 1) (find (λ row. equal Binary (column row 2) (Words name)) (filter is_table_row (db catalog_tree)))) 0

-- the rows of the table
abbrev pub rows_in : schema.Table → Trees → List Row
rows_in table db = db (tree_of db table.name)

-- the rows that have the value at a place, as SQL compares
abbrev pub rows_with : ℕ → Value → List Row → List Row
rows_with place value rows = filter (λ row. equal Binary (column row place) value) rows

-- the rows of tenants with the name
abbrev pub tenants_of : Trees → List ℕ → List Row
tenants_of db name = rows_with 2 (Words name) (rows_in tenants_table db)

-- one row of tenants has the name, with the number `id` and the epoch `epoch`
pub record IsTenant (db : Trees) (name : List ℕ) (id : ℤ) (epoch : ℕ) : Type 0 where
  pub row : Row
  pub one : tenants_of db name ≡ row ∷ []
  pub number : column row 0 ≡ Int id
  pub epoch_is : column row 3 ≡ Int (pos epoch)

-- no row of tenants has the name
abbrev pub IsAbsent : Trees → List ℕ → Type 0
IsAbsent db name = tenants_of db name ≡ []

-- the values of the columns, from a place on
abbrev pub values_from : ℕ → List Column → Row → Row
values_from place [] row = []
values_from place (column-there ∷ columns) row = column row place ∷ values_from (place + 1) columns row

-- the values of a row of a tenant, without its rowid and the tenant's number
abbrev pub values_of : schema.Table → Row → Row
values_of table row = values_from 2 (drop 1 table.columns) row

-- the values of the tenant's rows in a table
abbrev pub of_tenant : schema.Table → ℤ → Trees → List Row
of_tenant table id db = map (values_of table) (rows_with 1 (Int id) (rows_in table db))

-- the rows of one tenant, each as the values behind the tenant's number
pub record TenantRows : Type 0 where
  pub epoch : ℕ
  pub maps : List Row
  pub devices : List Row
  pub pools : List Row
  pub receipts : List Row
  pub exceptions : List Row

-- The name is that of a tenant with these rows, in any order.
pub record Holds (db : Trees) (name : List ℕ) (rows : TenantRows) : Type 0 where
  pub id : ℤ
  pub tenant : IsTenant db name id rows.epoch
  pub maps : IsPermutation (of_tenant maps_table id db) rows.maps
  pub devices : IsPermutation (of_tenant devices_table id db) rows.devices
  pub pools : IsPermutation (of_tenant pools_table id db) rows.pools
  pub receipts : IsPermutation (of_tenant receipts_table id db) rows.receipts
  pub exceptions : IsPermutation (of_tenant exceptions_table id db) rows.exceptions

-- The rows of the name are the same lists, whether or not they are those of one tenant.
pub record KeepsRowsOf (name : List ℕ) (old new : Trees) : Type 0 where
  pub tenants : tenants_of new name ≡ tenants_of old name
  pub tables : (row : Row) → Has (tenants_of old name) row
      → AllByRecursion (λ table. rows_with 1 (column row 0) (rows_in table new) ≡ rows_with 1 (column row 0) (rows_in table old)) tables_of_tenants

-- `Own` holds of the new trees, and the rows of each other name are unchanged.
pub record Turns (name : List ℕ) (Own : Trees → Type 0) (old new : Trees) : Type 0 where
  pub own : Own new
  pub others : (other : List ℕ) → other ≢ name → KeepsRowsOf other old new

-- The rowids of each table are integers that rise, so that each names one row, as in every database
-- that SQLite writes.
pub record AreTables (db : Trees) : Type 0 where
  pub tenants : IsShaped Table (rows_in tenants_table db)
  pub others : AllByRecursion (λ table. IsShaped Table (rows_in table db)) tables_of_tenants
