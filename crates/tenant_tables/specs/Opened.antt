-- The tables as an opening makes, finds or replaces them.
use Rattle.std.specs.Prelude.{◌≡◌, ◌⊎◌, ◌++◌, ◌≢◌, ℕ, ℤ, pos, [], ◌∷◌, map, IsPermutation, IsTrue}
use Rattle.table_schema.specs.sqlite_value.specs.declared.value.Value.TheVariants.{Int}
use Rattle.table_schema.specs.sqlite_value.specs.Order.{column}
use Rattle.std.specs.List.{AllByRecursion}
use Rattle.sqlite_trees.specs.Tree.{Trees}
use Rattle.sqlite_trees.specs.declared.store.Shape.TheVariants.{Table}
use Rattle.sqlite_trees.specs.View.{IsShaped}
use Rattle.table_schema.specs.declared.schema.Layout.{Layout}
use Rattle.sqlite.specs.Schema.{Schema}
use Rattle.sqlite.specs.Effect.{Database, IsDatabase}
use Rattle.sqlite.specs.State.{State as Shown}
use Rattle.table_schema.specs.Layout.{no_schema, IsStoreSchema, first_schema, receipts_tree, pools_tree, exceptions_tree, info_table, tenants_table, sequence_table, maps_table, devices_table, receipts_table, first_pools_table, pools_table, exceptions_table, tables_of_tenants}
use Rattle.table_schema.specs.Holds.{rows_in, values_from}

-- The tables say that they are those of the schema `version`, in one row of 1 and `version`.
abbrev pub SaysVersion : ℤ → Trees → Type 0
SaysVersion version db = map (λ row. column row 0 ∷ column row 2 ∷ []) (rows_in info_table db) ≡ (Int (pos 1) ∷ Int version ∷ []) ∷ []

abbrev pub HasVersion : ℕ → Trees → Type 0
HasVersion version = SaysVersion (pos version)

-- the tables are those of schema 1 or of schema 2
abbrev pub IsKnown : Schema → Type 0
IsKnown schema = (schema ≡ first_schema) ⊎ IsStoreSchema schema

-- this service's tables, with no tenant
pub record IsBare (db : Database) : Type 0 where
  pub schema : IsStoreSchema db.schema
  pub version : HasVersion 2 db.trees
  pub tenants : rows_in tenants_table db.trees ≡ []
  pub others : AllByRecursion (λ table. rows_in table db.trees ≡ []) tables_of_tenants
  pub sound : IsDatabase db

-- Schema 2 is in the place of schema 1: each row of its pools has the same values and 0 for the
-- number of its exceptions, of which there are none, and each other table has the same rows.
pub record Migrates (old new : Trees) : Type 0 where
  pub version : HasVersion 2 new
  pub tables : AllByRecursion (λ table. rows_in table new ≡ rows_in table old) (tenants_table ∷ sequence_table ∷ maps_table ∷ devices_table ∷ receipts_table ∷ [])
  pub pools : IsPermutation (map (values_from 1 pools_table.columns) (rows_in pools_table new)) (map (λ row. values_from 1 first_pools_table.columns row ++ Int (pos 0) ∷ []) (rows_in first_pools_table old))
  pub exceptions : rows_in exceptions_table new ≡ []

-- the tables of schema 1 have been replaced
pub record IsMigrated (old db : Database) : Type 0 where
  pub schema : IsStoreSchema db.schema
  pub first : HasVersion 1 old.trees
  pub rows : Migrates old.trees db.trees
  pub sound : IsDatabase db

-- There are tables. They are not this service's, or say another version than their schema's.
pub record IsStrange (db : Database) : Type 0 where
  pub some : db.schema ≢ no_schema
  pub store : IsStoreSchema db.schema → ¬ HasVersion 2 db.trees
  pub first : db.schema ≡ first_schema → ¬ HasVersion 1 db.trees

-- The tables have been made where there were none, or those of schema 1 have been replaced.
abbrev pub SetsUp : Database → Trees → Type 0
SetsUp old trees =
    ((old.schema ≡ no_schema) × ((db : Database) × IsBare db × (trees ≡ db.trees)))
    ⊎ ((old.schema ≡ first_schema) × ((db : Database) × IsMigrated old db × (trees ≡ db.trees)))

-- The connection is open, and what it shows and has committed is unchanged.
pub record Stays (old new : Shown) : Type 0 where
  pub is_open : IsTrue new.is_open
  pub now : new.now ≡ old.now
  pub committed : new.committed ≡ old.committed

-- The rows of the tables, in the trees of the layout, are stored by rowid, and each rowid names one
-- row.
abbrev pub AreTablesAt : Layout → Trees → Type 0
AreTablesAt layout db = AllByRecursion (λ tree. IsShaped Table (db tree)) (1 ∷ 4 ∷ 6 ∷ pools_tree layout ∷ receipts_tree layout ∷ exceptions_tree layout ∷ [])
