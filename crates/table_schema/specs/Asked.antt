-- Queries that no database of a schema refuses.
use Rattle.std.specs.Prelude.{◌≡◌, ◌≤◌, ℕ, ℤ, List, [], ◌∷◌, length, false, None, Result, Ok, Err}
use Rattle.sqlite_value.specs.declared.value.Value.TheVariants.{Int}
use Rattle.sqlite_value.specs.Order.{Row}
use Rattle.sqlite_schema.specs.declared.schema.Schema.{Schema}
use Rattle.sqlite_schema.specs.declared.schema.Table.{Table}
use Rattle.sqlite_resolve.specs.declared.compiled.Compiled.{Compiled}
use Rattle.sqlite_resolve.specs.declared.error.CompileError.{CompileError}
use Rattle.sqlite.specs.Effect.{Database, IsDatabase, Reads, RefusesToRead}
use Rattle.sqlite.specs.Given.{IsPlain}
use Rattle.sqlite.specs.Listing.{understood, reads_listing}
use Rattle.sqlite.specs.declared.error.Error.{Error}
use Rattle.table_schema.specs.Layout.{store_schema}
use Rattle.table_schema.specs.Holds.{of_tenant}
use Rattle.table_schema.specs.Found.{AreOrderedBy}
use Rattle.table_schema.specs.declared.schema.Layout.{Layout}

-- The text is one statement with these parameters. It doesn't read the time, and each database of
-- the schema answers it.
abbrev pub Answered : Schema → List ℕ → Row → Result Compiled CompileError → Type 0
Answered schema sql params (Ok c) =
    (length sql ≤ c.tail)
    × (length params ≡ length c.names)
    × (c.formats ≡ [])
    × (c.returning ≡ None)
    × ((db : Database) (e : Error) → db.schema ≡ schema → ¬ RefusesToRead None c.command db params e)
Answered schema sql params (Err e) = ⊥

-- Each database of the schema answers the query, which doesn't read the list of tables.
pub record IsSafe (schema : Schema) (sql : List ℕ) (params : Row) : Type 0 where
  pub unlisted : reads_listing schema sql ≡ false
  pub answered : Answered schema sql params (understood schema sql)

-- Each database with this service's tables answers the query, which changes none.
pub record IsAnswered (sql : List ℕ) (params : Row) : Type 0 where
  pub plain : (layout : Layout) → IsPlain (understood (store_schema layout) sql)
  pub safe : (layout : Layout) → IsSafe (store_schema layout) sql params

-- The text as the schema reads it answers these rows from the database.
abbrev pub Shows : Result Compiled CompileError → Database → Row → List Row → Type 0
Shows (Ok c) db params rows = Reads c.command db params rows
Shows (Err e) db params rows = ⊥

-- The query shows the rows of the tenant that is its parameter, in this order.
pub record Selects (Before : Row → Row → Type 0) (table : Table) (sql : List ℕ) : Type 0 where
  pub answered : (id : ℤ) → IsAnswered sql (Int id ∷ [])
  pub shows : (layout : Layout) (id : ℤ) (db : Database) (rows : List Row) → db.schema ≡ store_schema layout → IsDatabase db
      → Shows (understood (store_schema layout) sql) db (Int id ∷ []) rows → AreOrderedBy Before (of_tenant table id db.trees) rows
