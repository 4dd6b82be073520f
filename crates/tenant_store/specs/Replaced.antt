-- What an opening puts in the place of the tables that a database had.
use Rattle.std.specs.Prelude.{◌≡◌, ◌⊎◌}
use Rattle.sqlite.specs.Effect.{Database}
use Rattle.table_schema.specs.sqlite_trees.specs.Tree.{Trees}
use Rattle.table_schema.specs.Layout.{no_schema, first_schema}
use Rattle.tenant_core.specs.States.{Same}
use Rattle.tenant_tables.specs.Rows.{StandsFor, StatesIn}
use Rattle.tenant_tables.specs.Opened.{HasVersion}

-- The rows are those of schema 2, whole, in the place of no tables, or of those of schema 1. They
-- stand for the states that the database had.
pub record Replaces (old : Database) (new : Trees) : Type 0 where
  pub first : (old.schema ≡ no_schema) ⊎ ((old.schema ≡ first_schema) × HasVersion 1 old.trees)
  pub version : HasVersion 2 new
  pub same : Same (StatesIn old) (StandsFor new)
