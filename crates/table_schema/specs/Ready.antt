-- The connection between transactions, and how a call leaves it.
use Rattle.std.specs.Prelude.{◌≡◌, ◌⊎◌, None, IsTrue}
use Rattle.sqlite_trees.specs.Tree.{Trees}
use Rattle.sqlite.specs.Effect.{Database, IsDatabase}
use Rattle.sqlite.specs.State.{State as Shown, IsUnchanged}
use Rattle.table_schema.specs.Layout.{IsStoreSchema}
use Rattle.table_schema.specs.Holds.{AreTables}

-- Nothing was committed, and while the connection is open it shows the last commit.
pub record Keeps (old new : Shown) : Type 0 where
  pub was_open : IsTrue new.is_open → IsTrue old.is_open
  pub now : IsTrue new.is_open → new.now ≡ old.committed
  pub committed : IsTrue new.is_open → new.committed ≡ old.committed

-- The connection shows `db`, and has committed it.
pub record Commits (old new : Shown) (db : Database) : Type 0 where
  pub was_open : IsTrue old.is_open
  pub is_open : IsTrue new.is_open
  pub now : new.now ≡ db
  pub committed : new.committed ≡ db

-- All is as it was, or the connection has gone back to the last commit.
abbrev pub Rests : Shown → Shown → Type 0
Rests old new = IsUnchanged old new ⊎ Keeps old new

-- The connection is open between transactions, and has this service's tables. Its statements may
-- take any number of steps.
pub record IsReady (s : Shown) : Type 0 where
  pub is_open : IsTrue s.is_open
  pub schema : IsStoreSchema s.now.schema
  pub tables : AreTables s.now.trees
  pub sound : IsDatabase s.now
  pub settled : s.now ≡ s.committed
  pub unlimited : s.step_limit ≡ None

-- The call was refused: the connection is ready as before, with the same rows, which a crash
-- doesn't change.
pub record Refuses (old new : Shown) : Type 0 where
  pub ready : IsReady new
  pub same : new.now ≡ old.now
  pub alone : (db : Trees) → new.may_leave db → db ≡ old.now.trees

-- The connection is ready as before, with the same rows.
pub record Remains (old new : Shown) : Type 0 where
  pub ready : IsReady new
  pub same : new.now ≡ old.now
