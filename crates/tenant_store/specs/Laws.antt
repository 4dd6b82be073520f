-- Laws of tables as a store, and of a store whose files are watched.
use Rattle.std.specs.Prelude.{◌≡◌, ℕ, List, Bool, IsTrue, ◌||◌, true, false}
use Rattle.std.proofs.Common.{◌∙◌, sym, ap, subst, refl}
use Rattle.sqlite.specs.Effect.{Database}
use Rattle.sqlite.specs.Held.{Held, state}
use Rattle.sqlite.specs.Store.{Ghosts}
use Rattle.table_schema.specs.sqlite_trees.specs.Tree.{Trees}
use Rattle.tenant_core.specs.States.{Found, Same, Shows}
use Rattle.tenant_tables.specs.Rows.{StandsFor}
use Rattle.table_schema.specs.Ready.{IsReady}

module _ {S : Type 0} (g : Ghosts S) where
  -- the disk of an open connection leaves what was committed
  abbrev pub LeavesCommitted : Type 0
  LeavesCommitted = (s : S) (db : Trees) → IsTrue (g.view s).is_open → g.recovers s db → db ≡ (g.view s).committed

  -- between calls a stop leaves what is shown
  pub left_alone : LeavesCommitted → (store : Held S × Bool) → IsReady (state g store.0) → (db : Trees) → (state g store.0).may_leave db → db ≡ (state g store.0).now.trees
  left_alone law store ready db left = law store.0.store db ready.is_open left ∙ ap (λ (d : Database). d.trees) (sym ready.settled)

-- the same rows stand for the same states
pub keeps_states : (old new : Database) → new ≡ old → Same (StandsFor old.trees) (StandsFor new.trees)
keeps_states old new same t s = (
  λ has. subst (λ (d : Database). StandsFor d.trees t s) (sym same) has,
  λ has. subst (λ (d : Database). StandsFor d.trees t s) same has,
)

-- between calls what was committed shows what the tables have
pub settled : (now committed : Database) (left : Trees) (t : List ℕ) (found : Found) → now ≡ committed → left ≡ committed.trees → Shows (StandsFor left) t found → Shows (StandsFor now.trees) t found
settled now committed left t found same is shows = subst (λ (db : Trees). Shows (StandsFor db) t found) (is ∙ ap (λ (d : Database). d.trees) (sym same)) shows

-- while a watched store isn't latched, the store below isn't
pub works_below : (below missed : Bool) → (below || missed) ≡ false → below ≡ false
works_below false missed works = refl
works_below true missed works = works
