-- Tables as a store of states, of which contracts see the connection and whether a call has failed
-- for good.
use Rattle.std.specs.Prelude.{◌≡◌, ℕ, List, Bool, false, Option}
use Rattle.sqlite.specs.Held.{Held, state}
use Rattle.sqlite.specs.State.{HasCleanDisk}
use Rattle.sqlite.specs.Store.{Ghosts}
use Rattle.table_schema.specs.sqlite_trees.specs.Tree.{Trees}
use Rattle.tenant_core.specs.States.{Found, Shows}
use Rattle.tenant_tables.specs.Rows.{StandsFor}
use Rattle.tenant_core.specs.tenant_state.specs.State.{TenantState}
use Rattle.table_schema.specs.Ready.{IsReady}

-- the rows of a name stand for one state at most
abbrev pub OneState : Type 0
OneState = (db : Trees) (name : List ℕ) (s t : Option TenantState) → StandsFor db name s → StandsFor db name t → s ≡ t

-- The disk returns what was written, and the rows of a name stand for one state at most.
pub record IsHonest {S : Type 0} (g : Ghosts S) (store : Held S × Bool) : Type 0 where
  -- the disk has returned what was written so far
  pub clean : HasCleanDisk (state g store.0)
  -- while no call has failed for good, the connection is open between transactions, with this
  -- service's tables
  pub ready : store.1 ≡ false → IsReady (state g store.0)
  -- rows of a name stand for one state at most, as all rows do (law `names_stand_for_one_state`)
  pub one_state : OneState

module _ {S : Type 0} (g : Ghosts S) where
  -- the rows of the name stand for the state, or for no tenant
  abbrev pub HasState : Held S × Bool → List ℕ → Option TenantState → Type 0
  HasState store t s = StandsFor (state g store.0).now.trees t s

  -- rows that a stop now may leave show `found` of the name
  abbrev pub MayLeave : Held S × Bool → List ℕ → Found → Type 0
  MayLeave store t found = (db : Trees) × (state g store.0).may_leave db × Shows (StandsFor db) t found

  -- all rows are the same
  abbrev pub Keeps : Held S × Bool → Held S × Bool → Type 0
  Keeps old new = (state g new.0).now ≡ (state g old.0).now
