-- What the commit of a change makes of a tenant's rows.
use Rattle.std.specs.Prelude.{◌≡◌, ℕ, ℤ, pos, List, [], ◌∷◌, ◌++◌, length, take, map, true, if◌then◌else◌, IsPermutation}
use Rattle.table_schema.specs.sqlite_value.specs.declared.value.Value.TheVariants.{Int}
use Rattle.table_schema.specs.sqlite_value.specs.declared.keys.Collation.TheVariants.{Binary}
use Rattle.table_schema.specs.sqlite_value.specs.Order.{Row, column}
use Rattle.sqlite_trees.specs.Tree.{Trees}
use Rattle.table_schema.specs.sqlite_schema.specs.Rules.{equal}
use Rattle.crush_pool.specs.declared.exceptions.Pair.{Pair}
use Rattle.crush_pool.specs.declared.states.DeviceState.{DeviceState}
use Rattle.crush_text.specs.crush_writing.specs.Canonical.{canonical}
use Rattle.tenant_state.specs.State.{Inventory, Product, NewExceptions, NewPool, NewStates, NewVersion, RemovedPool, suits}
use Rattle.tenant_state.specs.Valid.{IsInventory}
use Rattle.table_schema.specs.Holds.{TenantRows, of_tenant}
use Rattle.table_schema.specs.Layout.{pools_table}
use Rattle.tenant_tables.specs.Change.{with_states, with_version, without_key, without_pool}
use Rattle.table_schema.specs.declared.values.StateRow.{StateRow}
use Rattle.tenant_tables.specs.Rows.{flag, row_of_pool, rows_of_pairs}

-- the numbers of a device's state
abbrev pub numbers_of : DeviceState → StateRow
numbers_of s = record { device = pos s.device; reweight = pos s.reweight; up = flag s.up }

-- the row of a pool; with `count` as the number of its pairs if the pool has the id
abbrev pub with_count : ℤ → ℤ → Row → Row
with_count id count row = if equal Binary (column row 0) (Int id) then take 8 row ++ Int count ∷ [] else row

-- the pool with the id has the pairs, and no others
abbrev pub with_new_pairs : ℕ → List Pair → TenantRows → TenantRows
with_new_pairs id pairs rows = record rows {
  pools = map (with_count (pos id) (pos (length pairs))) rows.pools;
  exceptions = rows_of_pairs id 0 pairs ++ without_key (pos id) rows.exceptions;
}

-- the rows with what is made; a version gets the number
abbrev pub rows_with_made : ℤ → Product → TenantRows → TenantRows
rows_with_made number (NewVersion m) rows = with_version number (canonical m) rows
rows_with_made number (NewStates changed) rows = with_states (map numbers_of changed) rows
rows_with_made number (NewPool p) rows = record rows { pools = row_of_pool (record { parts = p; pairs = [] }) ∷ rows.pools }
rows_with_made number (NewExceptions id pairs) rows = with_new_pairs id pairs rows
rows_with_made number (RemovedPool id) rows = without_pool (pos id) rows

-- what is made suits the pools of the tenant with the number
pub record HasPoolsFor (db : Trees) (id : ℤ) (made : Product) : Type 0 where
  pub i : Inventory
  pub has : IsInventory i
  pub rows : IsPermutation (of_tenant pools_table id db) (map row_of_pool i.pools)
  pub suits_it : suits made i ≡ true
