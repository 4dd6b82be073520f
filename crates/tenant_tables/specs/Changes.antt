-- What calls make of the states that rows stand for.
use Rattle.std.specs.Prelude.{ℕ, pos, ◌≡◌, ◌≢◌, ◌↔◌, List, Option, Some, map, true, length, IsPermutation}
use Rattle.std.specs.List.{list_all}
use Rattle.sqlite_trees.specs.Tree.{Trees}
use Rattle.tenant_state.specs.Ordered.{is_ascending}
use Rattle.tenant_state.specs.Receipts.{Receipts, is_before}
use Rattle.tenant_state.specs.State.{CanMake, Change, Inventory, TenantState}
use Rattle.tenant_state.specs.Valid.{is_receipt}
use Rattle.table_schema.specs.Layout.{maps_table, devices_table, pools_table, receipts_table, exceptions_table}
use Rattle.table_schema.specs.Found.{Names}
use Rattle.table_schema.specs.Holds.{of_tenant}
use Rattle.table_schema.specs.declared.find.Tenant.{Tenant}
use Rattle.tenant_tables.specs.Rows.{rows_of_versions, row_of_state, row_of_pool, rows_of_exceptions, row_of_receipt, StandsFor}

-- the name stands for the state `s`, and each other name for what it stood for
pub record Turns (name : List ℕ) (s : Option TenantState) (old new : Trees) : Type 0 where
  pub own : StandsFor new name s
  pub others : (t : List ℕ) (u : Option TenantState) → t ≢ name → (StandsFor old t u ↔ StandsFor new t u)

-- the tenant, with its number and epoch, has the inventory, its rows in any order
pub record HasRows (db : Trees) (tenant : Tenant) (i : Inventory) : Type 0 where
  pub epoch_is : tenant.epoch ≡ pos i.epoch
  pub versions : IsPermutation (of_tenant maps_table tenant.id db) (rows_of_versions 1 i.versions)
  pub devices : IsPermutation (of_tenant devices_table tenant.id db) (map row_of_state i.devices)
  pub pools : IsPermutation (of_tenant pools_table tenant.id db) (map row_of_pool i.pools)
  pub exceptions : IsPermutation (of_tenant exceptions_table tenant.id db) (rows_of_exceptions i.pools)

-- the tenant has the receipts, and its epoch is their number
pub record HasReceipts (db : Trees) (tenant : Tenant) (receipts : Receipts) : Type 0 where
  pub epoch_is : tenant.epoch ≡ pos (length receipts)
  pub ranges : list_all is_receipt receipts ≡ true
  pub order : is_ascending is_before receipts ≡ true
  pub rows : IsPermutation (of_tenant receipts_table tenant.id db) (map row_of_receipt receipts)

-- the name is that of the tenant, whose state has `versions` versions and can make the change
pub record IsChangeable (db : Trees) (name : List ℕ) (s : TenantState) (tenant : Tenant) (versions : ℕ) (change : Change) : Type 0 where
  pub names : Names db name (Some tenant)
  pub state : StandsFor db name (Some s)
  pub count : versions ≡ length s.versions
  pub can : CanMake change s
