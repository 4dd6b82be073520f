-- What a tenant has, without its receipts, and the lists of rows that it is read from.
use Rattle.std.specs.Prelude.{ℤ, pos, ◌≡◌, ◌≤◌, List, length, map, true}
use Rattle.tenant_state.specs.State.{Inventory, TenantState, have_rules, inventory_of}
use Rattle.tenant_state.specs.Valid.{IsInventory, are_named_once}
use Rattle.tenant_state.specs.declared.limits.TheConstants.{POOL_LIMIT, RECEIPT_LIMIT, VERSION_LIMIT}
use Rattle.table_schema.specs.Values.{state_row, exception_row}
use Rattle.table_schema.specs.Found.{version_values, pool_values, receipt_values}
use Rattle.table_schema.specs.declared.rows.VersionRow.{VersionRow}
use Rattle.table_schema.specs.declared.rows.PoolRow.{PoolRow}
use Rattle.table_schema.specs.declared.rows.ReceiptRow.{ReceiptRow}
use Rattle.table_schema.specs.declared.values.ExceptionRow.{ExceptionRow}
use Rattle.table_schema.specs.declared.values.StateRow.{StateRow}
use Rattle.tenant_tables.specs.Rows.{rows_of_versions, row_of_state, row_of_pool, rows_of_exceptions, row_of_receipt}

-- some state has the inventory: it is in its ranges and orders and within the limits, no two pools
-- have one name, and the newest version has each pool's rule
pub record IsOfState (i : Inventory) : Type 0 where
  pub has : IsInventory i
  pub few_versions : length i.versions ≤ VERSION_LIMIT
  pub few_pools : length i.pools ≤ POOL_LIMIT
  pub few_receipts : i.epoch ≤ RECEIPT_LIMIT
  pub names : are_named_once i.pools ≡ true
  pub rules : have_rules i ≡ true

-- the epoch and the rows are those of the inventory, in its order
pub record AreRowsOf (i : Inventory) (epoch : ℤ) (versions : List VersionRow) (states : List StateRow) (pools : List PoolRow) (exceptions : List ExceptionRow) : Type 0 where
  pub epoch_is : epoch ≡ pos i.epoch
  pub versions_are : map version_values versions ≡ rows_of_versions 1 i.versions
  pub states_are : map state_row states ≡ map row_of_state i.devices
  pub pools_are : map pool_values pools ≡ map row_of_pool i.pools
  pub exceptions_are : map exception_row exceptions ≡ rows_of_exceptions i.pools

-- the epoch and the rows are those of the state, in its order
pub record AreRowsOfState (s : TenantState) (epoch : ℤ) (versions : List VersionRow) (states : List StateRow) (pools : List PoolRow) (exceptions : List ExceptionRow) (receipts : List ReceiptRow) : Type 0 where
  pub has : AreRowsOf (inventory_of s) epoch versions states pools exceptions
  pub receipts_are : map receipt_values receipts ≡ map row_of_receipt s.receipts
