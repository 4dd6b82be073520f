-- A name stands for a state where what the state has and its receipts are the tenant's, and then
-- alone.
use Rattle.std.proofs.Common.{◌≡◌, ◌≤◌, ℕ, ℤ, pos, List, length, map, true, Some, sym, ap, ◌∙◌, subst, IsPermutation}
use Rattle.std.specs.List.{list_all}
use Rattle.table_schema.specs.sqlite_value.specs.declared.value.Value.TheVariants.{Int}
use Rattle.table_schema.specs.sqlite_value.specs.Order.{column}
use Rattle.sqlite_trees.specs.Tree.{Trees}
use Rattle.tenant_state.specs.Ordered.{is_ascending}
use Rattle.tenant_state.specs.Receipts.{Receipts, is_before}
use Rattle.tenant_state.specs.State.{Inventory, TenantState, epoch, inventory_of, with_receipts}
use Rattle.tenant_state.specs.Valid.{IsState, is_receipt}
use Rattle.tenant_state.specs.declared.limits.TheConstants.{RECEIPT_LIMIT}
use Rattle.table_schema.specs.Found.{Names, receipt_values}
use Rattle.table_schema.specs.Holds.{IsTenant, of_tenant}
use Rattle.table_schema.specs.Layout.{maps_table, devices_table, pools_table, receipts_table, exceptions_table}
use Rattle.table_schema.specs.declared.find.Tenant.{Tenant}
use Rattle.table_schema.specs.declared.rows.PoolRow.{PoolRow}
use Rattle.table_schema.specs.declared.rows.ReceiptRow.{ReceiptRow}
use Rattle.table_schema.specs.declared.rows.VersionRow.{VersionRow}
use Rattle.table_schema.specs.declared.values.ExceptionRow.{ExceptionRow}
use Rattle.table_schema.specs.declared.values.StateRow.{StateRow}
use Rattle.tenant_tables.specs.Changes.{HasRows, HasReceipts}
use Rattle.tenant_tables.specs.Lists.{IsOfState, AreRowsOf, AreRowsOfState}
use Rattle.tenant_tables.specs.Rows.{rows_of_versions, row_of_state, row_of_pool, rows_of_exceptions, row_of_receipt, StandsFor}
use Rattle.tenant_tables.proofs.OneState.{one_row, int_is}

-- ---- states and what they have

pub has_of_state : (s : TenantState) → IsState s → IsOfState (inventory_of s)
has_of_state s is = record {
  has = is.has;
  few_versions = is.few_versions;
  few_pools = is.few_pools;
  few_receipts = is.few_receipts;
  names = is.names;
  rules = is.rules;
}

pub nat_is : (m n : ℕ) → pos m ≡ pos n → m ≡ n
nat_is m n h = cc

pub is_state_of : (i : Inventory) (receipts : Receipts) → IsOfState i → i.epoch ≡ length receipts → list_all is_receipt receipts ≡ true → is_ascending is_before receipts ≡ true → IsState (with_receipts i receipts)
is_state_of i receipts is count ranges order = record {
  has = record {
    maps = is.has.maps;
    devices = is.has.devices;
    device_order = is.has.device_order;
    pools = is.has.pools;
    pool_order = is.has.pool_order;
  };
  few_versions = is.few_versions;
  few_pools = is.few_pools;
  names = is.names;
  rules = is.rules;
  few_receipts = subst (λ n. n ≤ RECEIPT_LIMIT) count is.few_receipts;
  receipts = ranges;
  receipt_order = order;
}

-- the lists of rows of the whole state
pub are_rows_of_state : (i : Inventory) (receipts : Receipts) (epoch : ℤ) (versions : List VersionRow) (states : List StateRow) (pools : List PoolRow) (exceptions : List ExceptionRow) (rows : List ReceiptRow) → i.epoch ≡ length receipts
    → AreRowsOf i epoch versions states pools exceptions → map receipt_values rows ≡ map row_of_receipt receipts → AreRowsOfState (with_receipts i receipts) epoch versions states pools exceptions rows
are_rows_of_state i receipts epoch versions states pools exceptions rows count are read = record {
  has = record {
    epoch_is = are.epoch_is ∙ ap pos count;
    versions_are = are.versions_are;
    states_are = are.states_are;
    pools_are = are.pools_are;
    exceptions_are = are.exceptions_are;
  };
  receipts_are = read;
}

-- ---- from the parts to the state

-- the tenant that was found, with its epoch
pub is_tenant : (db : Trees) (name : List ℕ) (tenant : Tenant) (e : ℕ) → Names db name (Some tenant) → tenant.epoch ≡ pos e → IsTenant db name tenant.id e
is_tenant db name tenant e named is =
    record { row = named.0; one = named.1; number = named.2; epoch_is = named.3 ∙ ap Int is }

-- what a tenant has and its receipts are a state
pub stands_for_found : (db : Trees) (name : List ℕ) (tenant : Tenant) (i : Inventory) (receipts : Receipts) → Names db name (Some tenant) → IsOfState i → HasRows db tenant i → HasReceipts db tenant receipts
    → StandsFor db name (Some (with_receipts i receipts))
stands_for_found db name tenant i receipts named is rows those =
    let count = nat_is i.epoch (length receipts) (sym rows.epoch_is ∙ those.epoch_is) in (
      is_state_of i receipts is count those.ranges those.order,
      record {
        id = tenant.id;
        tenant = is_tenant db name tenant (length receipts) named those.epoch_is;
        maps = rows.versions;
        devices = rows.devices;
        pools = rows.pools;
        receipts = those.rows;
        exceptions = rows.exceptions;
      },
    )

-- ---- from the state to the parts

-- the tenant that was found is that of a state
same_number : (db : Trees) (name : List ℕ) (tenant : Tenant) (id : ℤ) (e : ℕ) → Names db name (Some tenant) → IsTenant db name id e → id ≡ tenant.id
same_number db name tenant id e named is =
    let row = one_row is.row named.0 (sym is.one ∙ named.1) in
    int_is id tenant.id (sym is.number ∙ (ap (λ r. column r 0) row ∙ named.2))

same_epoch : (db : Trees) (name : List ℕ) (tenant : Tenant) (id : ℤ) (e : ℕ) → Names db name (Some tenant) → IsTenant db name id e → tenant.epoch ≡ pos e
same_epoch db name tenant id e named is =
    let row = one_row is.row named.0 (sym is.one ∙ named.1) in
    int_is tenant.epoch (pos e) (sym named.3 ∙ (sym (ap (λ r. column r 3) row) ∙ is.epoch_is))

pub has_rows : (db : Trees) (name : List ℕ) (tenant : Tenant) (s : TenantState) → Names db name (Some tenant) → StandsFor db name (Some s) → HasRows db tenant (inventory_of s)
has_rows db name tenant s named those =
    let id = same_number db name tenant those.1.id (epoch s) named those.1.tenant in record {
      epoch_is = same_epoch db name tenant those.1.id (epoch s) named those.1.tenant;
      versions = subst (λ n. IsPermutation (of_tenant maps_table n db) (rows_of_versions 1 s.versions)) id those.1.maps;
      devices = subst (λ n. IsPermutation (of_tenant devices_table n db) (map row_of_state s.devices)) id those.1.devices;
      pools = subst (λ n. IsPermutation (of_tenant pools_table n db) (map row_of_pool s.pools)) id those.1.pools;
      exceptions = subst (λ n. IsPermutation (of_tenant exceptions_table n db) (rows_of_exceptions s.pools)) id those.1.exceptions;
    }

pub has_receipts : (db : Trees) (name : List ℕ) (tenant : Tenant) (s : TenantState) → Names db name (Some tenant) → StandsFor db name (Some s) → HasReceipts db tenant s.receipts
has_receipts db name tenant s named those =
    let id = same_number db name tenant those.1.id (epoch s) named those.1.tenant in record {
      epoch_is = same_epoch db name tenant those.1.id (epoch s) named those.1.tenant;
      ranges = those.0.receipts;
      order = those.0.receipt_order;
      rows = subst (λ n. IsPermutation (of_tenant receipts_table n db) (map row_of_receipt s.receipts)) id those.1.receipts;
    }

pub is_of_state : (db : Trees) (name : List ℕ) (s : TenantState) → StandsFor db name (Some s) → IsOfState (inventory_of s)
is_of_state db name s those = has_of_state s those.0

-- a name that stands for a state is found
pub is_found : (db : Trees) (name : List ℕ) (s : TenantState) → StandsFor db name (Some s) → (tenant : Tenant) × Names db name (Some tenant)
is_found db name s those =
    let it = those.1.tenant in (record { id = those.1.id; epoch = pos (epoch s) }, (it.row, it.one, it.number, it.epoch_is))
