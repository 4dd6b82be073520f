-- What the commits make of the rows of a tenant.
use Rattle.std.specs.Prelude.{◌≡◌, ℕ, ℤ, pos, List, [], ◌∷◌, filter, fold, not}
use Rattle.std.specs.List.{AllByRecursion}
use Rattle.table_schema.specs.sqlite_value.specs.declared.value.Value.TheVariants.{Int}
use Rattle.table_schema.specs.sqlite_value.specs.declared.keys.Collation.TheVariants.{Binary}
use Rattle.table_schema.specs.sqlite_value.specs.Order.{Row, column}
use Rattle.sqlite_trees.specs.Tree.{Trees}
use Rattle.table_schema.specs.sqlite_schema.specs.Rules.{equal}
use Rattle.table_schema.specs.Layout.{tables_of_tenants}
use Rattle.table_schema.specs.Holds.{rows_in, rows_with, IsTenant, IsAbsent, TenantRows, Holds, Turns}
use Rattle.table_schema.specs.Values.{version_row, state_row, pool_row, exception_row, receipt_row}
use Rattle.table_schema.specs.declared.values.ExceptionRow.{ExceptionRow}
use Rattle.table_schema.specs.declared.values.PoolValues.{PoolValues}
use Rattle.table_schema.specs.declared.values.ReceiptValues.{ReceiptValues}
use Rattle.table_schema.specs.declared.values.StateRow.{StateRow}
use Rattle.tenant_tables.specs.declared.commit.CommitHead.{CommitHead}

-- the rows of a new tenant
abbrev pub fresh_rows : TenantRows
fresh_rows = record { epoch = 0; maps = []; devices = []; pools = []; receipts = []; exceptions = [] }

-- the rows that begin with another number
abbrev pub without_key : ℤ → List Row → List Row
without_key key rows = filter (λ row. not (equal Binary (column row 0) (Int key))) rows

-- the state takes the place of an earlier one of its device
abbrev pub with_state : List Row → StateRow → List Row
with_state rows state = state_row state ∷ without_key state.device rows

-- what each commit does to the rows
abbrev pub with_version : ℤ → List ℕ → TenantRows → TenantRows
with_version version text rows = record rows { maps = version_row version text ∷ rows.maps }

abbrev pub with_states : List StateRow → TenantRows → TenantRows
with_states states rows = record rows { devices = fold with_state rows.devices states }

abbrev pub with_pool : PoolValues → TenantRows → TenantRows
with_pool pool rows = record rows { pools = pool_row pool ∷ rows.pools }

-- the pool is removed, and its exceptions with it
abbrev pub without_pool : ℤ → TenantRows → TenantRows
without_pool pool rows = record rows { pools = without_key pool rows.pools; exceptions = without_key pool rows.exceptions }

-- the pool's row takes the place of the earlier one, and the exceptions that of its earlier ones
abbrev pub with_exceptions : PoolValues → List ExceptionRow → TenantRows → TenantRows
with_exceptions pool exceptions rows = record rows {
  pools = pool_row pool ∷ without_key pool.id rows.pools;
  exceptions = fold (λ earlier e. exception_row e ∷ earlier) (without_key pool.id rows.exceptions) exceptions;
}

abbrev pub with_receipt : ReceiptValues → TenantRows → TenantRows
with_receipt receipt rows = record rows { receipts = receipt_row receipt ∷ rows.receipts }

-- The number is that of a tenant.
abbrev pub IsNumber : Trees → ℤ → Type 0
IsNumber db id = (name : List ℕ) × (epoch : ℕ) × IsTenant db name id epoch

-- The rows of the tenant with the number are changed by `change`, and it has the receipt and the
-- epoch. The rows of each other name are unchanged.
abbrev pub Accepts : CommitHead → (TenantRows → TenantRows) → Trees → Trees → Type 0
Accepts a change old new =
    (name : List ℕ) (rows : TenantRows) (e : ℕ) → (held : Holds old name rows) → held.id ≡ a.id → a.epoch ≡ pos e
    → Turns name (λ db. Holds db name (record (with_receipt a.receipt (change rows)) { epoch = e })) old new

-- The name has a new tenant, and the rows of each other name are unchanged.
abbrev pub Creates : List ℕ → Trees → Trees → Type 0
Creates name = Turns name (λ db. Holds db name fresh_rows)

-- The tenant with the number is gone with all its rows, and the rows of each other name are
-- unchanged.
abbrev pub Drops : ℤ → Trees → Trees → Type 0
Drops id old new =
    (name : List ℕ) (epoch : ℕ) → IsTenant old name id epoch
    → Turns name (λ db. IsAbsent db name × AllByRecursion (λ table. rows_with 1 (Int id) (rows_in table db) ≡ []) tables_of_tenants) old new
