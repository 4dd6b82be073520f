-- What becomes of the states that names stand for.
use Rattle.std.proofs.Common.{◌≡◌, ◌↔◌, ℕ, ℤ, List, map, Option, Some, None, inl, refl, sym, subst, ◌∙◌}
use Rattle.std.specs.List.{AllByRecursion}
use Rattle.std.specs.List.Sorted.{IsPermutation}
use Rattle.table_schema.specs.sqlite_value.specs.declared.value.Value.TheVariants.{Int}
use Rattle.table_schema.specs.sqlite_value.specs.Order.{Row, column}
use Rattle.sqlite_trees.specs.Tree.{Trees}
use Rattle.sqlite_trees.proofs.ListLemmas.{all_weaker}
use Rattle.table_schema.specs.sqlite_rules.specs.Lists.{Has}
use Rattle.table_schema.specs.sqlite_schema.specs.declared.schema.Table.{Table}
use Rattle.tenant_state.proofs.Leaving.{fresh_is_state}
use Rattle.tenant_state.specs.State.{TenantState, epoch, fresh}
use Rattle.tenant_tables.specs.Change.{Creates, Drops}
use Rattle.table_schema.specs.Holds as tables
use Rattle.table_schema.specs.Layout.{maps_table, devices_table, pools_table, receipts_table, exceptions_table, tables_of_tenants}
use Rattle.tenant_tables.specs.Changes.{Turns}
use Rattle.tenant_tables.specs.Rows.{StandsFor}

-- ---- names whose rows are unchanged

-- unchanged rows are unchanged the other way round too
back : (name : List ℕ) (old new : Trees) → tables.KeepsRowsOf name old new → tables.KeepsRowsOf name new old
back name old new kept = record {
  tenants = sym kept.tenants;
  tables = λ row there. all_weaker (λ (t : Table). tables.rows_with 1 (column row 0) (tables.rows_in t new) ≡ tables.rows_with 1 (column row 0) (tables.rows_in t old))
      (λ (t : Table). tables.rows_with 1 (column row 0) (tables.rows_in t old) ≡ tables.rows_with 1 (column row 0) (tables.rows_in t new)) (λ t same. sym same) tables_of_tenants
      (kept.tables row (subst (λ l. Has l row) kept.tenants there));
}

held : (name : List ℕ) (rows : tables.TenantRows) (old new : Trees) → tables.KeepsRowsOf name old new → tables.Holds old name rows → tables.Holds new name rows
held name rows old new kept had =
    let row = had.tenant.row in
    let there : Has (tables.tenants_of old name) row = subst (λ l. Has l row) (sym had.tenant.one) (inl refl) in
    let same = subst (λ v. AllByRecursion (λ (t : Table). tables.rows_with 1 v (tables.rows_in t new) ≡ tables.rows_with 1 v (tables.rows_in t old)) tables_of_tenants) had.tenant.number (kept.tables row there) in
    record {
      id = had.id;
      tenant = record { row = row; one = kept.tenants ∙ had.tenant.one; number = had.tenant.number; epoch_is = had.tenant.epoch_is };
      maps = moved maps_table had.id old new rows.maps same.0 had.maps;
      devices = moved devices_table had.id old new rows.devices same.1.0 had.devices;
      pools = moved pools_table had.id old new rows.pools same.1.1.0 had.pools;
      receipts = moved receipts_table had.id old new rows.receipts same.1.1.1.0 had.receipts;
      exceptions = moved exceptions_table had.id old new rows.exceptions same.1.1.1.1.0 had.exceptions;
    }
  where
    moved : (table : Table) (id : ℤ) (old new : Trees) (list : List Row) → tables.rows_with 1 (Int id) (tables.rows_in table new) ≡ tables.rows_with 1 (Int id) (tables.rows_in table old)
        → IsPermutation (tables.of_tenant table id old) list → IsPermutation (tables.of_tenant table id new) list
    moved table id old new list same perm = subst (λ all. IsPermutation (map (tables.values_of table) all) list) (sym same) perm

stands : (name : List ℕ) (old new : Trees) (s : Option TenantState) → tables.KeepsRowsOf name old new → StandsFor old name s → StandsFor new name s
stands name old new None kept absent = kept.tenants ∙ absent
stands name old new (Some s) kept had = (had.0, held name _ old new kept had.1)

-- a name whose rows are unchanged stands for what it stood for
pub keeps : (name : List ℕ) (old new : Trees) (s : Option TenantState) → tables.KeepsRowsOf name old new → StandsFor old name s ↔ StandsFor new name s
keeps name old new s kept = (stands name old new s kept, stands name new old s (back name old new kept))

-- ---- tenants that come and go

pub created : (name : List ℕ) (old new : Trees) → Creates name old new → Turns name (Some fresh) old new
created name old new made = record {
  own = (fresh_is_state, made.own);
  others = λ other s apart. keeps other old new s (made.others other apart);
}

pub dropped : (name : List ℕ) (id : ℤ) (s : TenantState) (old new : Trees) → StandsFor old name (Some s) → tables.IsTenant old name id (epoch s) → Drops id old new → Turns name None old new
dropped name id s old new stood tenant drops =
    let gone = drops name (epoch s) tenant in
    record { own = gone.own.0; others = λ other u apart. keeps other old new u (gone.others other apart) }
