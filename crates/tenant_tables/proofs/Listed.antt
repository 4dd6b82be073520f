-- Rows of the tables that are listed by their keys, and what a tenant has.
use Rattle.std.proofs.Common.{◌≡◌, ◌∙◌, arith, ℤ, to_z, of_z, sym, List, map, Bool, true, false, Result, Ok, Err, refl, ap, subst, IsPermutation, IsUtf8}
use Rattle.std.proofs.lemmas.Int.{to_z-of_z}
use Rattle.std.specs.List.{AllByRecursion}
use mir.Val.{SFits}
use mir.Syntax.{w64}
use Rattle.sqlite.specs.Effect.{Database}
use Rattle.sqlite.specs.Held.{Held, state}
use Rattle.sqlite.specs.State.{HasCleanDisk}
use Rattle.sqlite.specs.Store.{Ghosts}
use Rattle.sqlite_trees.specs.Tree.{Trees}
use Rattle.crush_map.specs.Map.{Map, IsMap}
use Rattle.crush_text.specs.crush_writing.specs.Canonical.{canonical}
use Rattle.tenant_state.specs.State.{Inventory}
use Rattle.table_schema.specs.Values.{state_row, exception_row}
use Rattle.table_schema.specs.Found.{Lists, ListsBy, Precedes, IsVersionRow, IsStateRow, IsPoolRow, IsExceptionRow, version_values, pool_values}
use Rattle.table_schema.specs.Holds.{of_tenant}
use Rattle.table_schema.specs.Layout.{maps_table, devices_table, pools_table, exceptions_table}
use Rattle.tenant_messages.specs.declared.StoreFault.{StoreFault}
use Rattle.tenant_messages.specs.declared.StoreFault.TheVariants.{Failed}
use Rattle.table_schema.specs.declared.find.Tenant.{Tenant}
use Rattle.table_schema.specs.declared.rows.PoolRow.{PoolRow}
use Rattle.table_schema.specs.declared.rows.VersionRow.{VersionRow}
use Rattle.table_schema.specs.declared.values.ExceptionRow.{ExceptionRow}
use Rattle.table_schema.specs.declared.values.StateRow.{StateRow}
use Rattle.tenant_tables.specs.Changes.{HasRows}
use Rattle.tenant_tables.specs.Lists.{IsOfState, AreRowsOf}
use Rattle.tenant_tables.specs.Reads.{ChangesNoRow}
use Rattle.tenant_tables.specs.Rows.{rows_of_versions, row_of_state, row_of_pool, rows_of_exceptions}
use Rattle.tenant_tables.proofs.Orders.{one_order, one_placed, versions_rise, states_rise, pools_rise, exceptions_rise, are_versions, are_states, are_pools, are_exceptions}

-- ---- calls that change no row

-- what holds of a database and a number
pub moved : (P : Trees → ℤ → Type 0) (a b : Database) (m n : ℤ) → a ≡ b → m ≡ n → P a.trees m → P b.trees n
moved P a b m n same number it = subst (λ (d : Database). P d.trees n) same (subst (P a.trees) number it)

-- the tenant, its number read as a machine word
abbrev pub worded : Tenant → Tenant
worded tenant = record { id = to_z w64 (of_z w64 tenant.id); epoch = tenant.epoch }

-- what is said of a tenant is said of it with that number, in the same database
pub same_tenant : (P : Trees → Tenant → Type 0) (a b : Database) (tenant : Tenant) → SFits w64 tenant.id → a ≡ b → P a.trees tenant → P b.trees (worded tenant)
same_tenant P a b tenant fits same it = moved (λ db n. P db (record { id = n; epoch = tenant.epoch })) a b tenant.id (to_z w64 (of_z w64 tenant.id)) same (sym (to_z-of_z w64 tenant.id fits)) it

-- a call that answered has not latched the tables
pub is_live : {A : Type 0} (b : Bool) (x : A) → (b ≡ true → ◌≡◌ {A = Result A StoreFault} (Ok x) (Err Failed)) → b ≡ false
is_live true x h = let no = h refl in cc
is_live false x h = refl

-- and has left the disk and the rows as they were
pub kept_by : {S A : Type 0} (g : Ghosts S) (x : A) (old new : Held S × Bool) → ChangesNoRow g (Ok x) old new → HasCleanDisk (state g new.0) → HasCleanDisk (state g old.0) × ((state g new.0).now ≡ (state g old.0).now)
kept_by g x old new reads clean = (omega (arith, clean, reads.crash.clean), reads.kept clean (is_live new.1 x reads.latches.0))

-- the fault is handed on
pub same_fault : {A B : Type 0} (r : Result A StoreFault) (x f g : StoreFault) → r ≡ Err x → x ≡ f → r ≡ Err g → ◌≡◌ {A = Result B StoreFault} (Err f) (Err g)
same_fault r x f g is same answer =
    let both : f ≡ g = cc in ap Err both

-- ---- what a tenant has is listed

pub record AreListed (db : Trees) (id : ℤ) (versions : List VersionRow) (states : List StateRow) (pools : List PoolRow) (exceptions : List ExceptionRow) : Type 0 where
  pub versions_are : Lists (of_tenant maps_table id db) (map version_values versions)
  pub states_are : Lists (of_tenant devices_table id db) (map state_row states)
  pub pools_are : Lists (of_tenant pools_table id db) (map pool_values pools)
  pub exceptions_are : ListsBy Precedes (of_tenant exceptions_table id db) (map exception_row exceptions)

-- calls that answered list them, one after another
pub listed_by : {S A B C : Type 0} (g : Ghosts S) (x : A) (y : B) (z : C) (first one two three : Held S × Bool) (m n : ℤ) (versions : List VersionRow) (states : List StateRow) (pools : List PoolRow) (exceptions : List ExceptionRow) → m ≡ n
    → ChangesNoRow g (Ok x) first one → ChangesNoRow g (Ok y) one two → ChangesNoRow g (Ok z) two three → HasCleanDisk (state g three.0)
    → (HasCleanDisk (state g one.0) → Lists (of_tenant maps_table m (state g first.0).now.trees) (map version_values versions))
    → (HasCleanDisk (state g two.0) → Lists (of_tenant devices_table m (state g one.0).now.trees) (map state_row states))
    → (HasCleanDisk (state g three.0) → Lists (of_tenant pools_table m (state g two.0).now.trees) (map pool_values pools))
    → ListsBy Precedes (of_tenant exceptions_table m (state g three.0).now.trees) (map exception_row exceptions) → AreListed (state g first.0).now.trees n versions states pools exceptions
listed_by g x y z first one two three m n versions states pools exceptions number a b c clean v d p e =
    let last = kept_by g z two three c clean in
    let next = kept_by g y one two b last.0 in
    let kept = (kept_by g x first one a next.0).1 in
    record {
      versions_are = moved (λ db n. Lists (of_tenant maps_table n db) (map version_values versions)) (state g first.0).now (state g first.0).now m n refl number (v next.0);
      states_are = moved (λ db n. Lists (of_tenant devices_table n db) (map state_row states)) (state g one.0).now (state g first.0).now m n kept number (d last.0);
      pools_are = moved (λ db n. Lists (of_tenant pools_table n db) (map pool_values pools)) (state g two.0).now (state g first.0).now m n (next.1 ∙ kept) number (p clean);
      exceptions_are = moved (λ db n. ListsBy Precedes (of_tenant exceptions_table n db) (map exception_row exceptions)) (state g three.0).now (state g first.0).now m n (last.1 ∙ (next.1 ∙ kept)) number e;
    }

module _ (db : Trees) (tenant : Tenant) (i : Inventory) (is : IsOfState i) (has : HasRows db tenant i) where
  versions_listed : Lists (of_tenant maps_table tenant.id db) (rows_of_versions 1 i.versions)
  versions_listed = record { same = has.versions; rising = versions_rise 1 i.versions }

  states_listed : Lists (of_tenant devices_table tenant.id db) (map row_of_state i.devices)
  states_listed = record { same = has.devices; rising = states_rise i.devices is.has.device_order }

  pools_listed : Lists (of_tenant pools_table tenant.id db) (map row_of_pool i.pools)
  pools_listed = record { same = has.pools; rising = pools_rise i.pools is.has.pool_order }

  exceptions_listed : ListsBy Precedes (of_tenant exceptions_table tenant.id db) (rows_of_exceptions i.pools)
  exceptions_listed = record { same = has.exceptions; rising = exceptions_rise i.pools is.has.pool_order }

  -- so no query of its tables is refused
  pub not_versions : ((m : Map) → IsMap m → IsUtf8 (canonical m)) → ((list : _) → AllByRecursion IsVersionRow list → ¬ Lists (of_tenant maps_table tenant.id db) list) → ⊥
  not_versions utf8 none = none (rows_of_versions 1 i.versions) (are_versions utf8 1 i.versions is.has.maps) versions_listed

  pub not_states : ((list : _) → AllByRecursion IsStateRow list → ¬ Lists (of_tenant devices_table tenant.id db) list) → ⊥
  not_states none = none (map row_of_state i.devices) (are_states i.devices) states_listed

  pub not_pools : ((list : _) → AllByRecursion IsPoolRow list → ¬ Lists (of_tenant pools_table tenant.id db) list) → ⊥
  not_pools none = none (map row_of_pool i.pools) (are_pools i.pools is.has.pools) pools_listed

  pub not_exceptions : ((list : _) → AllByRecursion IsExceptionRow list → ¬ ListsBy Precedes (of_tenant exceptions_table tenant.id db) list) → ⊥
  not_exceptions none = none (rows_of_exceptions i.pools) (are_exceptions i.pools) exceptions_listed

  -- and what the queries list are its rows
  pub are_its_rows : (versions : List VersionRow) (states : List StateRow) (pools : List PoolRow) (exceptions : List ExceptionRow) → AreListed db tenant.id versions states pools exceptions → AreRowsOf i tenant.epoch versions states pools exceptions
  are_its_rows versions states pools exceptions it = record {
    epoch_is = has.epoch_is;
    versions_are = one_order _ _ _ it.versions_are.rising versions_listed.rising it.versions_are.same versions_listed.same;
    states_are = one_order _ _ _ it.states_are.rising states_listed.rising it.states_are.same states_listed.same;
    pools_are = one_order _ _ _ it.pools_are.rising pools_listed.rising it.pools_are.same pools_listed.same;
    exceptions_are = one_placed _ _ _ it.exceptions_are.rising exceptions_listed.rising it.exceptions_are.same exceptions_listed.same;
  }

-- ---- what has the listed rows is the tenant's

pub has_rows_listed : (db : Trees) (tenant : Tenant) (i : Inventory) (versions : List VersionRow) (states : List StateRow) (pools : List PoolRow) (exceptions : List ExceptionRow) → AreListed db tenant.id versions states pools exceptions
    → AreRowsOf i tenant.epoch versions states pools exceptions → HasRows db tenant i
has_rows_listed db tenant i versions states pools exceptions it are = record {
  epoch_is = are.epoch_is;
  versions = subst (IsPermutation (of_tenant maps_table tenant.id db)) are.versions_are it.versions_are.same;
  devices = subst (IsPermutation (of_tenant devices_table tenant.id db)) are.states_are it.states_are.same;
  pools = subst (IsPermutation (of_tenant pools_table tenant.id db)) are.pools_are it.pools_are.same;
  exceptions = subst (IsPermutation (of_tenant exceptions_table tenant.id db)) are.exceptions_are it.exceptions_are.same;
}
