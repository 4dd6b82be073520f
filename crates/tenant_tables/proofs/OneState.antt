-- The rows of a name are those of one state at most.
use Rattle.std.proofs.Common.{◌≡◌, ◌≢◌, ℕ, ℤ, pos, List, [], ◌∷◌, length, map, Option, Some, None, Result, Ok, arith, refl, sym, ap, ◌∙◌, subst, IsPermutation}
use Rattle.table_schema.specs.sqlite_value.specs.declared.value.Value.TheVariants.{Int}
use Rattle.table_schema.specs.sqlite_value.specs.Order.{Row, column}
use Rattle.sqlite_trees.specs.Tree.{Trees}
use Rattle.crush_text.specs.crush_grammar.specs.declared.code.TextFault.{TextFault}
use Rattle.crush_map.specs.Map.{Map, IsMap}
use Rattle.crush_text.specs.crush_writing.specs.Canonical.{canonical}
use Rattle.crush_text.specs.Reading.{map_of_stored_text}
use Rattle.tenant_state.specs.State.{Inventory, TenantState}
use Rattle.tenant_state.specs.Valid.{IsInventory, IsState}
use Rattle.table_schema.specs.Holds.{IsTenant, of_tenant}
use Rattle.table_schema.specs.Layout.{maps_table, devices_table, pools_table, receipts_table, exceptions_table}
use Rattle.table_schema.specs.declared.rows.VersionRow.{VersionRow}
use Rattle.table_schema.specs.declared.rows.PoolRow.{PoolRow}
use Rattle.table_schema.specs.declared.values.ExceptionRow.{ExceptionRow}
use Rattle.table_schema.specs.declared.values.StateRow.{StateRow}
use Rattle.tenant_tables.specs.Lists.{AreRowsOf}
use Rattle.tenant_tables.specs.Rows.{rows_of_versions, row_of_state, row_of_pool, rows_of_exceptions, row_of_receipt, StandsFor}
use Rattle.tenant_tables.proofs.Orders.{one_order, one_placed, versions_rise, states_rise, pools_rise, exceptions_rise, receipts_rise}
use Rattle.tenant_tables.proofs.Reading.{same_list, same_state, same_receipt, same_versions}
use Rattle.tenant_tables.proofs.PairRows.{same_pools_alone}

-- a map is read back from its canonical text, so each has its own
pub own_text : ((m : Map) → IsMap m → map_of_stored_text (canonical m) ≡ Ok m) → (m n : Map) → IsMap m → IsMap n → canonical m ≡ canonical n → m ≡ n
own_text back m n is other same = inside m n (sym (back m is) ∙ (ap map_of_stored_text same ∙ back n other))
  where
    inside : (m n : Map) → ◌≡◌ {A = Result Map TextFault} (Ok m) (Ok n) → m ≡ n
    inside m n h = cc

-- ---- what a tenant has

pub one_inventory : ((m : Map) → IsMap m → map_of_stored_text (canonical m) ≡ Ok m) → (i j : Inventory) (epoch : ℤ) (versions : List VersionRow) (states : List StateRow) (pools : List PoolRow) (exceptions : List ExceptionRow) → IsInventory i → IsInventory j
    → AreRowsOf i epoch versions states pools exceptions → AreRowsOf j epoch versions states pools exceptions → i ≡ j
one_inventory back i j epoch versions states pools exceptions is other these those =
    let maps = same_versions (own_text back) 1 i.versions j.versions is.maps other.maps (sym these.versions_are ∙ those.versions_are) in
    let devices = same_list row_of_state same_state i.devices j.devices (sym these.states_are ∙ those.states_are) in
    let others = same_pools_alone i.pools j.pools (sym these.pools_are ∙ those.pools_are) (sym these.exceptions_are ∙ those.exceptions_are) in
    let both : pos i.epoch ≡ pos j.epoch = sym these.epoch_is ∙ those.epoch_is in
    let number : i.epoch ≡ j.epoch = cc in
    λ k. record { versions = maps k; devices = devices k; pools = others k; epoch = number k }

-- ---- states

pub one_row : (a b : Row) → a ∷ [] ≡ b ∷ [] → a ≡ b
one_row a b h = cc

pub some_row : (a : Row) → a ∷ [] ≢ []
some_row a h = absurd (omega (arith, ap length h))

pub int_is : (a b : ℤ) → Int a ≡ Int b → a ≡ b
int_is a b h = cc

pub one_tenant : (db : Trees) (name : List ℕ) (a b : ℤ) (e f : ℕ) → IsTenant db name a e → IsTenant db name b f → a ≡ b
one_tenant db name a b e f this that =
    let row = one_row this.row that.row (sym this.one ∙ that.one) in
    int_is a b (sym this.number ∙ (ap (λ r. column r 0) row ∙ that.number))

-- the rows of a tenant but for those of its pools
pub record HoldsRest (db : Trees) (id : ℤ) (s : TenantState) : Type 0 where
  pub maps : IsPermutation (of_tenant maps_table id db) (rows_of_versions 1 s.versions)
  pub devices : IsPermutation (of_tenant devices_table id db) (map row_of_state s.devices)
  pub receipts : IsPermutation (of_tenant receipts_table id db) (map row_of_receipt s.receipts)

-- two states of them are one, where their pools have the same rows
pub one_of_pools : ((m : Map) → IsMap m → map_of_stored_text (canonical m) ≡ Ok m) → (db : Trees) (id : ℤ) (s t : TenantState) → IsState s → IsState t → HoldsRest db id s → HoldsRest db id t
    → map row_of_pool s.pools ≡ map row_of_pool t.pools → rows_of_exceptions s.pools ≡ rows_of_exceptions t.pools → s ≡ t
one_of_pools back db id s t is other this that rows_p rows_e =
    let rows_v = one_order (of_tenant maps_table id db) (rows_of_versions 1 s.versions) (rows_of_versions 1 t.versions) (versions_rise 1 s.versions) (versions_rise 1 t.versions) this.maps that.maps in
    let rows_d = one_order (of_tenant devices_table id db) (map row_of_state s.devices) (map row_of_state t.devices) (states_rise s.devices is.has.device_order) (states_rise t.devices other.has.device_order) this.devices that.devices in
    let rows_r = one_order (of_tenant receipts_table id db) (map row_of_receipt s.receipts) (map row_of_receipt t.receipts) (receipts_rise s.receipts is.receipt_order) (receipts_rise t.receipts other.receipt_order) this.receipts that.receipts in
    let versions = same_versions (own_text back) 1 s.versions t.versions is.has.maps other.has.maps rows_v in
    let devices = same_list row_of_state same_state s.devices t.devices rows_d in
    let pools = same_pools_alone s.pools t.pools rows_p rows_e in
    let receipts = same_list row_of_receipt same_receipt s.receipts t.receipts rows_r in
    λ k. record { versions = versions k; devices = devices k; pools = pools k; receipts = receipts k }

pub one_state : ((m : Map) → IsMap m → map_of_stored_text (canonical m) ≡ Ok m) → (db : Trees) (name : List ℕ) (s t : Option TenantState) → StandsFor db name s → StandsFor db name t → s ≡ t
one_state back db name None None this that = refl
one_state back db name None (Some t) this that = absurd (some_row that.1.tenant.row (sym that.1.tenant.one ∙ this))
one_state back db name (Some s) None this that = absurd (some_row this.1.tenant.row (sym this.1.tenant.one ∙ that))
one_state back db name (Some s) (Some t) this that =
    let is = this.0 in
    let other = that.0 in
    let id = one_tenant db name _ _ _ _ this.1.tenant that.1.tenant in
    let rows_p = one_order (of_tenant pools_table that.1.id db) (map row_of_pool s.pools) (map row_of_pool t.pools) (pools_rise s.pools is.has.pool_order) (pools_rise t.pools other.has.pool_order)
    (subst (λ n. IsPermutation (of_tenant pools_table n db) (map row_of_pool s.pools)) id this.1.pools) that.1.pools in
    let rows_e = one_placed (of_tenant exceptions_table that.1.id db) (rows_of_exceptions s.pools) (rows_of_exceptions t.pools) (exceptions_rise s.pools is.has.pool_order) (exceptions_rise t.pools other.has.pool_order)
    (subst (λ n. IsPermutation (of_tenant exceptions_table n db) (rows_of_exceptions s.pools)) id this.1.exceptions) that.1.exceptions in
    let rest : HoldsRest db this.1.id s = record { maps = this.1.maps; devices = this.1.devices; receipts = this.1.receipts } in
    ap Some (one_of_pools back db that.1.id s t is other (subst (λ n. HoldsRest db n s) id rest) (record { maps = that.1.maps; devices = that.1.devices; receipts = that.1.receipts }) rows_p rows_e)
