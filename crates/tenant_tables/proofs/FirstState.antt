-- The rows of a name of schema 1 are those of one state at most: with a 0 behind each row of a pool
-- they are rows of schema 2.
use Rattle.std.proofs.Common.{◌≡◌, ℕ, List, map, Option, Some, None, Ok, refl, sym, ap, ◌∙◌, subst, IsPermutation}
use Rattle.std.proofs.lemmas.List.Sorted.{IsPermutation-map}
use Rattle.sqlite_trees.specs.Tree.{Trees}
use Rattle.crush_map.specs.Map.{Map, IsMap}
use Rattle.crush_text.specs.crush_writing.specs.Canonical.{canonical}
use Rattle.crush_text.specs.Reading.{map_of_stored_text}
use Rattle.tenant_state.specs.State.{TenantState}
use Rattle.table_schema.specs.Holds.{of_tenant}
use Rattle.table_schema.specs.Layout.{first_pools_table}
use Rattle.tenant_tables.specs.Rows.{FirstStandsFor, HoldsFirst, row_of_pool}
use Rattle.tenant_tables.proofs.Migrated.{more, no_rows, rows_more}
use Rattle.tenant_tables.proofs.OneState.{HoldsRest, one_of_pools, one_tenant, some_row}
use Rattle.tenant_tables.proofs.Orders.{one_order, pools_rise}

-- the rows of the pools of a state, which have no pairs
pools_with_0 : (db : Trees) (name : List ℕ) (s : TenantState) (held : HoldsFirst db name s) → IsPermutation (map more (of_tenant first_pools_table held.id db)) (map row_of_pool s.pools)
pools_with_0 db name s held =
    subst (IsPermutation (map more (of_tenant first_pools_table held.id db))) (rows_more s.pools held.no_pairs) (IsPermutation-map more _ _ held.pools)

pub one_first_state : ((m : Map) → IsMap m → map_of_stored_text (canonical m) ≡ Ok m) → (db : Trees) (name : List ℕ) (s t : Option TenantState) → FirstStandsFor db name s → FirstStandsFor db name t → s ≡ t
one_first_state back db name None None this that = refl
one_first_state back db name None (Some t) this that = absurd (some_row that.1.tenant.row (sym that.1.tenant.one ∙ this))
one_first_state back db name (Some s) None this that = absurd (some_row this.1.tenant.row (sym this.1.tenant.one ∙ that))
one_first_state back db name (Some s) (Some t) this that =
    let is = this.0 in
    let other = that.0 in
    let id = one_tenant db name _ _ _ _ this.1.tenant that.1.tenant in
    let rows_p = one_order (map more (of_tenant first_pools_table that.1.id db)) (map row_of_pool s.pools) (map row_of_pool t.pools) (pools_rise s.pools is.has.pool_order) (pools_rise t.pools other.has.pool_order)
    (subst (λ n. IsPermutation (map more (of_tenant first_pools_table n db)) (map row_of_pool s.pools)) id (pools_with_0 db name s this.1)) (pools_with_0 db name t that.1) in
    let rows_e = no_rows s.pools this.1.no_pairs ∙ sym (no_rows t.pools that.1.no_pairs) in
    let rest : HoldsRest db this.1.id s = record { maps = this.1.maps; devices = this.1.devices; receipts = this.1.receipts } in
    ap Some (one_of_pools back db that.1.id s t is other (subst (λ n. HoldsRest db n s) id rest) (record { maps = that.1.maps; devices = that.1.devices; receipts = that.1.receipts }) rows_p rows_e)
