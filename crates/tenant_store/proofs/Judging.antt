-- What is judged of tenants, and what their rows stand for then.
use Rattle.std.proofs.Common.{◌≡◌, ◌≢◌, inl, inr, ℕ, suc, ◌+◌, List, [], ◌∷◌, length, Option, Some, None, refl, sym, ap, subst, ◌∙◌, IsPermutation}
use Rattle.std.proofs.lemmas.List.Sorted.{length_permutation}
use Rattle.tenant_core.specs.crush_map.specs.Map.{Map}
use Rattle.table_schema.specs.sqlite_trees.specs.Tree.{Trees}
use Rattle.table_schema.specs.sqlite_value.specs.Order.{Row}
use Rattle.tenant_core.specs.States.{HasInventory, IsDamaged}
use Rattle.tenant_tables.proofs.Whole.{has_receipts, has_rows, is_found, is_of_state, nat_is, stands_for_found}
use Rattle.tenant_tables.specs.Changes.{HasReceipts, HasRows}
use Rattle.tenant_tables.specs.Lists.{IsOfState}
use Rattle.tenant_tables.specs.Rows.{StandsFor, rows_of_versions}
use Rattle.tenant_core.specs.tenant_state.specs.Receipts.{Receipts}
use Rattle.tenant_core.specs.tenant_state.specs.State.{Inventory, TenantState, inventory_of, with_receipts}
use Rattle.table_schema.specs.Found.{Names}
use Rattle.table_schema.specs.Holds.{of_tenant}
use Rattle.table_schema.specs.Layout.{maps_table}
use Rattle.table_schema.specs.declared.find.Tenant.{Tenant}
use Rattle.tenant_store.specs.Judged.{AreJudged, Counts, Adds}

module _ (db : Trees) (name : List ℕ) (tenant : Tenant) (names : Names db name (Some tenant)) where
  -- a name that was judged has receipts
  pub was_judged : (counts : Counts) (n : ℕ) → AreJudged db counts → counts name ≡ Some n → (receipts : Receipts) × HasReceipts db tenant receipts
  was_judged counts n judged found =
      let it = judged name n found in
      (it.0.receipts, has_receipts db name tenant it.0 names it.1)

  -- what is remembered after receipts were judged is true
  pub now_judged : (i : Inventory) (versions : ℕ) (old new : Counts) → IsOfState i → HasRows db tenant i → length i.versions ≡ versions
      → (receipts : Receipts) × HasReceipts db tenant receipts → AreJudged db old → Adds name versions old new → AreJudged db new
  now_judged i versions old new is rows count those judged adds t n found = elim (adds t n found) [
    | inl it ↦ (with_receipts i those.0, subst (λ u. StandsFor db u (Some (with_receipts i those.0))) (sym it.0) (stands_for_found db name tenant i those.0 names is rows those.1), count ∙ sym it.1)
    | inr was ↦ judged t n was
  ]

  -- what a tenant has, with its receipts, is a state
  pub is_whole : (i : Inventory) → IsOfState i → HasRows db tenant i → (receipts : Receipts) × HasReceipts db tenant receipts
      → (s : TenantState) × StandsFor db name (Some s) × (i ≡ inventory_of s)
  is_whole i is rows those =
      let count = nat_is i.epoch (length those.0) (sym rows.epoch_is ∙ those.1.epoch_is) in
      (with_receipts i those.0, stands_for_found db name tenant i those.0 names is rows those.1, ap (λ n. record { versions = i.versions; devices = i.devices; pools = i.pools; epoch = n }) count)

  -- rows of no state
  pub no_rows : ((i : Inventory) → IsOfState i → ¬ HasRows db tenant i) → (s : TenantState) → ¬ StandsFor db name (Some s)
  no_rows none s those = none (inventory_of s) (is_of_state db name s those) (has_rows db name tenant s names those)

  not_empty : (A : Type 0) (x : A) (xs all : List A) → all ≡ x ∷ xs → all ≢ []
  not_empty A x xs all is empty = let never = sym is ∙ empty in absurd cc

  pub is_there : ¬ Names db name None
  is_there absent = not_empty _ names.0 [] _ names.1 absent

  -- the name is that of a tenant, and so not absent
  pub damaged : ((s : TenantState) → ¬ StandsFor db name (Some s)) → IsDamaged (StandsFor db) name
  damaged none None absent = is_there absent
  damaged none (Some s) those = none s those

-- what is found of a name
pub has_inventory : (db : Trees) (name : List ℕ) (i : Inventory) → (s : TenantState) × StandsFor db name (Some s) × (i ≡ inventory_of s) → HasInventory (StandsFor db) name (Some i)
has_inventory db name i it = (Some it.0, it.1, ap Some it.2)

pub no_tenant : (db : Trees) (name : List ℕ) → ((tenant : Option Tenant) → ¬ Names db name tenant) → IsDamaged (StandsFor db) name
no_tenant db name none None absent = none None absent
no_tenant db name none (Some s) those = let it = is_found db name s those in none (Some it.0) it.1

-- a name that stands for a state is that of a tenant, and one that is found
pub there : (db : Trees) (name : List ℕ) (s : TenantState) → StandsFor db name (Some s) → ¬ ((tenant : Option Tenant) → ¬ Names db name tenant)
there db name s those none = no_tenant db name none (Some s) those

pub not_absent : (db : Trees) (name : List ℕ) (s : TenantState) → StandsFor db name (Some s) → ¬ Names db name None
not_absent db name s those absent = let it = is_found db name s those in is_there db name it.0 it.1 absent

-- ---- numbers of versions

count_rows : (start : ℕ) (maps : List Map) → length (rows_of_versions start maps) ≡ length maps
count_rows start [] = refl
count_rows start (m ∷ maps) = ap suc (count_rows (start + 1) maps)

-- the same rows are those of the same number of versions
same_count : (all : List Row) (ms ns : List Map) → IsPermutation all (rows_of_versions 1 ms) → IsPermutation all (rows_of_versions 1 ns) → length ms ≡ length ns
same_count all ms ns these those =
    sym (count_rows 1 ms) ∙ (length_permutation all (rows_of_versions 1 ms) these ∙ (sym (length_permutation all (rows_of_versions 1 ns) those) ∙ count_rows 1 ns))

module _ (db : Trees) (name : List ℕ) (tenant : Tenant) (names : Names db name (Some tenant)) where
  -- a tenant has as many versions as were read
  pub as_read : (i : Inventory) (s : TenantState) → HasRows db tenant i → StandsFor db name (Some s) → length i.versions ≡ length s.versions
  as_read i s rows those = same_count (of_tenant maps_table tenant.id db) i.versions s.versions rows.versions (has_rows db name tenant s names those).versions

  -- or are remembered
  pub as_remembered : (counts : Counts) (n : ℕ) (s : TenantState) → AreJudged db counts → counts name ≡ Some n → StandsFor db name (Some s) → n ≡ length s.versions
  as_remembered counts n s judged found those =
      let it = judged name n found in
      sym it.2 ∙ as_read (inventory_of it.0) s (has_rows db name tenant it.0 names it.1) those
