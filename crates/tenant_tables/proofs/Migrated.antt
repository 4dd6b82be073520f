-- Tables that were made, or that took the place of those of schema 1, stand for the same states.
use Rattle.std.proofs.Common.{◌≡◌, ◌↔◌, inl, inr, ℕ, ℤ, pos, List, [], ◌∷◌, ◌++◌, length, map, filter, drop, take, Bool, Option, Some, None, arith, refl, sym, ap, subst, ◌∙◌}
use Rattle.std.specs.List.{AllByRecursion}
use Rattle.std.specs.List.Sorted.{IsPermutation}
use Rattle.std.proofs.lemmas.List.Sorted.{IsPermutation-map, IsPermutation-refl, IsPermutation-sym, IsPermutation-trans, length_permutation}
use Rattle.table_schema.specs.sqlite_value.specs.declared.value.Value.TheVariants.{Int, Text as Words}
use Rattle.table_schema.specs.sqlite_value.specs.declared.keys.Collation.TheVariants.{Binary}
use Rattle.table_schema.specs.sqlite_value.specs.Order.{Row, column}
use Rattle.sqlite_trees.specs.Tree.{Trees}
use Rattle.table_schema.specs.sqlite_keyed.proofs.ListLemmas.{IsPermutation-filter, filter-map, map-map}
use Rattle.table_schema.specs.sqlite_schema.specs.Rules.{equal}
use Rattle.sqlite.specs.Effect.{Database}
use Rattle.sqlite.specs.Schema.{Schema}
use Rattle.tenant_state.specs.State.{TenantPool, TenantState}
use Rattle.table_schema.specs.declared.schema.Layout.{Layout}
use Rattle.table_schema.specs.Holds.{of_tenant, rows_in, rows_with, tenants_of, values_from, values_of}
use Rattle.table_schema.specs.Layout.{IsStoreSchema, no_schema, first_schema, store_schema, devices_table, exceptions_table, first_pools_table, maps_table, pools_table, receipts_table}
use Rattle.tenant_tables.specs.Opened.{IsBare, Migrates, SetsUp}
use Rattle.tenant_tables.proofs.OneState.{some_row}
use Rattle.tenant_tables.proofs.PairRows.{as_many}
use Rattle.tenant_tables.specs.Rows.{FirstStandsFor, StandsFor, StatesIn, first_row_of_pool, row_of_pool, row_of_receipt, row_of_state, rows_of_exceptions, rows_of_pairs, rows_of_versions}

-- ---- schemas

abbrev tables_in : Schema → ℕ
tables_in schema = length schema.tables

first_is_some : first_schema ≡ no_schema → ⊥
first_is_some e = let same : 7 ≡ 0 = ap tables_in e in absurd (omega (arith, same))

store_is_some : (layout : Layout) → store_schema layout ≡ no_schema → ⊥
store_is_some layout e = let same : 8 ≡ 0 = ap tables_in e in absurd (omega (arith, same))

store_is_second : (layout : Layout) → store_schema layout ≡ first_schema → ⊥
store_is_second layout e = let same : 8 ≡ 7 = ap tables_in e in absurd (omega (arith, same))

-- ---- no pairs

pub no_rows : (ps : List TenantPool) → AllByRecursion (λ (p : TenantPool). p.pairs ≡ []) ps → rows_of_exceptions ps ≡ []
no_rows [] none = refl
no_rows (p ∷ ps) none = ap (λ l. rows_of_pairs p.parts.id 0 l ++ rows_of_exceptions ps) none.0 ∙ no_rows ps none.1

nothing_in : {A : Type 0} (xs ys : List A) → xs ++ ys ≡ [] → (xs ≡ []) × (ys ≡ [])
nothing_in [] ys none = (refl, none)
nothing_in (x ∷ xs) ys none = absurd (omega (arith, ap length none))

no_pair : {A : Type 0} (xs : List A) → length xs ≡ 0 → xs ≡ []
no_pair [] none = refl
no_pair (x ∷ xs) none = absurd (omega (arith, none))

without_pairs : (ps : List TenantPool) → rows_of_exceptions ps ≡ [] → AllByRecursion (λ (p : TenantPool). p.pairs ≡ []) ps
without_pairs [] none = tt
without_pairs (p ∷ ps) none =
    let both = nothing_in (rows_of_pairs p.parts.id 0 p.pairs) (rows_of_exceptions ps) none in
    (no_pair p.pairs (sym (as_many p.parts.id 0 p.pairs) ∙ ap length both.0), without_pairs ps both.1)

-- ---- the rows of pools

-- one more value, 0, and without it
abbrev pub more : Row → Row
more row = row ++ Int (pos 0) ∷ []

abbrev less : Row → Row
less row = take 8 row

abbrev is_of : ℤ → Row → Bool
is_of id row = equal Binary (column row 0) (Int id)

-- where no pool has pairs its row is that of schema 1, and 0
pub rows_more : (ps : List TenantPool) → AllByRecursion (λ (p : TenantPool). p.pairs ≡ []) ps → map more (map (λ (p : TenantPool). first_row_of_pool p.parts) ps) ≡ map row_of_pool ps
rows_more [] none = refl
rows_more (p ∷ ps) none =
    ap (λ l. row_of_pool (record p { pairs = l }) ∷ map more (map (λ (q : TenantPool). first_row_of_pool q.parts) ps)) (sym none.0) ∙ ap (λ l. row_of_pool p ∷ l) (rows_more ps none.1)

rows_less : (ps : List TenantPool) → map less (map row_of_pool ps) ≡ map (λ (p : TenantPool). first_row_of_pool p.parts) ps
rows_less ps = map-map less row_of_pool ps

-- the rows of a tenant, of all rows with their numbers
pools_of_all : (id : ℤ) (rows : List Row) → map (drop 1) (filter (is_of id) (map (values_from 1 pools_table.columns) rows)) ≡ map (values_of pools_table) (rows_with 1 (Int id) rows)
pools_of_all id rows =
    ap (map (drop 1)) (filter-map (is_of id) (values_from 1 pools_table.columns) rows) ∙ map-map (drop 1) (values_from 1 pools_table.columns) (rows_with 1 (Int id) rows)

first_of_all : (id : ℤ) (rows : List Row)
    → map (drop 1) (filter (is_of id) (map (λ row. values_from 1 first_pools_table.columns row ++ Int (pos 0) ∷ []) rows)) ≡ map more (map (values_of first_pools_table) (rows_with 1 (Int id) rows))
first_of_all id rows =
    ap (map (drop 1)) (filter-map (is_of id) (λ row. values_from 1 first_pools_table.columns row ++ Int (pos 0) ∷ []) rows)
    ∙ (map-map (drop 1) (λ row. values_from 1 first_pools_table.columns row ++ Int (pos 0) ∷ []) (rows_with 1 (Int id) rows)
    ∙ sym (map-map more (values_of first_pools_table) (rows_with 1 (Int id) rows)))

less_more : (id : ℤ) (db : Trees) → map less (map more (of_tenant first_pools_table id db)) ≡ of_tenant first_pools_table id db
less_more id db =
    ap (map less) (map-map more (values_of first_pools_table) (rows_with 1 (Int id) (rows_in first_pools_table db)))
    ∙ map-map less (λ row. more (values_of first_pools_table row)) (rows_with 1 (Int id) (rows_in first_pools_table db))

-- ---- one tenant

module _ (old new : Trees) (migrated : Migrates old new) where
  tenants_are : (name : List ℕ) → tenants_of new name ≡ tenants_of old name
  tenants_are name = ap (rows_with 2 (Words name)) migrated.tables.0

  -- the tenant's rows of pools have one value more
  pools_are : (id : ℤ) → IsPermutation (of_tenant pools_table id new) (map more (of_tenant first_pools_table id old))
  pools_are id =
      subst (λ l. IsPermutation l (map more (of_tenant first_pools_table id old))) (pools_of_all id (rows_in pools_table new))
      (subst (IsPermutation (map (drop 1) (filter (is_of id) (map (values_from 1 pools_table.columns) (rows_in pools_table new))))) (first_of_all id (rows_in first_pools_table old))
      (IsPermutation-map (drop 1) _ _ (IsPermutation-filter (is_of id) _ _ migrated.pools)))

  exceptions_are : (id : ℤ) → of_tenant exceptions_table id new ≡ []
  exceptions_are id = ap (λ rows. map (values_of exceptions_table) (rows_with 1 (Int id) rows)) migrated.exceptions

  onward : (name : List ℕ) (s : Option TenantState) → FirstStandsFor old name s → StandsFor new name s
  onward name None absent = tenants_are name ∙ absent
  onward name (Some s) (is, held) = (
    is,
    record {
      id = held.id;
      tenant = record { row = held.tenant.row; one = tenants_are name ∙ held.tenant.one; number = held.tenant.number; epoch_is = held.tenant.epoch_is };
      maps = subst (λ rows. IsPermutation (map (values_of maps_table) (rows_with 1 (Int held.id) rows)) (rows_of_versions 1 s.versions)) (sym migrated.tables.1.1.0) held.maps;
      devices = subst (λ rows. IsPermutation (map (values_of devices_table) (rows_with 1 (Int held.id) rows)) (map row_of_state s.devices)) (sym migrated.tables.1.1.1.0) held.devices;
      receipts = subst (λ rows. IsPermutation (map (values_of receipts_table) (rows_with 1 (Int held.id) rows)) (map row_of_receipt s.receipts)) (sym migrated.tables.1.1.1.1.0) held.receipts;
      pools = subst (IsPermutation (of_tenant pools_table held.id new)) (rows_more s.pools held.no_pairs)
          (IsPermutation-trans _ _ _ (pools_are held.id) (IsPermutation-map more _ _ held.pools));
      exceptions = subst (λ l. IsPermutation l (rows_of_exceptions s.pools)) (no_rows s.pools held.no_pairs ∙ sym (exceptions_are held.id)) (IsPermutation-refl _);
    },
  )

  backward : (name : List ℕ) (s : Option TenantState) → StandsFor new name s → FirstStandsFor old name s
  backward name None absent = sym (tenants_are name) ∙ absent
  backward name (Some s) (is, held) =
      let many = length_permutation _ _ (subst (λ l. IsPermutation l (rows_of_exceptions s.pools)) (exceptions_are held.id) held.exceptions) in
      let none = without_pairs s.pools (no_pair (rows_of_exceptions s.pools) (omega (arith, many))) in
      let back : IsPermutation (map more (of_tenant first_pools_table held.id old)) (map row_of_pool s.pools) =
      IsPermutation-trans _ _ _ (IsPermutation-sym _ _ (pools_are held.id)) held.pools in (
        is,
        record {
          id = held.id;
          tenant = record { row = held.tenant.row; one = sym (tenants_are name) ∙ held.tenant.one; number = held.tenant.number; epoch_is = held.tenant.epoch_is };
          maps = subst (λ rows. IsPermutation (map (values_of maps_table) (rows_with 1 (Int held.id) rows)) (rows_of_versions 1 s.versions)) migrated.tables.1.1.0 held.maps;
          devices = subst (λ rows. IsPermutation (map (values_of devices_table) (rows_with 1 (Int held.id) rows)) (map row_of_state s.devices)) migrated.tables.1.1.1.0 held.devices;
          receipts = subst (λ rows. IsPermutation (map (values_of receipts_table) (rows_with 1 (Int held.id) rows)) (map row_of_receipt s.receipts)) migrated.tables.1.1.1.1.0 held.receipts;
          pools = subst (λ l. IsPermutation l (map (λ (p : TenantPool). first_row_of_pool p.parts) s.pools)) (less_more held.id old)
              (subst (IsPermutation (map less (map more (of_tenant first_pools_table held.id old)))) (rows_less s.pools) (IsPermutation-map less _ _ back));
          no_pairs = none;
        },
      )

  -- migrated rows stand for the same states
  pub same_states : (name : List ℕ) (s : Option TenantState) → FirstStandsFor old name s ↔ StandsFor new name s
  same_states name s = (onward name s, backward name s)

-- ---- all tenants

-- bare tables stand for no tenant
bare_states : (db : Database) (name : List ℕ) (s : Option TenantState) → IsBare db → StandsFor db.trees name s → s ≡ None
bare_states db name None bare is = refl
bare_states db name (Some s) bare is = absurd (some_row is.1.tenant.row (sym is.1.tenant.one ∙ ap (rows_with 2 (Words name)) bare.tenants))

-- what is said of tables that were found
pub found_states : (db : Database) → IsStoreSchema db.schema → (name : List ℕ) (s : Option TenantState) → StatesIn db name s ↔ StandsFor db.trees name s
found_states db (layout, own) name s = (
  λ said. elim said [
    | inl e ↦ absurd (store_is_some layout (sym own ∙ e.0))
    | inr (inl e) ↦ absurd (store_is_second layout (sym own ∙ e.0))
    | inr (inr e) ↦ e.1
  ],
  λ has. inr (inr ((layout, own), has)),
)

-- and of tables that an opening has made, or put in the place of others
pub set_up_states : (old : Database) (trees : Trees) → SetsUp old trees → (name : List ℕ) (s : Option TenantState) → StatesIn old name s ↔ StandsFor trees name s
set_up_states old trees (inl (none, (db, bare, is))) name s = (
  λ said. elim said [
    | inl e ↦ subst (StandsFor trees name) (sym e.1) (ap (λ (d : Trees). tenants_of d name) is ∙ ap (rows_with 2 (Words name)) bare.tenants)
    | inr (inl e) ↦ absurd (first_is_some (sym e.0 ∙ none))
    | inr (inr e) ↦ absurd (store_is_some e.0.0 (sym e.0.1 ∙ none))
  ],
  λ has. inl (none, bare_states db name s bare (subst (λ (d : Trees). StandsFor d name s) is has)),
)
set_up_states old trees (inr (first, (db, it, is))) name s =
    let same = same_states old.trees db.trees it.rows name s in (
      λ said. elim said [
        | inl e ↦ absurd (first_is_some (sym first ∙ e.0))
        | inr (inl e) ↦ subst (λ (d : Trees). StandsFor d name s) (sym is) (same.0 e.1)
        | inr (inr e) ↦ absurd (store_is_second e.0.0 (sym e.0.1 ∙ first))
      ],
      λ has. inr (inl (first, same.1 (subst (λ (d : Trees). StandsFor d name s) is has))),
    )
