-- Tables by their names, whatever their trees are.
use Rattle.std.proofs.Common.{◌≡◌, ◌≢◌, ◌⊎◌, inl, inr, ℕ, List, [], ◌∷◌, true, false, sym, ap, subst, ◌∙◌, arith, true≢false, bytes_eq}
use Rattle.std.specs.List.{AllByRecursion}
use Rattle.std.specs.Cmp.Lexicographic.{same_text}
use Rattle.std.proofs.lemmas.Bool.{cases_Bool}
use Rattle.sqlite_trees.specs.Tree.{Trees}
use Rattle.sqlite_trees.proofs.ListLemmas.{all_weaker}
use Rattle.table_schema.specs.sqlite_schema.specs.declared.schema.Table.{Table}
use Rattle.table_schema.specs.declared.schema.Layout.{Layout}
use Rattle.table_schema.specs.Layout.{store_schema, receipts_tree, pools_tree, exceptions_tree, placed, tenants_table, maps_table, devices_table, pools_table, receipts_table, exceptions_table, tables_of_tenants}
use Rattle.table_schema.specs.Holds.{tree_of, rows_in}
use Rattle.table_schema.proofs.Places.{Places, apart}

-- the tables whose rows these writes concern
abbrev pub written_tables : List Table
written_tables = tenants_table ∷ tables_of_tenants

-- the same tables in their trees, in the order of the schema
abbrev pub placed_tables : Layout → List Table
placed_tables layout =
    placed 1 tenants_table ∷ placed 4 maps_table ∷ placed 6 devices_table ∷ placed (receipts_tree layout) receipts_table ∷ placed (pools_tree layout) pools_table ∷ placed (exceptions_tree layout) exceptions_table ∷ []

-- each table of another name has the rows that it had
abbrev pub OthersStay : Table → Trees → Trees → Type 0
OthersStay table old new = AllByRecursion (λ t. bytes_eq t.name table.name ≡ false → rows_in t new ≡ rows_in t old) written_tables

-- the facts of the tables, from that of one name and those of each other
pub by_name : (P : List ℕ → Type 0) (name : List ℕ) (tables : List Table) → P name → AllByRecursion (λ t. bytes_eq t.name name ≡ false → P t.name) tables → AllByRecursion (λ t. P t.name) tables
by_name P name tables own others = all_weaker (λ t. bytes_eq t.name name ≡ false → P t.name) (λ t. P t.name) (λ t other. go t.name other (cases_Bool (bytes_eq t.name name))) tables others
  where
    go : (n : List ℕ) → (bytes_eq n name ≡ false → P n) → (bytes_eq n name ≡ true) ⊎ (bytes_eq n name ≡ false) → P n
    go n other (inl same) = subst P (sym (same_text n name (sym same))) own
    go n other (inr away) = other away

module _ (layout : Layout) (old new : Trees) (before : Places layout old) (after : Places layout new) where
  pub kept : (table : Table) (tree : ℕ) → tree_of old table.name ≡ tree → tree_of new table.name ≡ tree → new tree ≡ old tree → rows_in table new ≡ rows_in table old
  kept table tree was is same = ap new is ∙ same ∙ sym (ap old was)

  -- each tree of the schema but one is as it was
  abbrev pub Stays : ℕ → Type 0
  Stays n = AllByRecursion (λ t. t.tree ≢ n → new t.tree ≡ old t.tree) (store_schema layout).tables

  pub but_tenants : Stays 1 → OthersStay tenants_table old new
  but_tenants same = ((λ other. absurd (true≢false other)), ((λ _. kept maps_table 4 before.maps after.maps (same.1.1.1.0 (λ same. absurd (omega (arith, same))))), ((λ _. kept devices_table 6 before.devices after.devices (same.1.1.1.1.0 (λ same. absurd (omega (arith, same))))), ((λ _. kept pools_table (pools_tree layout) before.pools after.pools (same.1.1.1.1.1.1.0 (λ same. (apart layout).pools 1 (omega arith) (sym same)))), ((λ _. kept receipts_table (receipts_tree layout) before.receipts after.receipts (same.1.1.1.1.1.0 (λ same. (apart layout).receipts 1 (omega arith) (sym same)))), ((λ _. kept exceptions_table (exceptions_tree layout) before.exceptions after.exceptions (same.1.1.1.1.1.1.1.0 (λ same. (apart layout).exceptions 1 (omega arith) (sym same)))), tt))))))

  pub but_maps : Stays 4 → OthersStay maps_table old new
  but_maps same = ((λ _. kept tenants_table 1 before.tenants after.tenants (same.1.0 (λ same. absurd (omega (arith, same))))), ((λ other. absurd (true≢false other)), ((λ _. kept devices_table 6 before.devices after.devices (same.1.1.1.1.0 (λ same. absurd (omega (arith, same))))), ((λ _. kept pools_table (pools_tree layout) before.pools after.pools (same.1.1.1.1.1.1.0 (λ same. (apart layout).pools 4 (omega arith) (sym same)))), ((λ _. kept receipts_table (receipts_tree layout) before.receipts after.receipts (same.1.1.1.1.1.0 (λ same. (apart layout).receipts 4 (omega arith) (sym same)))), ((λ _. kept exceptions_table (exceptions_tree layout) before.exceptions after.exceptions (same.1.1.1.1.1.1.1.0 (λ same. (apart layout).exceptions 4 (omega arith) (sym same)))), tt))))))

  pub but_devices : Stays 6 → OthersStay devices_table old new
  but_devices same = ((λ _. kept tenants_table 1 before.tenants after.tenants (same.1.0 (λ same. absurd (omega (arith, same))))), ((λ _. kept maps_table 4 before.maps after.maps (same.1.1.1.0 (λ same. absurd (omega (arith, same))))), ((λ other. absurd (true≢false other)), ((λ _. kept pools_table (pools_tree layout) before.pools after.pools (same.1.1.1.1.1.1.0 (λ same. (apart layout).pools 6 (omega arith) (sym same)))), ((λ _. kept receipts_table (receipts_tree layout) before.receipts after.receipts (same.1.1.1.1.1.0 (λ same. (apart layout).receipts 6 (omega arith) (sym same)))), ((λ _. kept exceptions_table (exceptions_tree layout) before.exceptions after.exceptions (same.1.1.1.1.1.1.1.0 (λ same. (apart layout).exceptions 6 (omega arith) (sym same)))), tt))))))

  pub but_pools : Stays (pools_tree layout) → OthersStay pools_table old new
  but_pools same = ((λ _. kept tenants_table 1 before.tenants after.tenants (same.1.0 ((apart layout).pools 1 (omega arith)))), ((λ _. kept maps_table 4 before.maps after.maps (same.1.1.1.0 ((apart layout).pools 4 (omega arith)))), ((λ _. kept devices_table 6 before.devices after.devices (same.1.1.1.1.0 ((apart layout).pools 6 (omega arith)))), ((λ other. absurd (true≢false other)), ((λ _. kept receipts_table (receipts_tree layout) before.receipts after.receipts (same.1.1.1.1.1.0 ((apart layout).receipts-pools))), ((λ _. kept exceptions_table (exceptions_tree layout) before.exceptions after.exceptions (same.1.1.1.1.1.1.1.0 (λ same. (apart layout).pools-exceptions (sym same)))), tt))))))

  pub but_receipts : Stays (receipts_tree layout) → OthersStay receipts_table old new
  but_receipts same = ((λ _. kept tenants_table 1 before.tenants after.tenants (same.1.0 ((apart layout).receipts 1 (omega arith)))), ((λ _. kept maps_table 4 before.maps after.maps (same.1.1.1.0 ((apart layout).receipts 4 (omega arith)))), ((λ _. kept devices_table 6 before.devices after.devices (same.1.1.1.1.0 ((apart layout).receipts 6 (omega arith)))), ((λ _. kept pools_table (pools_tree layout) before.pools after.pools (same.1.1.1.1.1.1.0 (λ same. (apart layout).receipts-pools (sym same)))), ((λ other. absurd (true≢false other)), ((λ _. kept exceptions_table (exceptions_tree layout) before.exceptions after.exceptions (same.1.1.1.1.1.1.1.0 (λ same. (apart layout).receipts-exceptions (sym same)))), tt))))))

  pub but_exceptions : Stays (exceptions_tree layout) → OthersStay exceptions_table old new
  but_exceptions same = ((λ _. kept tenants_table 1 before.tenants after.tenants (same.1.0 ((apart layout).exceptions 1 (omega arith)))), ((λ _. kept maps_table 4 before.maps after.maps (same.1.1.1.0 ((apart layout).exceptions 4 (omega arith)))), ((λ _. kept devices_table 6 before.devices after.devices (same.1.1.1.1.0 ((apart layout).exceptions 6 (omega arith)))), ((λ _. kept pools_table (pools_tree layout) before.pools after.pools (same.1.1.1.1.1.1.0 ((apart layout).pools-exceptions))), ((λ _. kept receipts_table (receipts_tree layout) before.receipts after.receipts (same.1.1.1.1.1.0 ((apart layout).receipts-exceptions))), ((λ other. absurd (true≢false other)), tt))))))
