-- Rows of a tenant with a key are deleted.
use Rattle.std.proofs.Common.{◌≡◌, ◌≢◌, ℕ, ℤ, List, [], ◌∷◌, map, filter, Bool, not, ◌&&◌, None, Some, slice_get, Ok, refl, sym, ap, subst, ◌∙◌}
use Rattle.std.specs.List.{AllByRecursion}
use Rattle.std.specs.List.Sorted.{IsPermutation}
use Rattle.std.proofs.lemmas.List.Sorted.{IsPermutation-map, IsPermutation-sym}
use Rattle.table_schema.specs.sqlite_value.specs.declared.value.Value.TheVariants.{Null, Int}
use Rattle.table_schema.specs.sqlite_value.specs.declared.keys.Collation.TheVariants.{Binary}
use Rattle.table_schema.specs.sqlite_value.specs.Keys.{joined}
use Rattle.table_schema.specs.sqlite_value.specs.Order.{Row, column}
use Rattle.sqlite_trees.specs.declared.store.Shape.TheVariants.{Table as TableShape}
use Rattle.sqlite_trees.specs.Tree.{Trees, rowid}
use Rattle.sqlite_trees.specs.View.{IsShaped}
use Rattle.sqlite_trees.proofs.ListLemmas.{map-map}
use Rattle.table_schema.specs.sqlite_schema.specs.declared.schema.Keys.TheVariants.{Enforced}
use Rattle.table_schema.specs.sqlite_schema.specs.declared.schema.Table.{Table}
use Rattle.table_schema.specs.sqlite_schema.specs.Names.{same_name}
use Rattle.table_schema.specs.sqlite_schema.specs.Rules.{equal}
use Rattle.table_schema.specs.sqlite_rules.specs.Edit.{edit_of, id_in, without_all}
use Rattle.table_schema.specs.sqlite_rules.specs.Action.{works}
use Rattle.table_schema.specs.sqlite_rules.specs.declared.error.Rowids.TheVariants.{Given}
use Rattle.table_schema.specs.sqlite_rules.proofs.ListLemmas.{has_filtered, has_kept}
use Rattle.table_schema.specs.sqlite_tied.specs.Compute.{everything}
use Rattle.sqlite.specs.Query.{IsAnswer, Output, output}
use Rattle.sqlite.specs.Program.{overlay}
use Rattle.sqlite.specs.Command.TheVariants.{Delete}
use Rattle.sqlite.specs.Does.{Tally, Does}
use Rattle.sqlite.specs.Rows.{Written}
use Rattle.sqlite.specs.Listing.{understood}
use Rattle.sqlite.specs.Effect.{Database, IsDatabase}
use Rattle.sqlite.specs.State.{State, mode_of, Executes}
use Rattle.sqlite.proofs.Callers.{statement_of, runs_as, one_step}
use Rattle.table_schema.specs.declared.schema.Layout.{Layout}
use Rattle.table_schema.specs.declared.schema.Layout.TheVariants.{Compact, Gapped}
use Rattle.table_schema.specs.Layout.{store_schema, receipts_tree, pools_tree, exceptions_tree, placed, devices_table, pools_table, exceptions_table}
use Rattle.table_schema.specs.Holds.{tree_of, rows_in}
use Rattle.table_schema.proofs.Places.{Places, places, read}
use Rattle.tenant_tables.proofs.Named.{OthersStay, but_devices, but_pools, but_exceptions}
use Rattle.table_schema.proofs.Queries.{staged_are}
use Rattle.tenant_tables.proofs.WriteTexts.{keyed_query, DeletesKeyed, clear_state_text, clear_state_is, remove_pool_text, remove_pool_is, clear_exceptions_text, clear_exceptions_is}
use Rattle.tenant_tables.proofs.Inserting.{went, same_value}
use Rattle.tenant_tables.proofs.Taking.{taken_out, has_permuted, has_mapped, was_mapped, own_rowid}

-- the rows that pass are taken out of the table, and the others are as they were
pub record TakenOut (table : Table) (p : Row → Bool) (old new : Trees) : Type 0 where
  pub rows : rows_in table new ≡ filter (λ r. not (p r)) (rows_in table old)
  pub others : OthersStay table old new

-- the row is the tenant's, and has the key
abbrev pub is_keyed : ℤ → ℤ → Row → Bool
is_keyed id key row = equal Binary (column row 1) (Int id) && equal Binary (column row 2) (Int key)

-- what is deleted from a table of tenants' rows sets nothing off
pub nothing_after : (layout : Layout) (depth : ℕ) (olds : List Row)
    → (works (store_schema layout) Enforced depth 4 olds [] ≡ [])
    × (works (store_schema layout) Enforced depth 6 olds [] ≡ [])
    × (works (store_schema layout) Enforced depth (pools_tree layout) olds [] ≡ [])
    × (works (store_schema layout) Enforced depth (receipts_tree layout) olds [] ≡ [])
    × (works (store_schema layout) Enforced depth (exceptions_tree layout) olds [] ≡ [])
unfolding everything same_name joined
nothing_after Compact depth olds = (refl, refl, refl, refl, refl)
nothing_after Gapped depth olds = (refl, refl, refl, refl, refl)

pub record Deleted (table : Table) (id key : ℤ) (old new : Database) : Type 0 where
  pub schema : new.schema ≡ old.schema
  pub sound : IsDatabase new
  pub taken : TakenOut table (is_keyed id key) old.trees new.trees

module _ (old new : State) (id key : ℤ) (count : ℕ) (layout : Layout) (has : old.now.schema ≡ store_schema layout) (sound : IsDatabase old.now) where
  -- the rowids of the rows that the query gives
  keyed_ids : (n : ℕ) (rows : List Row) → IsAnswer (keyed_query n) (overlay old.now.trees []) (Int id ∷ Int key ∷ []) rows
      → IsPermutation (map (λ r. id_in (rowid r)) (filter (is_keyed id key) (overlay old.now.trees [] n))) (map (λ r. id_in (rowid r)) rows)
  keyed_ids n rows a =
      let params : Row = Int id ∷ Int key ∷ [] in
      let all = filter (is_keyed id key) (overlay old.now.trees [] n) in
      let kept : a.kept ≡ map (λ r. ([], column r 0 ∷ [])) all =
      a.distinct ∙ ap (map (output (keyed_query n))) (a.grouped ∙ staged_are params (λ r. equal Binary (column r 1) (Int id)) (λ r. equal Binary (column r 2) (Int key)) (overlay old.now.trees [] n)) ∙ map-map (output (keyed_query n)) (λ (r : Row). params ∷ r ∷ []) all in
      let ids : (l : List Output) → List ℤ = map (λ (o : Output). id_in (rowid o.1)) in
      let mixed : IsPermutation (map (λ (o : Output). id_in (rowid o.1)) a.kept) (map (λ (o : Output). id_in (rowid o.1)) a.ordered) = IsPermutation-map _ _ _ a.same in
      let from : map (λ (o : Output). id_in (rowid o.1)) a.kept ≡ map (λ r. id_in (rowid r)) all = ap (map (λ (o : Output). id_in (rowid o.1))) kept ∙ map-map (λ (o : Output). id_in (rowid o.1)) _ all in
      let to : map (λ (o : Output). id_in (rowid o.1)) a.ordered ≡ map (λ r. id_in (rowid r)) rows = sym (map-map (λ (r : Row). id_in (rowid r)) (λ (o : Output). o.1) a.ordered) ∙ ap (map (λ r. id_in (rowid r))) (sym a.shown) in
      subst (λ l. IsPermutation l (map (λ r. id_in (rowid r)) rows)) from (subst (IsPermutation _) to mixed)

  keyed_out : (n : ℕ) (rows : List Row) → IsShaped TableShape (overlay old.now.trees [] n) → IsAnswer (keyed_query n) (overlay old.now.trees []) (Int id ∷ Int key ∷ []) rows
      → without_all (overlay old.now.trees [] n) (map (λ r. id_in (rowid r)) rows) ≡ filter (λ r. not (is_keyed id key r)) (overlay old.now.trees [] n)
  keyed_out n rows up a =
      let all = overlay old.now.trees [] n in
      let same = keyed_ids n rows a in
      taken_out all (is_keyed id key) (map (λ r. id_in (rowid r)) rows) up
      (λ r there passes. has_permuted _ _ _ same (has_mapped (λ r. id_in (rowid r)) _ r (has_kept (is_keyed id key) all r there passes)))
      (λ at there.
      let it = was_mapped (λ (r : Row). id_in (rowid r)) _ at (has_permuted _ _ _ (IsPermutation-sym _ _ same) there) in
      let found = has_filtered (is_keyed id key) all it.0 it.1 in
      (it.0, found.0, found.1, own_rowid all it.0 up found.0 ∙ ap Int (sym it.2)))

  before : Places layout old.now.trees
  before = places layout old.now sound has

  deletes : (table : Table) (tree place : ℕ) (text : List ℕ) → tree_of old.now.trees table.name ≡ tree → (Places layout new.now.trees → tree_of new.now.trees table.name ≡ tree)
      → (Places layout new.now.trees → AllByRecursion (λ t. t.tree ≢ tree → new.now.trees t.tree ≡ old.now.trees t.tree) (store_schema layout).tables → OthersStay table old.now.trees new.now.trees)
      → ((olds : List Row) → works (store_schema layout) Enforced 0 tree olds [] ≡ []) → overlay old.now.trees [] tree ≡ old.now.trees tree → slice_get (store_schema layout).tables place ≡ Some (placed tree table)
      → DeletesKeyed layout text place tree → IsShaped TableShape (rows_in table old.now.trees) → Executes text (Int id ∷ Int key ∷ []) old new (Ok count) → Deleted table id key old.now new.now
  deletes table tree place text was is others nothing over there by up h =
      let schema = store_schema layout in
      let params : Row = Int id ∷ Int key ∷ [] in
      let command = Delete place (record { lets = []; body = keyed_query tree }) in
      let w = runs_as text params old new schema has command by.command by.plain count h in
      let statement = statement_of text (understood schema text) in
      let does = subst (λ s. Does old.step_limit (mode_of old) params (record old.now { schema = s }) statement None command (Ok (w.tally, new.now))) has w.changed in
      let done = went (rw there at does) in
      let now = ap (λ (p : Tally × Database). p.1) (same_value (went (went done.2).2).2) in
      let found = went done.1 in
      let left = went found.2 in
      let trees : new.now.trees ≡ left.0 = ap (λ (d : Database). d.trees) now ∙ ap (λ (it : Written). it.trees) (same_value left.2) in
      let step = one_step schema Enforced old.now.trees left.0 (edit_of old.now.trees (placed tree table) (map (λ r. id_in (rowid r)) found.0) Given 0 []) (nothing _) left.1 in
      let same : new.now.schema ≡ old.now.schema = ap (λ (d : Database). d.schema) now ∙ sym has in
      let after = places layout new.now w.sound (same ∙ has) in
      let here : rows_in table old.now.trees ≡ overlay old.now.trees [] tree = ap old.now.trees was ∙ sym over in
      let out = keyed_out tree found.0 (subst (IsShaped TableShape) here up) (found.1.answer Null) in
      let gone : left.0 tree ≡ filter (λ r. not (is_keyed id key r)) (rows_in table old.now.trees) =
      step.rows ∙ subst (λ rows. without_all rows (map (λ r. id_in (rowid r)) found.0) ≡ filter (λ r. not (is_keyed id key r)) (rows_in table old.now.trees)) over (subst (λ rows. without_all (overlay old.now.trees [] tree) (map (λ r. id_in (rowid r)) found.0) ≡ filter (λ r. not (is_keyed id key r)) rows) (sym here) out) in
      record {
        schema = same;
        sound = w.sound;
        taken = record {
          rows = ap new.now.trees (is after) ∙ ap (λ (t : Trees). t tree) trees ∙ gone;
          others = others after (subst (λ (n : Trees). AllByRecursion (λ t. t.tree ≢ tree → n t.tree ≡ old.now.trees t.tree) schema.tables) (sym trees) step.tables);
        };
      }

  pub clears_state : IsShaped TableShape (rows_in devices_table old.now.trees) → Executes clear_state_text (Int id ∷ Int key ∷ []) old new (Ok count) → Deleted devices_table id key old.now new.now
  clears_state = deletes devices_table 6 4 clear_state_text before.devices (λ after. after.devices) (λ after. but_devices layout old.now.trees new.now.trees before after) (λ olds. (nothing_after layout 0 olds).1) refl refl (clear_state_is layout)

  pub removes_pool : IsShaped TableShape (rows_in pools_table old.now.trees) → Executes remove_pool_text (Int id ∷ Int key ∷ []) old new (Ok count) → Deleted pools_table id key old.now new.now
  removes_pool = deletes pools_table (pools_tree layout) 6 remove_pool_text before.pools (λ after. after.pools) (λ after. but_pools layout old.now.trees new.now.trees before after) (λ olds. (nothing_after layout 0 olds).2) (read layout old.now.trees).pools refl (remove_pool_is layout)

  pub clears_exceptions : IsShaped TableShape (rows_in exceptions_table old.now.trees) → Executes clear_exceptions_text (Int id ∷ Int key ∷ []) old new (Ok count) → Deleted exceptions_table id key old.now new.now
  clears_exceptions =
      deletes exceptions_table (exceptions_tree layout) 7 clear_exceptions_text before.exceptions (λ after. after.exceptions) (λ after. but_exceptions layout old.now.trees new.now.trees before after) (λ olds. (nothing_after layout 0 olds).4)
      (read layout old.now.trees).exceptions refl (clear_exceptions_is layout)
