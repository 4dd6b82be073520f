-- A tenant's epoch is set.
use Rattle.std.proofs.Common.{◌≡◌, ◌≢◌, ℕ, ℤ, List, [], ◌∷◌, map, None, Ok, refl, sym, ap, subst, ◌∙◌}
use Rattle.std.specs.List.{AllByRecursion}
use Rattle.std.specs.List.Sorted.{IsPermutation}
use Rattle.table_schema.specs.sqlite_value.specs.declared.value.Value.TheVariants.{Null, Int, Text as Words}
use Rattle.table_schema.specs.sqlite_value.specs.Order.{Row, column}
use Rattle.sqlite_trees.specs.Tree.{Trees, put_row, without_rowid, rowid}
use Rattle.table_schema.specs.sqlite_schema.specs.declared.schema.Keys.TheVariants.{Enforced}
use Rattle.table_schema.specs.sqlite_rules.specs.Edit.{edit_of, id_in, put_all}
use Rattle.table_schema.specs.sqlite_rules.specs.Action.{Writes as Leaves}
use Rattle.table_schema.specs.sqlite_rules.specs.declared.error.Rowids.TheVariants.{Given}
use Rattle.sqlite.specs.Query.{IsAnswer, Output, output}
use Rattle.sqlite.specs.Program.{overlay}
use Rattle.sqlite.specs.Command.TheVariants.{Update}
use Rattle.sqlite.specs.Does.{Tally, Does}
use Rattle.sqlite.specs.Rows.{Written}
use Rattle.sqlite.specs.Listing.{understood}
use Rattle.sqlite.specs.Effect.{Database, IsDatabase}
use Rattle.sqlite.specs.State.{State, mode_of, Executes}
use Rattle.sqlite.proofs.Callers.{statement_of, runs_as, one_step, one_permutation}
use Rattle.table_schema.specs.declared.schema.Layout.{Layout}
use Rattle.table_schema.specs.Layout.{store_schema, placed, tenants_table, tables_of_tenants}
use Rattle.table_schema.specs.Holds.{rows_in, rows_with}
use Rattle.table_schema.proofs.Places.{places}
use Rattle.tenant_tables.proofs.Named.{but_tenants}
use Rattle.table_schema.proofs.Queries.{staged_is}
use Rattle.tenant_tables.proofs.WriteTexts.{raise_text, raise_query, raise_is}
use Rattle.tenant_tables.proofs.Inserting.{went, same_value, cast_null, cast_int}

-- the row of the tenant is put in again with this epoch
pub record Raised (id : ℤ) (name : List ℕ) (e : ℤ) (old new : Database) : Type 0 where
  pub schema : new.schema ≡ old.schema
  pub sound : IsDatabase new
  pub tenants : rows_in tenants_table new.trees ≡ put_row (Int id ∷ Null ∷ Words name ∷ Int e ∷ []) (without_rowid id (rows_in tenants_table old.trees))
  pub others : AllByRecursion (λ t. rows_in t new.trees ≡ rows_in t old.trees) tables_of_tenants

news_are : (db : Trees) (id e : ℤ) (name : List ℕ) → (edit_of db (placed 1 tenants_table) (id ∷ []) Given 1 ((Int id ∷ Int id ∷ Null ∷ Words name ∷ Int e ∷ []) ∷ [])).news ≡ (Int id ∷ Null ∷ Words name ∷ Int e ∷ []) ∷ []
news_are db id e name = rw (cast_int id, cast_null, cast_int e)

pub raises : (old new : State) (name : List ℕ) (e : ℤ) (row : Row) (id : ℤ) (count : ℕ) (layout : Layout) → old.now.schema ≡ store_schema layout → IsDatabase old.now → rows_with 0 (Int id) (rows_in tenants_table old.now.trees) ≡ row ∷ [] → column row 0 ≡ Int id → column row 2 ≡ Words name
    → Executes raise_text (Int id ∷ Int e ∷ []) old new (Ok count) → Raised id name e old.now new.now
raises old new name e row id count layout has sound is_there keyed named h =
    let schema = store_schema layout in
    let before = places layout old.now sound has in
    let is : rows_with 0 (Int id) (old.now.trees 1) ≡ row ∷ [] = subst (λ n. rows_with 0 (Int id) (old.now.trees n) ≡ row ∷ []) before.tenants is_there in
    let params : Row = Int id ∷ Int e ∷ [] in
    let command = Update 1 (record { lets = []; body = raise_query }) in
    let w = runs_as raise_text params old new schema has command (raise_is layout).0 (raise_is layout).1 count h in
    let text = statement_of raise_text (understood schema raise_text) in
    let done = went (subst (λ s. Does old.step_limit (mode_of old) params (record old.now { schema = s }) text None command (Ok (w.tally, new.now))) has w.changed) in
    let now = ap (λ (p : Tally × Database). p.1) (same_value (went (went done.2).2).2) in
    let found = went done.1 in
    let left = went found.2 in
    let trees : new.now.trees ≡ left.0 = ap (λ (d : Database). d.trees) now ∙ ap (λ (it : Written). it.trees) (same_value left.2) in
    let a : IsAnswer raise_query (overlay old.now.trees []) params found.0 = found.1.answer Null in
    let staged = a.grouped ∙ staged_is params _ (old.now.trees 1) in
    let shown : Row = column row 0 ∷ column row 0 ∷ Null ∷ column row 2 ∷ Int e ∷ [] in
    let one : Output = ([], shown) in
    let kept : a.kept ≡ one ∷ [] = a.distinct ∙ ap (map (output raise_query)) (staged ∙ ap (map (λ r. params ∷ r ∷ [])) is) in
    let ordered = one_permutation one a.ordered (subst (λ k. IsPermutation k a.ordered) kept a.same) in
    let same : shown ≡ Int id ∷ Int id ∷ Null ∷ Words name ∷ Int e ∷ [] = rw (keyed, named) in
    let rows : found.0 ≡ (Int id ∷ Int id ∷ Null ∷ Words name ∷ Int e ∷ []) ∷ [] = a.shown ∙ ap (map (λ (o : Output). o.1)) ordered ∙ ap (λ r. r ∷ []) same in
    let db = old.now.trees in
    let edited : Leaves schema Enforced db (edit_of db (placed 1 tenants_table) (id ∷ []) Given 1 ((Int id ∷ Int id ∷ Null ∷ Words name ∷ Int e ∷ []) ∷ [])) (Ok left.0) =
    subst (λ all. Leaves schema Enforced db (edit_of db (placed 1 tenants_table) (map (λ r. id_in (rowid r)) all) Given 1 all) (Ok left.0)) rows left.1 in
    let step = one_step schema Enforced db left.0 _ refl edited in
    let same_schema : new.now.schema ≡ old.now.schema = ap (λ (d : Database). d.schema) now ∙ sym has in
    let after = places layout new.now w.sound (same_schema ∙ has) in
    let stays = subst (λ (n : Trees). AllByRecursion (λ t. t.tree ≢ 1 → n t.tree ≡ db t.tree) schema.tables) (sym trees) step.tables in
    let others = but_tenants layout db new.now.trees before after stays in
    record {
      schema = same_schema;
      sound = w.sound;
      tenants = ap new.now.trees after.tenants ∙ ap (λ (t : Trees). t 1) trees ∙ step.rows ∙ ap (put_all (without_rowid id (db 1))) (news_are db id e name) ∙ ap (λ n. put_row (Int id ∷ Null ∷ Words name ∷ Int e ∷ []) (without_rowid id (db n))) (sym before.tenants);
      others = (others.1.0 refl, (others.1.1.0 refl, (others.1.1.1.0 refl, (others.1.1.1.1.0 refl, (others.1.1.1.1.1.0 refl, tt)))));
    }
