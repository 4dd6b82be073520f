-- A tenant gets its row, under a number that no tenant had.
use Rattle.std.proofs.Common.{◌≡◌, ◌≢◌, ℕ, ℤ, pos, List, [], ◌∷◌, Bool, true, false, Some, None, Option, Ok, refl, sym, ap, subst, ◌∙◌, arith, true≢false}
use Rattle.std.specs.Bool.{MatchBool}
use Rattle.std.specs.List.{AllByRecursion}
use Rattle.table_schema.specs.sqlite_value.specs.declared.value.Value.TheVariants.{Null, Int, Text as Words}
use Rattle.table_schema.specs.sqlite_value.specs.Order.{Row}
use Rattle.sqlite_trees.specs.Tree.{Trees, put_row}
use Rattle.table_schema.specs.sqlite_schema.specs.declared.schema.Keys.TheVariants.{Enforced}
use Rattle.table_schema.specs.sqlite_schema.specs.declared.schema.Table.{Table}
use Rattle.table_schema.specs.sqlite_schema.specs.declared.schema.Schema.{Schema}
use Rattle.table_schema.specs.sqlite_schema.specs.Names.{same_name}
use Rattle.table_schema.specs.sqlite_rules.specs.Edit.{Edit, edit_of, are_fresh, at_least, next_rowid, put_all, is_taken}
use Rattle.table_schema.specs.sqlite_rules.specs.Action.{Writes as Leaves}
use Rattle.table_schema.specs.sqlite_rules.specs.declared.error.Rowids.TheVariants.{Above}
use Rattle.table_schema.specs.sqlite_tied.specs.Compute.{everything}
use Rattle.sqlite.specs.Term.{lit, col}
use Rattle.sqlite.specs.Source.TheVariants.{Values}
use Rattle.sqlite.specs.Command.TheVariants.{Insert}
use Rattle.sqlite.specs.Does.{Tally, Does}
use Rattle.sqlite.specs.Rows.{Written, Gives, Task, Counts, CountsIn, sequence, count_of, counting}
use Rattle.sqlite.specs.Listing.{understood}
use Rattle.sqlite.specs.Effect.{Database, IsDatabase}
use Rattle.sqlite.specs.State.{State, mode_of, Executes}
use Rattle.sqlite.proofs.Callers.{statement_of, runs_as, one_step}
use Rattle.table_schema.specs.declared.schema.Layout.{Layout}
use Rattle.table_schema.specs.Layout.{store_schema, receipts_tree, pools_tree, exceptions_tree, placed, tenants_table, sequence_table, maps_table, devices_table, pools_table, receipts_table, exceptions_table}
use Rattle.table_schema.proofs.Places.{places, apart}
use Rattle.tenant_tables.proofs.Named.{placed_tables, kept}
use Rattle.tenant_tables.proofs.WriteTexts.{create_text, create_is}
use Rattle.tenant_tables.proofs.Inserting.{went, same_value, cast_null, cast_int, not_taken, unlike, Added}

-- the row of a new tenant
abbrev pub fresh_row : ℤ → List ℕ → Row
fresh_row id name = Int id ∷ Null ∷ Words name ∷ Int (pos 0) ∷ []

abbrev source : List ℕ → List Row
source name = (Null ∷ Null ∷ Words name ∷ Int (pos 0) ∷ []) ∷ []

abbrev insertion : Trees → ℤ → List ℕ → Edit
insertion db top name = edit_of db (placed 1 tenants_table) [] (Above top) 0 (source name)

abbrev id_for : Trees → ℤ → ℤ
id_for db top = at_least (Above top) (next_rowid (db 1))

news_are : (db : Trees) (top : ℤ) (name : List ℕ) → (insertion db top name).news ≡ fresh_row (id_for db top) name ∷ []
news_are db top name = rw (cast_null, cast_int (pos 0))

abbrev counters : Table
counters = placed 3 sequence_table

module _ (layout : Layout) where
  abbrev schema : Schema
  schema = store_schema layout

  abbrev Still : Trees → Trees → Type 0
  Still db next = AllByRecursion (λ t. next t.tree ≡ db t.tree) (placed_tables layout)

  but_counters : (db next : Trees) → AllByRecursion (λ t. t.tree ≢ 3 → next t.tree ≡ db t.tree) schema.tables → Still db next
  but_counters db next same =
      let away = apart layout in
      let others = same.1.1.1 in (
        same.1.0 (unlike 1 3 refl),
        (
          others.0 (unlike 4 3 refl),
          (
            others.1.0 (unlike 6 3 refl),
            (
              others.1.1.0 (λ e. away.receipts 3 (omega arith) (sym e)),
              (
                others.1.1.1.0 (λ e. away.pools 3 (omega arith) (sym e)),
                (
                  others.1.1.1.1.0 (λ e. away.exceptions 3 (omega arith) (sym e)),
                  tt,
                ),
              ),
            ),
          ),
        ),
      )

  -- what AUTOINCREMENT notes leaves the other tables alone
  count_leaves : (db next : Trees) (top : ℤ) (counter : Option Row) → Leaves schema Enforced db (counting db (placed 1 tenants_table) counters top counter) (Ok next) → Still db next
  count_leaves db next top None h = but_counters db next (one_step schema Enforced db next _ refl h).tables
  count_leaves db next top (Some counter) h = but_counters db next (one_step schema Enforced db next _ refl h).tables

  sequence_is : sequence schema ≡ Some counters
  unfolding everything same_name
  sequence_is = refl

  abbrev task : Option ℕ → Row → Task
  task limit params = record { limit = limit; keys = Enforced; schema = schema; table = placed 1 tenants_table; params = params }

  counts_by : (limit : Option ℕ) (params : Row) (db next : Trees) (top : ℤ) (counter : Option Row) (o : Option Table) → o ≡ Some counters → (b : Bool)
      → MatchBool b (CountsIn (task limit params) db counter top o (Ok next)) (Gives db (Ok next)) → Still db next
  counts_by limit params db next top counter None is b h = absurd cc
  counts_by limit params db next top counter (Some it) is true h =
      let same : it ≡ counters = cc in count_leaves db next top counter (subst (λ t. Leaves schema Enforced db (counting db (placed 1 tenants_table) t top counter) (Ok next)) same h)
  counts_by limit params db next top counter (Some it) is false h =
      let same : next ≡ db = same_value h in
      let at : (n : ℕ) → next n ≡ db n = λ n. ap (λ (t : Trees). t n) same in
      (at 1, (at 4, (at 6, (at (receipts_tree layout), (at (pools_tree layout), (at (exceptions_tree layout), tt))))))

  counts_leave : (limit : Option ℕ) (params : Row) (db next : Trees) (top : ℤ) (counter : Option Row) → Counts (task limit params) db counter top (Ok next) → Still db next
  counts_leave limit params db next top counter h = counts_by limit params db next top counter (sequence schema) sequence_is _ h

pub creates : (old new : State) (name : List ℕ) (count : ℕ) (layout : Layout) → old.now.schema ≡ store_schema layout → IsDatabase old.now → Executes create_text (Words name ∷ []) old new (Ok count)
    → (id : ℤ) × Added tenants_table (fresh_row id name) old.now new.now
creates old new name count layout has sound h =
    let schema = store_schema layout in
    let params : Row = Words name ∷ [] in
    let command = Insert 1 (Values (lit Null ∷ lit Null ∷ col 0 0 ∷ lit (Int (pos 0)) ∷ []) 4) in
    let w = runs_as create_text params old new schema has command (create_is layout).command (create_is layout).plain count h in
    let text = statement_of create_text (understood schema create_text) in
    let done = went (subst (λ s. Does old.step_limit (mode_of old) params (record old.now { schema = s }) text None command (Ok (w.tally, new.now))) has w.changed) in
    let now = ap (λ (p : Tally × Database). p.1) (same_value (went (went done.2).2).2) in
    let given = went done.1 in
    let counter = went given.2 in
    let edited = went counter.2 in
    let counted = went edited.2 in
    let top = count_of counter.0 in
    let db = old.now.trees in
    let inserted : Leaves schema Enforced db (insertion db top name) (Ok edited.0) = subst (λ all. Leaves schema Enforced db (edit_of db (placed 1 tenants_table) [] (Above top) 0 all) (Ok edited.0)) given.1.1 edited.1 in
    let step = one_step schema Enforced db edited.0 (insertion db top name) refl inserted in
    let still = counts_leave layout old.step_limit params edited.0 counted.0 _ counter.0 counted.1 in
    let trees : new.now.trees ≡ counted.0 = ap (λ (d : Database). d.trees) now ∙ ap (λ (it : Written). it.trees) (same_value counted.2) in
    let at : (n : ℕ) → new.now.trees n ≡ counted.0 n = λ n. ap (λ (t : Trees). t n) trees in
    let news = news_are db top name in
    let others = step.tables.1.1.1 in
    let away = apart layout in
    let same_schema : new.now.schema ≡ old.now.schema = ap (λ (d : Database). d.schema) now ∙ sym has in
    let before = places layout old.now sound has in
    let after = places layout new.now w.sound (same_schema ∙ has) in
    let row = fresh_row (id_for db top) name in
    let keep = kept layout db new.now.trees before after in (
      id_for db top,
      record {
        schema = same_schema;
        sound = w.sound;
        keyed = refl;
        free = subst (λ n. is_taken (db n) row ≡ false) (sym before.tenants) (not_taken _ (subst (λ rs. are_fresh (db 1) rs ≡ true) news step.fresh));
        rows = ap new.now.trees after.tenants ∙ at 1 ∙ still.0 ∙ step.rows ∙ ap (put_all (db 1)) news ∙ ap (λ n. put_row row (db n)) (sym before.tenants);
        others = (
          (λ other. absurd (true≢false other)),
          (
            (λ _. keep maps_table 4 before.maps after.maps (at 4 ∙ still.1.0 ∙ others.0 (unlike 4 1 refl))),
            (
              (λ _. keep devices_table 6 before.devices after.devices (at 6 ∙ still.1.1.0 ∙ others.1.0 (unlike 6 1 refl))),
              (
                (λ _. keep pools_table (pools_tree layout) before.pools after.pools (at (pools_tree layout) ∙ still.1.1.1.1.0 ∙ others.1.1.1.0 (λ e. away.pools 1 (omega arith) (sym e)))),
                (
                  (λ _. keep receipts_table (receipts_tree layout) before.receipts after.receipts (at (receipts_tree layout) ∙ still.1.1.1.0 ∙ others.1.1.0 (λ e. away.receipts 1 (omega arith) (sym e)))),
                  (
                    (λ _. keep exceptions_table (exceptions_tree layout) before.exceptions after.exceptions (at (exceptions_tree layout) ∙ still.1.1.1.1.1.0 ∙ others.1.1.1.1.0 (λ e. away.exceptions 1 (omega arith) (sym e)))),
                    tt,
                  ),
                ),
              ),
            ),
          ),
        );
      },
    )
