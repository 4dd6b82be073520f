-- How the tables of schema 1 are replaced.
use Rattle.std.proofs.Common.{◌≡◌, ◌≢◌, ℕ, pos, List, [], ◌∷◌, map, flat_map, drop, Bool, true, false, ◌&&◌, None, Ok, refl, sym, ap, subst, ◌∙◌, is_eq, true≢false}
use Rattle.std.specs.Bool.{MatchBool}
use Rattle.std.specs.List.{AllByRecursion}
use Rattle.std.specs.List.Sorted.{IsPermutation}
use Rattle.std.proofs.lemmas.Cmp.{tied_itself}
use Rattle.std.proofs.lemmas.List.Sorted.{IsPermutation-map}
use Rattle.table_schema.specs.sqlite_value.specs.declared.value.Value.TheVariants.{Null, Int}
use Rattle.table_schema.specs.sqlite_value.specs.Order.{Row, column, value_cmp}
use Rattle.table_schema.specs.sqlite_value.proofs.OrderLemmas.{value_cmp_total}
use Rattle.sqlite_trees.specs.Tree.{Trees, rowid, put_row, without_rowid}
use Rattle.sqlite_trees.proofs.ListLemmas.{map-map, all_weaker}
use Rattle.table_schema.specs.sqlite_schema.specs.declared.schema.Constraint.TheVariants.{Datatype}
use Rattle.table_schema.specs.sqlite_schema.specs.declared.schema.Keys.{Keys}
use Rattle.table_schema.specs.sqlite_schema.specs.declared.schema.Keys.TheVariants.{Enforced}
use Rattle.table_schema.specs.sqlite_schema.specs.Names.{same_name}
use Rattle.table_schema.specs.sqlite_schema.specs.Rules.{Obeys, are_typed}
use Rattle.table_schema.specs.sqlite_rules.specs.Edit.{edit_of, id_in, put_all}
use Rattle.table_schema.specs.sqlite_rules.specs.Action.{Writes as Leaves}
use Rattle.table_schema.specs.sqlite_rules.specs.declared.error.Rowids.TheVariants.{Chosen, Given}
use Rattle.table_schema.specs.sqlite_catalog.specs.Change.{KeepsRows}
use Rattle.table_schema.specs.sqlite_tied.specs.Compute.{everything}
use Rattle.sqlite.specs.Query.{IsAnswer, Output, output}
use Rattle.sqlite.specs.Program.{overlay}
use Rattle.sqlite.specs.Source.TheVariants as source
use Rattle.sqlite.specs.Command.TheVariants.{Insert, Update, DropTable}
use Rattle.sqlite.specs.Does.{Tally, Does, is_acted_on}
use Rattle.sqlite.specs.Rows.{Written}
use Rattle.sqlite.specs.Listing.{understood}
use Rattle.sqlite.specs.Effect.{Database, IsDatabase}
use Rattle.sqlite.specs.State.{State, mode_of, Executes}
use Rattle.sqlite.proofs.Callers.{statement_of, runs_as, one_step, one_permutation}
use Rattle.table_schema.specs.declared.schema.Layout.TheVariants.{Gapped}
use Rattle.table_schema.specs.Layout.{store_schema, first_schema, placed, info_table, first_pools_table, pools_table, exceptions_table}
use Rattle.table_schema.specs.Holds.{rows_in}
use Rattle.table_schema.proofs.Places.{places, first_places}
use Rattle.tenant_tables.proofs.Inserting.{went, same_value, unlike, cast_null, cast_int}
use Rattle.tenant_tables.specs.Opened.{HasVersion, IsMigrated}
use Rattle.tenant_tables.proofs.TableTexts.{first_with_pools, first_with_exceptions, migrated_is, pools_text, exceptions_text, copy_text, copy_query, copy_is, drop_text, drop_is, second_text, second_query, second_is, first_pools_are, first_exceptions_are}
use Rattle.tenant_tables.proofs.Making.{nothing_put, makes, lacks_more, version_row}
use Rattle.tenant_tables.proofs.Copying.{copied_row, shown, new_table, copies}
use Rattle.tenant_tables.proofs.Versions.{pair}

all_staged : (params : Row) (rows : List Row) → flat_map (λ r. (params ∷ r ∷ []) ∷ []) rows ≡ map (λ r. params ∷ r ∷ []) rows
all_staged params [] = refl
all_staged params (r ∷ rows) = ap (λ l. (params ∷ r ∷ []) ∷ l) (all_staged params rows)

-- ---- the copy

abbrev AreTyped : List Row → Type 0
AreTyped = AllByRecursion (λ r. are_typed None 0 first_pools_table.columns (drop 1 r) ≡ true)

record Copied (old new : Database) : Type 0 where
  schema : new.schema ≡ old.schema
  pools : IsPermutation (map shown (new.trees 13)) (map (λ r. shown (copied_row r)) (old.trees 8))
  others : AllByRecursion (λ t. t.tree ≢ 13 → new.trees t.tree ≡ old.trees t.tree) first_with_exceptions.tables

copied : (old new : State) (count : ℕ) → old.now.schema ≡ first_with_exceptions → AreTyped (old.now.trees 8) → old.now.trees 13 ≡ [] → Executes copy_text [] old new (Ok count) → Copied old.now new.now
copied old new count has typed none h =
    let schema = first_with_exceptions in
    let db = old.now.trees in
    let command = Insert 7 (source.Query (record { lets = []; body = copy_query })) in
    let w = runs_as copy_text [] old new schema has command copy_is.0 copy_is.1 count h in
    let statement = statement_of copy_text (understood schema copy_text) in
    let done = went (subst (λ s. Does old.step_limit (mode_of old) [] (record old.now { schema = s }) statement None command (Ok (w.tally, new.now))) has w.changed) in
    let now = ap (λ (p : Tally × Database). p.1) (same_value (went (went done.2).2).2) in
    let given = went done.1 in
    let counter = went given.2 in
    let edited = went counter.2 in
    let counted = went edited.2 in
    let still : counted.0 ≡ edited.0 = same_value counted.1 in
    let trees : new.now.trees ≡ edited.0 = ap (λ (d : Database). d.trees) now ∙ ap (λ (it : Written). it.trees) (same_value counted.2) ∙ still in
    let rows = given.0 in
    let edit = edit_of db new_table [] Chosen 0 rows in
    let step = one_step schema Enforced db edited.0 edit (nothing_put schema 0 13 edit.news) edited.1 in
    let a : IsAnswer copy_query (overlay db []) [] rows = given.1.answer Null in
    let kept : map (λ (o : Output). o.1) a.kept ≡ map copied_row (db 8) =
    ap (map (λ (o : Output). o.1)) (a.distinct ∙ ap (map (output copy_query)) (a.grouped ∙ all_staged [] (db 8))) ∙ ap (map (λ (o : Output). o.1)) (map-map (output copy_query) (λ (r : Row). [] ∷ r ∷ []) _) ∙ map-map (λ (o : Output). o.1) _ _ in
    let same : IsPermutation (map copied_row (db 8)) rows = subst (λ l. IsPermutation l rows) kept (subst (IsPermutation _) (sym a.shown) (IsPermutation-map (λ (o : Output). o.1) a.kept a.ordered a.same)) in
    record {
      schema = ap (λ (d : Database). d.schema) now ∙ sym has;
      pools = subst (λ (t : Trees). IsPermutation (map shown (t 13)) (map (λ r. shown (copied_row r)) (db 8))) (sym trees) (copies (db 8) rows (edited.0 13) (db 13) typed same none step.fresh step.rows);
      others = subst (λ (n : Trees). AllByRecursion (λ t. t.tree ≢ 13 → n t.tree ≡ db t.tree) schema.tables) (sym trees) step.tables;
    }

-- ---- the old table goes

record Dropped (old new : Database) : Type 0 where
  schema : new.schema ≡ store_schema Gapped
  others : KeepsRows (store_schema Gapped).tables old.trees new.trees

not_acted : (keys : Keys) → is_acted_on first_with_exceptions keys (placed 8 first_pools_table) ≡ false
unfolding everything same_name
not_acted keys = refl

calm : (P Q : Type 0) (b : Bool) → b ≡ false → MatchBool b P Q → Q
calm P Q true e h = absurd (true≢false e)
calm P Q false e h = h

dropped : (old new : State) (count : ℕ) → old.now.schema ≡ first_with_exceptions → Executes drop_text [] old new (Ok count) → Dropped old.now new.now
dropped old new count has h =
    let schema = first_with_exceptions in
    let command = DropTable 5 in
    let w = runs_as drop_text [] old new schema has command drop_is.0 drop_is.1 count h in
    let statement = statement_of drop_text (understood schema drop_text) in
    let does = subst (λ s. Does old.step_limit (mode_of old) [] (record old.now { schema = s }) statement None command (Ok (w.tally, new.now))) has w.changed in
    let all = went does in
    let first : all.0 ≡ old.now.trees = same_value (calm _ _ (is_acted_on first_with_exceptions (mode_of old).keys (placed 8 first_pools_table)) (not_acted (mode_of old).keys) all.1) in
    let second = went all.2 in
    let still : second.0 ≡ all.0 = same_value second.1 in
    let third = went second.2 in
    let fourth = went third.2 in
    let now : new.now ≡ fourth.0 = ap (λ (p : Tally × Database). p.1) (same_value fourth.2) in
    let kept : KeepsRows (store_schema Gapped).tables second.0 fourth.0.trees = fourth.1.1 in
    record {
      schema = ap (λ (d : Database). d.schema) now ∙ fourth.1.0 ∙ migrated_is;
      others = subst (λ (d : Database). KeepsRows (store_schema Gapped).tables old.now.trees d.trees) (sym now) (subst (λ (t : Trees). KeepsRows (store_schema Gapped).tables t fourth.0.trees) (still ∙ first) kept);
    }

-- ---- the version

record Seconded (old new : Database) : Type 0 where
  schema : new.schema ≡ old.schema
  sound : IsDatabase new
  rows : new.trees 0 ≡ version_row ∷ []
  others : AllByRecursion (λ t. t.tree ≢ 0 → new.trees t.tree ≡ old.trees t.tree) (store_schema Gapped).tables

seconded : (old new : State) (row : Row) (count : ℕ) → old.now.schema ≡ store_schema Gapped → old.now.trees 0 ≡ row ∷ [] → column row 0 ≡ Int (pos 1) → Executes second_text [] old new (Ok count) → Seconded old.now new.now
seconded old new row count has is keyed h =
    let schema = store_schema Gapped in
    let db = old.now.trees in
    let command = Update 0 (record { lets = []; body = second_query }) in
    let w = runs_as second_text [] old new schema has command second_is.0 second_is.1 count h in
    let text = statement_of second_text (understood schema second_text) in
    let done = went (subst (λ s. Does old.step_limit (mode_of old) [] (record old.now { schema = s }) text None command (Ok (w.tally, new.now))) has w.changed) in
    let now = ap (λ (p : Tally × Database). p.1) (same_value (went (went done.2).2).2) in
    let found = went done.1 in
    let left = went found.2 in
    let trees : new.now.trees ≡ left.0 = ap (λ (d : Database). d.trees) now ∙ ap (λ (it : Written). it.trees) (same_value left.2) in
    let a : IsAnswer second_query (overlay db []) [] found.0 = found.1.answer Null in
    let staged = a.grouped ∙ all_staged [] (db 0) in
    let written : Row = column row 0 ∷ column row 0 ∷ Null ∷ Int (pos 2) ∷ [] in
    let one : Output = ([], written) in
    let kept : a.kept ≡ one ∷ [] = a.distinct ∙ ap (map (output second_query)) (staged ∙ ap (map (λ r. [] ∷ r ∷ [])) is) in
    let ordered = one_permutation one a.ordered (subst (λ k. IsPermutation k a.ordered) kept a.same) in
    let same : written ≡ Int (pos 1) ∷ Int (pos 1) ∷ Null ∷ Int (pos 2) ∷ [] = rw keyed in
    let rows : found.0 ≡ (Int (pos 1) ∷ Int (pos 1) ∷ Null ∷ Int (pos 2) ∷ []) ∷ [] = a.shown ∙ ap (map (λ (o : Output). o.1)) ordered ∙ ap (λ r. r ∷ []) same in
    let edit = edit_of db info_table (pos 1 ∷ []) Given 1 ((Int (pos 1) ∷ Int (pos 1) ∷ Null ∷ Int (pos 2) ∷ []) ∷ []) in
    let edited : Leaves schema Enforced db edit (Ok left.0) = subst (λ all. Leaves schema Enforced db (edit_of db info_table (map (λ r. id_in (rowid r)) all) Given 1 all) (Ok left.0)) rows left.1 in
    let step = one_step schema Enforced db left.0 edit refl edited in
    let news : edit.news ≡ version_row ∷ [] = rw (cast_int (pos 1), cast_null, cast_int (pos 2)) in
    let tie : is_eq (value_cmp (rowid row) (Int (pos 1))) ≡ true = subst (λ v. is_eq (value_cmp v (Int (pos 1))) ≡ true) (sym keyed) (ap is_eq (tied_itself value_cmp_total (Int (pos 1)))) in
    let gone : without_rowid (pos 1) (db 0) ≡ [] = ap (without_rowid (pos 1)) is ∙ rw tie refl in
    record {
      schema = ap (λ (d : Database). d.schema) now ∙ sym has;
      sound = w.sound;
      rows = ap (λ (t : Trees). t 0) trees ∙ step.rows ∙ ap (put_all (without_rowid (pos 1) (db 0))) news ∙ ap (put_row version_row) gone;
      others = subst (λ (n : Trees). AllByRecursion (λ t. t.tree ≢ 0 → n t.tree ≡ db t.tree) schema.tables) (sym trees) step.tables;
    }

-- ---- the five statements

one_of : (all : List Row) (p : Row) → map pair all ≡ p ∷ [] → (r : Row) × (all ≡ r ∷ []) × (pair r ≡ p)
one_of [] p h = absurd cc
one_of (r ∷ []) p h = (r, refl, cc)
one_of (r ∷ s ∷ all) p h = absurd (let tail : map pair (s ∷ all) ≡ [] = cc in cc)

both : (b c : Bool) → (b && c) ≡ true → b ≡ true
both true c h = refl
both false c h = h

pub migrated : (s0 s1 s2 s3 s4 s5 : State) (n1 n2 n3 n4 n5 : ℕ) → s0.now.schema ≡ first_schema → IsDatabase s0.now → HasVersion 1 s0.now.trees → Executes pools_text [] s0 s1 (Ok n1) → Executes exceptions_text [] s1 s2 (Ok n2)
    → Executes copy_text [] s2 s3 (Ok n3) → Executes drop_text [] s3 s4 (Ok n4) → Executes second_text [] s4 s5 (Ok n5) → IsMigrated s0.now s5.now
migrated s0 s1 s2 s3 s4 s5 n1 n2 n3 n4 n5 has sound version one two three four five =
    let was = first_places s0.now sound has in
    let old = s0.now.trees in
    let m1 = makes s0 s1 first_schema pools_text pools_table n1 has first_pools_are lacks_more.5 one in
    let m2 = makes s1 s2 first_with_pools exceptions_text exceptions_table n2 m1.is first_exceptions_are lacks_more.6 two in
    let rules = (subst (λ s. Obeys s old) has sound.obeys).rules Datatype in
    let first_pools : s2.now.trees 8 ≡ old 8 = m2.others.1.1.1.1.1.0 ∙ m1.others.1.1.1.1.1.0 in
    let typed : AreTyped (old 8) = all_weaker _ (λ r. are_typed None 0 first_pools_table.columns (drop 1 r) ≡ true) (λ r passes. both _ _ passes) (old 8) rules.1.1.1.1.1.0 in
    let m3 = copied s2 s3 n3 m2.is (subst AreTyped (sym first_pools) typed) (m2.others.1.1.1.1.1.1.1.0 ∙ m1.empty) three in
    let m4 = dropped s3 s4 n4 (m3.schema ∙ m2.is) four in
    let info_is : s4.now.trees 0 ≡ old 0 = m4.others.0 ∙ m3.others.0 (unlike 0 13 refl) ∙ m2.others.0 ∙ m1.others.0 in
    let row = one_of (rows_in info_table old) (Int (pos 1) ∷ Int (pos 1) ∷ []) version in
    let m5 = seconded s4 s5 row.0 n5 m4.schema (info_is ∙ ap old (sym was.info) ∙ row.1) (ap (λ p. column p 0) row.2) five in
    let new = s5.now.trees in
    let schema : s5.now.schema ≡ store_schema Gapped = m5.schema ∙ m4.schema in
    let is = places Gapped s5.now m5.sound schema in
    let later : (m : ℕ) → Rattle.std.proofs.Math.Dec.eqb m 0 ≡ false → m ≢ 0 = λ m. unlike m 0 in
    record {
      schema = (Gapped, schema);
      first = version;
      rows = record {
        version = ap (map pair) (ap new is.info ∙ m5.rows);
        tables = (
          ap new is.tenants ∙ m5.others.1.0 (later 1 refl) ∙ m4.others.1.0 ∙ m3.others.1.0 (unlike 1 13 refl) ∙ m2.others.1.0 ∙ m1.others.1.0 ∙ ap old (sym was.tenants),
          (
            ap new is.sequence ∙ m5.others.1.1.0 (later 3 refl) ∙ m4.others.1.1.0 ∙ m3.others.1.1.0 (unlike 3 13 refl) ∙ m2.others.1.1.0 ∙ m1.others.1.1.0 ∙ ap old (sym was.sequence),
            (
              ap new is.maps ∙ m5.others.1.1.1.0 (later 4 refl) ∙ m4.others.1.1.1.0 ∙ m3.others.1.1.1.0 (unlike 4 13 refl) ∙ m2.others.1.1.1.0 ∙ m1.others.1.1.1.0 ∙ ap old (sym was.maps),
              (
                ap new is.devices ∙ m5.others.1.1.1.1.0 (later 6 refl) ∙ m4.others.1.1.1.1.0 ∙ m3.others.1.1.1.1.0 (unlike 6 13 refl) ∙ m2.others.1.1.1.1.0 ∙ m1.others.1.1.1.1.0 ∙ ap old (sym was.devices),
                (
                  ap new is.receipts ∙ m5.others.1.1.1.1.1.0 (later 11 refl) ∙ m4.others.1.1.1.1.1.0 ∙ m3.others.1.1.1.1.1.1.0 (unlike 11 13 refl) ∙ m2.others.1.1.1.1.1.1.0 ∙ m1.others.1.1.1.1.1.1.0 ∙ ap old (sym was.receipts),
                  tt,
                ),
              ),
            ),
          ),
        );
        pools =
            let there : new (Rattle.table_schema.specs.Holds.tree_of new pools_table.name) ≡ s3.now.trees 13 = ap new is.pools ∙ m5.others.1.1.1.1.1.1.0 (later 13 refl) ∙ m4.others.1.1.1.1.1.1.0 in
            let here : s2.now.trees 8 ≡ rows_in first_pools_table old = first_pools ∙ ap old (sym was.pools) in
            subst (λ l. IsPermutation (map shown l) (map (λ r. shown (copied_row r)) (rows_in first_pools_table old))) (sym there)
            (subst (λ l. IsPermutation (map shown (s3.now.trees 13)) (map (λ r. shown (copied_row r)) l)) here m3.pools);
        exceptions = ap new is.exceptions ∙ m5.others.1.1.1.1.1.1.1.0 (later 16 refl) ∙ m4.others.1.1.1.1.1.1.1.0 ∙ m3.others.1.1.1.1.1.1.1.1.0 (unlike 16 13 refl) ∙ m2.empty;
      };
      sound = m5.sound;
    }
