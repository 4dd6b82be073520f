-- What the transactions make of the rows of names.
use Rattle.std.proofs.Common.{Bor, ◌≡◌, ℕ, ℤ, List, [], ◌∷◌, map, Bool, true, false, ◌&&◌, Some, refl, sym, ap, subst, ◌∙◌, true≢false, Equal, is_eq}
use Rattle.std.specs.List.{list_any, AllByRecursion}
use Rattle.std.specs.List.Sorted.{IsPermutation}
use Rattle.std.proofs.lemmas.List.Sorted.{IsPermutation-refl}
use Rattle.table_schema.specs.sqlite_value.specs.declared.value.Value.TheVariants.{Int, Text as Words}
use Rattle.table_schema.specs.sqlite_value.specs.declared.keys.Collation.TheVariants.{Binary}
use Rattle.table_schema.specs.sqlite_value.specs.Keys.{plain, joined, first_key}
use Rattle.table_schema.specs.sqlite_value.specs.Order.{Row, column, value_cmp}
use Rattle.table_schema.specs.sqlite_value.proofs.OrderLemmas.{value_cmp_total}
use Rattle.sqlite_trees.specs.declared.store.Shape.TheVariants.{Table as TableShape}
use Rattle.sqlite_trees.specs.Tree.{Trees, rowid}
use Rattle.sqlite_trees.specs.View.{IsShaped}
use Rattle.sqlite_trees.proofs.ListLemmas.{filter_none}
use Rattle.sqlite_trees.proofs.TreeLemmas.{not_true, IsShaped-put_row}
use Rattle.table_schema.specs.sqlite_schema.specs.declared.schema.Constraint.TheVariants.{ForeignKey}
use Rattle.table_schema.specs.sqlite_schema.specs.declared.schema.Table.{Table}
use Rattle.table_schema.specs.sqlite_schema.specs.Names.{same_name}
use Rattle.table_schema.specs.sqlite_schema.specs.Rules.{equal, agree, parent_key, has_parent, Obeys}
use Rattle.table_schema.specs.sqlite_rules.specs.Edit.{is_taken}
use Rattle.table_schema.specs.sqlite_rules.proofs.ListLemmas.{all_has, all_from, some_has, some_from}
use Rattle.table_schema.specs.sqlite_tied.specs.Compute.{everything}
use Rattle.sqlite.specs.Effect.{Database, IsDatabase}
use Rattle.table_schema.specs.declared.schema.Layout.{Layout}
use Rattle.table_schema.specs.Layout.{store_schema, receipts_tree, pools_tree, exceptions_tree, to_tenant, tenants_table, maps_table, devices_table, pools_table, receipts_table, exceptions_table}
use Rattle.table_schema.specs.Holds.{tree_of, rows_in, rows_with, values_of, IsAbsent, AreTables}
use Rattle.table_schema.proofs.Places.{places}
use Rattle.tenant_tables.specs.Run.{AreSound, Makes, begun}
use Rattle.table_schema.specs.Ready.{Commits, Keeps, IsReady, Refuses}
use Rattle.tenant_tables.specs.Change.{Creates, Drops, IsNumber}
use Rattle.tenant_tables.specs.declared.write.Write.TheVariants.{Create, Remove}
use Rattle.tenant_tables.proofs.Removing.{removes}
use Rattle.tenant_tables.proofs.Turning.{alone, at_number, removed_drops, removed_tables}
use Rattle.sqlite.specs.Store.{Ghosts}
use Rattle.sqlite.specs.Held.{Held, state}
use Rattle.sqlite.specs.State.{State, IsUnchanged}
use Rattle.tenant_tables.proofs.RowFacts.{equal_parts, equal_words, apart, itself, filter_put, filter_put_one}
use Rattle.tenant_tables.proofs.Inserting.{Added}
use Rattle.tenant_tables.proofs.Creating.{fresh_row, creates}

-- ---- each row of a tenant has its tenant

parent_is : (layout : Layout) → parent_key (store_schema layout).tables to_tenant ≡ Some (1, 0 ∷ [], plain)
unfolding everything same_name joined
parent_is layout = refl

plain_key : (first_key plain).collation ≡ Binary
unfolding first_key
plain_key = refl

stripped : (b : Bool) → (b && true) ≡ true → b ≡ true
stripped true h = refl
stripped false h = h

-- a number that no tenant has is in no row of a table whose rows have their tenants
no_rows : (layout : Layout) (db : Trees) (rows : List Row) (id : ℤ) (name : List ℕ) → AllByRecursion (λ row. (has_parent (store_schema layout).tables db row to_tenant && true) ≡ true) rows → is_taken (db 1) (fresh_row id name) ≡ false → rows_with 1 (Int id) rows ≡ []
no_rows layout db rows id name rule free = filter_none _ rows (all_from _ rows (λ row there. not_true _ (λ here.
    let child = equal_parts (column row 1) (Int id) here in
    let passed = all_has (λ row. (has_parent (store_schema layout).tables db row to_tenant && true) ≡ true) rows row rule there in
    let held : list_any (λ parent. agree plain (0 ∷ []) parent (1 ∷ []) row) (db 1) ≡ true = stripped (list_any (λ parent. agree plain (0 ∷ []) parent (1 ∷ []) row) (db 1)) (rw (child.0, parent_is layout) at passed) in
    let parent = some_has (λ parent. agree plain (0 ∷ []) parent (1 ∷ []) row) (db 1) held in
    let both : (equal (first_key plain).collation (column parent.0 0) (column row 1) && true) ≡ true = parent.2 in
    let tenant = equal_parts (column parent.0 0) (column row 1) (subst (λ k. equal k (column parent.0 0) (column row 1) ≡ true) plain_key (stripped _ both)) in
    let same : value_cmp (rowid parent.0) (Int id) ≡ Equal = value_cmp_total.congr _ _ _ tenant.1 ∙ child.1 in
    true≢false (sym (some_from (λ r. is_eq (value_cmp (rowid r) (Int id))) (db 1) parent.0 parent.1 (ap is_eq same)) ∙ free))))

pub created_turns : (name : List ℕ) (id : ℤ) (old new : Database) (layout : Layout) → IsDatabase old → old.schema ≡ store_schema layout → IsAbsent old.trees name → Added tenants_table (fresh_row id name) old new → Creates name old.trees new.trees
created_turns name id old new layout sound has absent added =
    let row = fresh_row id name in
    let rules = (subst (λ s. Obeys s old.trees) has sound.obeys).rules ForeignKey in
    let children = rules.1.1.1 in
    let before = places layout old sound has in
    let same = added.others.1 in
    let free : is_taken (old.trees 1) row ≡ false = subst (λ n. is_taken (old.trees n) row ≡ false) before.tenants added.free in
    let none : (table : Table) (n : ℕ) → rows_in table new.trees ≡ rows_in table old.trees → tree_of old.trees table.name ≡ n → rows_with 1 (Int id) (old.trees n) ≡ [] → rows_with 1 (Int id) (rows_in table new.trees) ≡ [] =
    λ table n stays at was. ap (rows_with 1 (Int id)) (stays ∙ ap old.trees at) ∙ was in
    let maps = none maps_table 4 (same.0 refl) before.maps (no_rows layout old.trees (old.trees 4) id name children.0 free) in
    let devices = none devices_table 6 (same.1.0 refl) before.devices (no_rows layout old.trees (old.trees 6) id name children.1.0 free) in
    let pools = none pools_table (pools_tree layout) (same.1.1.0 refl) before.pools (no_rows layout old.trees (old.trees (pools_tree layout)) id name children.1.1.1.0 free) in
    let receipts = none receipts_table (receipts_tree layout) (same.1.1.1.0 refl) before.receipts (no_rows layout old.trees (old.trees (receipts_tree layout)) id name children.1.1.0 free) in
    let exceptions = none exceptions_table (exceptions_tree layout) (same.1.1.1.1.0 refl) before.exceptions (no_rows layout old.trees (old.trees (exceptions_tree layout)) id name children.1.1.1.1.0 free) in
    record {
      own = record {
        id = id;
        tenant = record {
          row = row;
          one = ap (rows_with 2 (Words name)) added.rows ∙ filter_put_one _ row (rows_in tenants_table old.trees) added.free (equal_words name name ∙ itself name) absent;
          number = refl;
          epoch_is = refl;
        };
        maps = subst (λ l. IsPermutation (map (values_of maps_table) l) []) (sym maps) (IsPermutation-refl []);
        devices = subst (λ l. IsPermutation (map (values_of devices_table) l) []) (sym devices) (IsPermutation-refl []);
        pools = subst (λ l. IsPermutation (map (values_of pools_table) l) []) (sym pools) (IsPermutation-refl []);
        receipts = subst (λ l. IsPermutation (map (values_of receipts_table) l) []) (sym receipts) (IsPermutation-refl []);
        exceptions = subst (λ l. IsPermutation (map (values_of exceptions_table) l) []) (sym exceptions) (IsPermutation-refl []);
      };
      others = λ other away. record {
        tenants = ap (rows_with 2 (Words other)) added.rows ∙ filter_put _ row (rows_in tenants_table old.trees) added.free (equal_words name other ∙ apart name other away);
        tables = λ r there. (ap (rows_with 1 (column r 0)) (same.0 refl), (ap (rows_with 1 (column r 0)) (same.1.0 refl), (ap (rows_with 1 (column r 0)) (same.1.1.0 refl), (ap (rows_with 1 (column r 0)) (same.1.1.1.0 refl), (ap (rows_with 1 (column r 0)) (same.1.1.1.1.0 refl), tt)))));
      };
    }

pub created_tables : (name : List ℕ) (id : ℤ) (old new : Database) → AreTables old.trees → Added tenants_table (fresh_row id name) old new → AreTables new.trees
created_tables name id old new up added =
    let same = added.others.1 in
    record {
      tenants = subst (IsShaped TableShape) (sym added.rows) (IsShaped-put_row (fresh_row id name) (rows_in tenants_table old.trees) refl up.tenants);
      others = (subst (IsShaped TableShape) (sym (same.0 refl)) up.others.0, (subst (IsShaped TableShape) (sym (same.1.0 refl)) up.others.1.0, (subst (IsShaped TableShape) (sym (same.1.1.0 refl)) up.others.1.1.0, (subst (IsShaped TableShape) (sym (same.1.1.1.0 refl)) up.others.1.1.1.0, (subst (IsShaped TableShape) (sym (same.1.1.1.1.0 refl)) up.others.1.1.1.1.0, tt)))));
    }

-- ---- the whole transactions

pub ready_after : (old new : State) (db : Database) → IsReady old → Commits old new db → AreSound db → new.step_limit ≡ old.step_limit → IsReady new
ready_after old new db ready commits sound limit = record {
  is_open = commits.is_open;
  schema = (sound.schema.0, ap (λ (d : Database). d.schema) commits.now ∙ sound.schema.1);
  tables = subst (λ (d : Database). AreTables d.trees) (sym commits.now) sound.tables;
  sound = subst IsDatabase (sym commits.now) sound.sound;
  settled = commits.now ∙ sym commits.committed;
  unlimited = limit ∙ ready.unlimited;
}

module _ {S : Type 0} (g : Ghosts S) (old : Held S) (ready : IsReady (state g old)) where
  pub makes_tenant : (name : Bor (List ℕ)) (db : Database) → IsAbsent (state g old).now.trees name.now → Makes g (Create name ∷ []) old db → Creates name.now (state g old).now.trees db.trees × AreSound db
  makes_tenant name db absent made =
      let ran = made.1 in
      let layout = ready.schema.0 in
      let it = creates (state g (begun g old)) (state g ran.0) name.now ran.1 layout ready.schema.1 ready.sound ran.3 in
      let last : (state g ran.0).now ≡ db = sym (made.2 ∙ ap (λ h. (state g h).now) ran.4) in (
        subst (λ (d : Database). Creates name.now (state g old).now.trees d.trees) last (created_turns name.now it.0 (state g old).now (state g ran.0).now layout ready.sound ready.schema.1 absent it.1),
        subst AreSound last (record { schema = (layout, it.1.schema ∙ ready.schema.1); tables = created_tables name.now it.0 (state g old).now (state g ran.0).now ready.tables it.1; sound = it.1.sound }),
      )

  pub drops_tenant : (id : ℤ) (db : Database) → IsNumber (state g old).now.trees id → Makes g (Remove id ∷ []) old db → Drops id (state g old).now.trees db.trees × AreSound db
  drops_tenant id db there made =
      let ran = made.1 in
      let trees = (state g old).now.trees in
      let tenant = there.2 in
      let layout = ready.schema.0 in
      let it = removes (state g (begun g old)) (state g ran.0) tenant.row id ran.1 layout ready.schema.1 ready.sound ready.tables (alone trees there.0 id there.1 tenant ready.tables) (at_number trees there.0 id there.1 tenant ready.tables) tenant.number ran.3 in
      let last : (state g ran.0).now ≡ db = sym (made.2 ∙ ap (λ h. (state g h).now) ran.4) in (
        subst (λ (d : Database). Drops id trees d.trees) last (removed_drops trees (state g ran.0).now.trees id ready.tables it.0),
        subst AreSound last (record { schema = (layout, it.1 ∙ ready.schema.1); tables = removed_tables trees (state g ran.0).now.trees id ready.tables it.0; sound = it.2 }),
      )

-- a refusal leaves the rows, and the connection ready
pub refused_after : (old mid new : State) → IsReady old → Keeps old mid → IsUnchanged mid new → mid.step_limit ≡ old.step_limit → new.step_limit ≡ mid.step_limit → ((db : Trees) → new.may_leave db → db ≡ new.committed.trees) → Refuses old new
refused_after old mid new ready kept same limit again settled =
    let now : new.now ≡ old.now = same.0.now_is ∙ kept.now same.0.was_open ∙ sym ready.settled in
    let committed : new.committed ≡ old.now = same.0.committed_is ∙ kept.committed same.0.was_open ∙ sym ready.settled in
    record {
      ready = record {
        is_open = same.0.is_open;
        schema = (ready.schema.0, ap (λ (d : Database). d.schema) now ∙ ready.schema.1);
        tables = subst (λ (d : Database). AreTables d.trees) (sym now) ready.tables;
        sound = subst IsDatabase (sym now) ready.sound;
        settled = now ∙ sym committed;
        unlimited = again ∙ limit ∙ ready.unlimited;
      };
      same = now;
      alone = λ db may. settled db may ∙ ap (λ (d : Database). d.trees) committed;
    }
