-- A tenant is deleted, and with it the rows that refer to it in each table.
use Rattle.std.proofs.Common.{◌≡◌, ◌≢◌, inl, inr, ℕ, zero, suc, ℤ, length, length-append, append-nil, List, [], ◌∷◌, ◌++◌, map, filter, Bool, true, false, not, ◌&&◌, ◌||◌, None, Ok, refl, sym, ap, subst, subst₂, ◌∙◌, arith}
use Rattle.std.specs.List.{list_any, AllByRecursion}
use Rattle.std.specs.List.Sorted.{IsPermutation}
use Rattle.table_schema.specs.sqlite_value.specs.declared.value.Value.TheVariants.{Null, Int}
use Rattle.table_schema.specs.sqlite_value.specs.declared.keys.Collation.TheVariants.{Binary}
use Rattle.table_schema.specs.sqlite_value.specs.Order.{Row, column}
use Rattle.table_schema.specs.sqlite_value.specs.Keys.{plain, joined, first_key}
use Rattle.sqlite_trees.specs.declared.store.Shape.TheVariants.{Table as TableShape}
use Rattle.sqlite_trees.specs.Tree.{Trees, rowid, without_rowid}
use Rattle.sqlite_trees.specs.View.{IsShaped}
use Rattle.table_schema.specs.sqlite_schema.specs.declared.schema.Keys.TheVariants.{Enforced}
use Rattle.table_schema.specs.sqlite_schema.specs.declared.schema.Table.{Table}
use Rattle.table_schema.specs.sqlite_schema.specs.Names.{same_name}
use Rattle.table_schema.specs.sqlite_sql.specs.Ops.{binary}
use Rattle.table_schema.specs.sqlite_schema.specs.Rules.{equal}
use Rattle.table_schema.specs.sqlite_rules.specs.Edit.{edit_of, id_in, without_all, taken_by, row_at}
use Rattle.table_schema.specs.sqlite_rules.specs.Action.{Work, works, pairs, loses, AreChildren, is_child_of, action_edit, Acts, ActsOn, Leads, Writes as Leaves}
use Rattle.table_schema.specs.sqlite_rules.specs.declared.action.Deed.TheVariants.{Delete}
use Rattle.table_schema.specs.sqlite_rules.specs.declared.error.Rowids.TheVariants.{Given}
use Rattle.table_schema.specs.sqlite_tied.specs.Compute.{everything}
use Rattle.sqlite.specs.Query.{IsAnswer, Output, output}
use Rattle.sqlite.specs.Program.{overlay}
use Rattle.sqlite.specs.Command.TheVariants.{Delete as DeleteFrom}
use Rattle.sqlite.specs.Does.{Tally, Does}
use Rattle.sqlite.specs.Rows.{Written}
use Rattle.sqlite.specs.Listing.{understood}
use Rattle.sqlite.specs.Effect.{Database, IsDatabase}
use Rattle.sqlite.specs.State.{State, mode_of, Executes}
use Rattle.sqlite.proofs.Callers.{statement_of, runs_as, one_permutation}
use Rattle.table_schema.specs.declared.schema.Layout.{Layout}
use Rattle.table_schema.specs.Layout.{store_schema, receipts_tree, pools_tree, exceptions_tree, placed, to_tenant, tenants_table, maps_table, devices_table, pools_table, receipts_table, exceptions_table, tables_of_tenants}
use Rattle.table_schema.specs.Holds.{tree_of, rows_in, rows_with, AreTables}
use Rattle.table_schema.proofs.Places.{Places, places, apart}
use Rattle.tenant_tables.proofs.Named.{placed_tables}
use Rattle.tenant_tables.proofs.WriteTexts.{remove_text, remove_query, remove_is}
use Rattle.tenant_tables.proofs.RowFacts.{equal_itself}
use Rattle.tenant_tables.proofs.Inserting.{went, same_value, unlike}
use Rattle.tenant_tables.proofs.Taking.{taken_out, own_rowid}
use Rattle.table_schema.proofs.Queries.{staged_is}
use Rattle.tenant_tables.proofs.Deleting.{nothing_after}

-- what is done to a table when these rows of tenants go
abbrev follow : Table → List Row → Work
follow table olds = record { depth = 0; child = table; ref = to_tenant; places = 0 ∷ []; order = plain; deed = Delete; moves = pairs olds [] }

works_are : (layout : Layout) (olds : List Row) → list_any (loses plain (0 ∷ [])) (pairs olds []) ≡ true
    → works (store_schema layout) Enforced 0 1 olds []
    ≡ follow (placed 4 maps_table) olds ∷ follow (placed 6 devices_table) olds ∷ follow (placed (receipts_tree layout) receipts_table) olds ∷ follow (placed (pools_tree layout) pools_table) olds ∷ follow (placed (exceptions_tree layout) exceptions_table) olds ∷ []
unfolding everything same_name joined
works_are layout olds e = rw e

plain_key : (first_key plain).collation ≡ Binary
unfolding first_key
plain_key = refl

apart_from_null : (id : ℤ) → equal Binary (Int id) Null ≡ false
unfolding binary
apart_from_null id = refl

plain_test : (b : Bool) → ((b && true) || false) ≡ b
plain_test true = refl
plain_test false = refl

-- the row has its key, and loses it
loses_key : (row : Row) (id : ℤ) → column row 0 ≡ Int id → loses plain (0 ∷ []) (row, []) ≡ true
loses_key row id is =
    let own : equal Binary (column row 0) (column row 0) ≡ true = subst (λ v. equal Binary v v ≡ true) (sym is) (equal_itself id) in
    let none : equal Binary (column row 0) Null ≡ false = subst (λ v. equal Binary v Null ≡ false) (sym is) (apart_from_null id) in
    subst (λ k. ((equal k (column row 0) (column row 0) && true) && not (equal k (column row 0) Null && true)) ≡ true) (sym plain_key) (rw (own, none) refl)

lost : (row : Row) (id : ℤ) → column row 0 ≡ Int id → list_any (loses plain (0 ∷ [])) (pairs (row ∷ []) []) ≡ true
lost row id is = rw (loses_key row id is) refl

children_are : (table : Table) (row c : Row) (id : ℤ) → column row 0 ≡ Int id → list_any (is_child_of (follow table (row ∷ [])) c) (pairs (row ∷ []) []) ≡ equal Binary (column c 1) (Int id)
children_are table row c id is =
    rw (loses_key row id is) (subst (λ k. ((equal k (column c 1) (column row 0) && true) || false) ≡ equal Binary (column c 1) (Int id)) (sym plain_key)
    (plain_test (equal Binary (column c 1) (column row 0)) ∙ ap (equal Binary (column c 1)) is))

-- the last of a stack
last_is : {X : Type 0} (front below : List X) (one w : X) → front ++ one ∷ [] ≡ below ++ w ∷ [] → (below ≡ front) × (w ≡ one)
last_is [] [] one w e = (refl, let same = e in cc)
last_is [] (x ∷ below) one w e = absurd (omega (arith, ap length e, length-append below (w ∷ [])))
last_is (y ∷ front) [] one w e = absurd (omega (arith, ap length e, length-append front (one ∷ [])))
last_is (y ∷ front) (x ∷ below) one w e =
    let head : x ≡ y = cc in
    let tail : front ++ one ∷ [] ≡ below ++ w ∷ [] = cc in
    let more = last_is front below one w tail in
    (rw (head, more.0), more.1)

-- the last action has been carried out on the rows of one table, and the actions below it wait
record Followed (layout : Layout) (table : Table) (row : Row) (db next : Trees) (below : List Work) : Type 0 where
  mid : Trees
  left : ℕ
  ids : List ℤ
  are : AreChildren db (follow table (row ∷ [])) ids
  rows : mid table.tree ≡ without_all (db table.tree) ids
  others : AllByRecursion (λ t. t.tree ≢ table.tree → mid t.tree ≡ db t.tree) (placed_tables layout)
  rest : Leads (store_schema layout) Enforced left mid below (Ok next)

all_same : (tables : List Table) (n : ℕ) (db : Trees) → AllByRecursion (λ t. t.tree ≢ n → db t.tree ≡ db t.tree) tables
all_same [] n db = tt
all_same (t ∷ tables) n db = ((λ other. refl), all_same tables n db)

module _ (layout : Layout) (table : Table) (row : Row) (ends : (olds : List Row) → works (store_schema layout) Enforced 1 table.tree olds [] ≡ []) where
  acted : (n : ℕ) (db next : Trees) (below : List Work) (ids : List ℤ) → AreChildren db (follow table (row ∷ [])) ids
      → ActsOn (store_schema layout) Enforced (Leads (store_schema layout) Enforced n) db (follow table (row ∷ [])) below (Ok next) ids → Followed layout table row db next below
  acted n db next below [] are h = record { mid = db; left = n; ids = []; are = are; rows = refl; others = all_same (placed_tables layout) table.tree db; rest = h }
  acted n db next below (id ∷ ids) are (inl refused) = absurd (let e = refused.2 in cc)
  acted n db next below (id ∷ ids) are (inr (inl big)) = absurd big.1
  acted n db next below (id ∷ ids) are (inr (inr on)) =
      let step = on.1 in
      record {
        mid = on.0;
        left = n;
        ids = id ∷ ids;
        are = are;
        rows = step.rows;
        others = (step.tables.1.0, step.tables.1.1.1);
        rest = subst (λ stack. Leads (store_schema layout) Enforced n on.0 stack (Ok next)) (ap (λ more. below ++ more) (ends (taken_by db (action_edit db (follow table (row ∷ [])) (id ∷ ids)))) ∙ append-nil below) on.2;
      }

  followed : (n : ℕ) (db next : Trees) (front : List Work) → Leads (store_schema layout) Enforced n db (front ++ follow table (row ∷ []) ∷ []) (Ok next) → Followed layout table row db next front
  followed zero db next front h = absurd (omega (arith, ap length h.0, length-append front (follow table (row ∷ []) ∷ [])))
  followed (suc n) db next front h =
      let it = last_is front h.0 (follow table (row ∷ [])) h.1 h.2 in
      let acts = subst₂ (λ w below. Acts (store_schema layout) Enforced (Leads (store_schema layout) Enforced n) db w below (Ok next)) it.1 it.0 h.3 in
      acted n db next front acts.0 acts.1 acts.2

-- the row refers to the tenant
abbrev pub is_of : ℤ → Row → Bool
is_of id row = equal Binary (column row 1) (Int id)

-- the rows of the table in its tree that refer to the tenant are taken out
record TakenAt (layout : Layout) (tree : ℕ) (p : Row → Bool) (old new : Trees) : Type 0 where
  rows : new tree ≡ filter (λ r. not (p r)) (old tree)
  others : AllByRecursion (λ t. t.tree ≢ tree → new t.tree ≡ old t.tree) (placed_tables layout)

taken : (layout : Layout) (table : Table) (row : Row) (id : ℤ) (db next : Trees) (below : List Work) → column row 0 ≡ Int id → IsShaped TableShape (db table.tree) → (it : Followed layout table row db next below)
    → TakenAt layout table.tree (is_of id) db it.mid
taken layout table row id db next below is up it = record {
  rows = it.rows ∙ taken_out (db table.tree) (is_of id) it.ids up
      (λ r there passes. it.are.complete r (id_in (rowid r)) there (children_are table row r id is ∙ passes) (own_rowid (db table.tree) r up there))
      (λ at there. let child = it.are.sound at there in (child.0, child.1, sym (children_are table row child.0 id is) ∙ child.2, child.3));
  others = it.others;
}

settled : (layout : Layout) (n : ℕ) (db next : Trees) → Leads (store_schema layout) Enforced n db [] (Ok next) → next ≡ db
settled layout zero db next h = let e = h.1 in cc
settled layout (suc n) db next h = absurd (omega (arith, ap length h.2, length-append h.0 (h.1 ∷ [])))

-- the tenant's row goes, and in each table what refers to it
pub record Removed (id : ℤ) (old new : Trees) : Type 0 where
  pub tenants : rows_in tenants_table new ≡ without_rowid id (rows_in tenants_table old)
  pub rows : AllByRecursion (λ t. rows_in t new ≡ filter (λ r. not (is_of id r)) (rows_in t old)) tables_of_tenants

-- the same by trees
record RemovedAt (layout : Layout) (id : ℤ) (old new : Trees) : Type 0 where
  tenants : new 1 ≡ without_rowid id (old 1)
  maps : new 4 ≡ filter (λ r. not (is_of id r)) (old 4)
  devices : new 6 ≡ filter (λ r. not (is_of id r)) (old 6)
  receipts : new (receipts_tree layout) ≡ filter (λ r. not (is_of id r)) (old (receipts_tree layout))
  pools : new (pools_tree layout) ≡ filter (λ r. not (is_of id r)) (old (pools_tree layout))
  exceptions : new (exceptions_tree layout) ≡ filter (λ r. not (is_of id r)) (old (exceptions_tree layout))

removed : (layout : Layout) (db next : Trees) (row : Row) (id : ℤ) → Places layout db → AreTables db → row_at (db 1) id ≡ row → column row 0 ≡ Int id
    → Leaves (store_schema layout) Enforced db (edit_of db (placed 1 tenants_table) (id ∷ []) Given 0 []) (Ok next) → RemovedAt layout id db next
removed layout db next row id before up there is (inl refused) = absurd (let e = refused.2 in cc)
removed layout db next row id before up there is (inr (inl big)) = absurd big.1
removed layout db next row id before up there is (inr (inr on)) =
    let away = apart layout in
    let none = nothing_after layout 1 in
    let step = on.1 in
    let first = on.0 in
    let same = step.tables.1.1.1 in
    let olds : List Row = row_at (db 1) id ∷ [] in
    let stack = ap (λ r. works (store_schema layout) Enforced 0 1 (r ∷ []) []) there ∙ works_are layout (row ∷ []) (lost row id is) in
    let waits = subst (λ works. Leads (store_schema layout) Enforced on.2.0 first works (Ok next)) stack on.2.1 in
    let ee = followed layout (placed (exceptions_tree layout) exceptions_table) row (λ olds. (none olds).4) on.2.0 first next (follow (placed 4 maps_table) (row ∷ []) ∷ follow (placed 6 devices_table) (row ∷ []) ∷ follow (placed (receipts_tree layout) receipts_table) (row ∷ []) ∷ follow (placed (pools_tree layout) pools_table) (row ∷ []) ∷ []) waits in
    let pp = followed layout (placed (pools_tree layout) pools_table) row (λ olds. (none olds).2) ee.left ee.mid next (follow (placed 4 maps_table) (row ∷ []) ∷ follow (placed 6 devices_table) (row ∷ []) ∷ follow (placed (receipts_tree layout) receipts_table) (row ∷ []) ∷ []) ee.rest in
    let rr = followed layout (placed (receipts_tree layout) receipts_table) row (λ olds. (none olds).3) pp.left pp.mid next (follow (placed 4 maps_table) (row ∷ []) ∷ follow (placed 6 devices_table) (row ∷ []) ∷ []) pp.rest in
    let dd = followed layout (placed 6 devices_table) row (λ olds. (none olds).1) rr.left rr.mid next (follow (placed 4 maps_table) (row ∷ []) ∷ []) rr.rest in
    let mm = followed layout (placed 4 maps_table) row (λ olds. (none olds).0) dd.left dd.mid next [] dd.rest in
    let end = settled layout mm.left mm.mid next mm.rest in
    let at : (n : ℕ) → next n ≡ mm.mid n = λ n. ap (λ (t : Trees). t n) end in
    let exceptions-was : first (exceptions_tree layout) ≡ db (exceptions_tree layout) = same.1.1.1.1.0 (λ same. away.exceptions 1 (omega arith) (sym same)) in
    let pools-was : ee.mid (pools_tree layout) ≡ db (pools_tree layout) = ee.others.1.1.1.1.0 away.pools-exceptions ∙ same.1.1.1.0 (λ same. away.pools 1 (omega arith) (sym same)) in
    let receipts-was : pp.mid (receipts_tree layout) ≡ db (receipts_tree layout) = pp.others.1.1.1.0 away.receipts-pools ∙ ee.others.1.1.1.0 away.receipts-exceptions ∙ same.1.1.0 (λ same. away.receipts 1 (omega arith) (sym same)) in
    let devices-was : rr.mid 6 ≡ db 6 = rr.others.1.1.0 (away.receipts 6 (omega arith)) ∙ pp.others.1.1.0 (away.pools 6 (omega arith)) ∙ ee.others.1.1.0 (away.exceptions 6 (omega arith)) ∙ same.1.0 (unlike 6 1 refl) in
    let maps-was : dd.mid 4 ≡ db 4 = dd.others.1.0 (unlike 4 6 refl) ∙ rr.others.1.0 (away.receipts 4 (omega arith)) ∙ pp.others.1.0 (away.pools 4 (omega arith)) ∙ ee.others.1.0 (away.exceptions 4 (omega arith)) ∙ same.0 (unlike 4 1 refl) in
    let rows : List Row → List Row = filter (λ r. not (is_of id r)) in
    let exceptions = taken layout (placed (exceptions_tree layout) exceptions_table) row id first next _ is (subst (IsShaped TableShape) (sym (exceptions-was ∙ ap db (sym before.exceptions))) up.others.1.1.1.1.0) ee in
    let pools = taken layout (placed (pools_tree layout) pools_table) row id ee.mid next _ is (subst (IsShaped TableShape) (sym (pools-was ∙ ap db (sym before.pools))) up.others.1.1.0) pp in
    let receipts = taken layout (placed (receipts_tree layout) receipts_table) row id pp.mid next _ is (subst (IsShaped TableShape) (sym (receipts-was ∙ ap db (sym before.receipts))) up.others.1.1.1.0) rr in
    let devices = taken layout (placed 6 devices_table) row id rr.mid next _ is (subst (IsShaped TableShape) (sym (devices-was ∙ ap db (sym before.devices))) up.others.1.0) dd in
    let maps = taken layout (placed 4 maps_table) row id dd.mid next _ is (subst (IsShaped TableShape) (sym (maps-was ∙ ap db (sym before.maps))) up.others.0) mm in
    record {
      tenants = at 1 ∙ mm.others.0 (unlike 1 4 refl) ∙ dd.others.0 (unlike 1 6 refl) ∙ rr.others.0 (away.receipts 1 (omega arith)) ∙ pp.others.0 (away.pools 1 (omega arith)) ∙ ee.others.0 (away.exceptions 1 (omega arith)) ∙ step.rows;
      maps = at 4 ∙ maps.rows ∙ ap rows maps-was;
      devices = at 6 ∙ mm.others.1.1.0 (unlike 6 4 refl) ∙ devices.rows ∙ ap rows devices-was;
      receipts = at (receipts_tree layout) ∙ mm.others.1.1.1.0 (λ same. away.receipts 4 (omega arith) (sym same)) ∙ dd.others.1.1.1.0 (λ same. away.receipts 6 (omega arith) (sym same)) ∙ receipts.rows ∙ ap rows receipts-was;
      pools = at (pools_tree layout) ∙ mm.others.1.1.1.1.0 (λ same. away.pools 4 (omega arith) (sym same)) ∙ dd.others.1.1.1.1.0 (λ same. away.pools 6 (omega arith) (sym same)) ∙ rr.others.1.1.1.1.0 (λ same. away.receipts-pools (sym same)) ∙ pools.rows ∙ ap rows pools-was;
      exceptions = at (exceptions_tree layout) ∙ mm.others.1.1.1.1.1.0 (λ same. away.exceptions 4 (omega arith) (sym same)) ∙ dd.others.1.1.1.1.1.0 (λ same. away.exceptions 6 (omega arith) (sym same)) ∙ rr.others.1.1.1.1.1.0 (λ same. away.receipts-exceptions (sym same)) ∙ pp.others.1.1.1.1.1.0 (λ same. away.pools-exceptions (sym same)) ∙ exceptions.rows ∙ ap rows exceptions-was;
    }

pub removes : (old new : State) (row : Row) (id : ℤ) (count : ℕ) (layout : Layout) → old.now.schema ≡ store_schema layout → IsDatabase old.now → AreTables old.now.trees → rows_with 0 (Int id) (rows_in tenants_table old.now.trees) ≡ row ∷ []
    → row_at (rows_in tenants_table old.now.trees) id ≡ row → column row 0 ≡ Int id
    → Executes remove_text (Int id ∷ []) old new (Ok count) → Removed id old.now.trees new.now.trees × (new.now.schema ≡ old.now.schema) × IsDatabase new.now
removes old new row id count layout has sound up is_there there keyed h =
    let schema = store_schema layout in
    let before = places layout old.now sound has in
    let db = old.now.trees in
    let is : rows_with 0 (Int id) (db 1) ≡ row ∷ [] = subst (λ n. rows_with 0 (Int id) (db n) ≡ row ∷ []) before.tenants is_there in
    let found_it : row_at (db 1) id ≡ row = subst (λ n. row_at (db n) id ≡ row) before.tenants there in
    let params : Row = Int id ∷ [] in
    let command = DeleteFrom 1 (record { lets = []; body = remove_query }) in
    let w = runs_as remove_text params old new schema has command (remove_is layout).0 (remove_is layout).1 count h in
    let text = statement_of remove_text (understood schema remove_text) in
    let done = went (subst (λ s. Does old.step_limit (mode_of old) params (record old.now { schema = s }) text None command (Ok (w.tally, new.now))) has w.changed) in
    let now = ap (λ (p : Tally × Database). p.1) (same_value (went (went done.2).2).2) in
    let found = went done.1 in
    let left = went found.2 in
    let trees : new.now.trees ≡ left.0 = ap (λ (d : Database). d.trees) now ∙ ap (λ (it : Written). it.trees) (same_value left.2) in
    let a : IsAnswer remove_query (overlay db []) params found.0 = found.1.answer Null in
    let staged = a.grouped ∙ staged_is params _ (db 1) in
    let one : Output = ([], column row 0 ∷ []) in
    let kept : a.kept ≡ one ∷ [] = a.distinct ∙ ap (map (output remove_query)) (staged ∙ ap (map (λ r. params ∷ r ∷ [])) is) in
    let ordered = one_permutation one a.ordered (subst (λ k. IsPermutation k a.ordered) kept a.same) in
    let rows : found.0 ≡ (column row 0 ∷ []) ∷ [] = a.shown ∙ ap (map (λ (o : Output). o.1)) ordered in
    let ids : map (λ r. id_in (rowid r)) found.0 ≡ id ∷ [] = ap (map (λ r. id_in (rowid r))) rows ∙ ap (λ v. id_in v ∷ []) keyed in
    let at_trees = removed layout db left.0 row id before up found_it keyed (subst (λ all. Leaves schema Enforced db (edit_of db (placed 1 tenants_table) all Given 0 []) (Ok left.0)) ids left.1) in
    let gone = subst (RemovedAt layout id db) (sym trees) at_trees in
    let same_schema : new.now.schema ≡ old.now.schema = ap (λ (d : Database). d.schema) now ∙ sym has in
    let after = places layout new.now w.sound (same_schema ∙ has) in
    let less : List Row → List Row = filter (λ r. not (is_of id r)) in
    let named : (table : Table) (tree : ℕ) → tree_of db table.name ≡ tree → tree_of new.now.trees table.name ≡ tree → new.now.trees tree ≡ less (db tree) → rows_in table new.now.trees ≡ less (rows_in table db) =
    λ table tree was is it. ap new.now.trees is ∙ it ∙ ap (λ n. less (db n)) (sym was) in (
      record {
        tenants = ap new.now.trees after.tenants ∙ gone.tenants ∙ ap (λ n. without_rowid id (db n)) (sym before.tenants);
        rows = (
          named maps_table 4 before.maps after.maps gone.maps,
          (
            named devices_table 6 before.devices after.devices gone.devices,
            (
              named pools_table (pools_tree layout) before.pools after.pools gone.pools,
              (
                named receipts_table (receipts_tree layout) before.receipts after.receipts gone.receipts,
                (
                  named exceptions_table (exceptions_tree layout) before.exceptions after.exceptions gone.exceptions,
                  tt,
                ),
              ),
            ),
          ),
        );
      },
      same_schema,
      w.sound,
    )
