-- What the writes make of the rows of names.
use Rattle.std.proofs.Common.{◌≡◌, ◌≢◌, inl, ℕ, ℤ, List, [], ◌∷◌, map, filter, Bool, true, false, cond, not, ◌&&◌, refl, sym, ap, subst, ◌∙◌, true≢false, Equal, is_eq, bytes_eq}
use Rattle.std.specs.List.{AllByRecursion}
use Rattle.std.specs.List.Sorted.{IsPermutation}
use Rattle.std.proofs.lemmas.Cmp.{tied_itself, tied_back}
use Rattle.std.proofs.lemmas.List.Sorted.{IsPermutation-cons, IsPermutation-trans, IsPermutation-map}
use Rattle.table_schema.specs.sqlite_value.specs.declared.value.Value.{Value}
use Rattle.table_schema.specs.sqlite_value.specs.declared.value.Value.TheVariants.{Null, Int, Text as Words}
use Rattle.table_schema.specs.sqlite_value.specs.declared.keys.Collation.TheVariants.{Binary}
use Rattle.table_schema.specs.sqlite_value.specs.Order.{Row, column, value_cmp}
use Rattle.table_schema.specs.sqlite_value.proofs.OrderLemmas.{value_cmp_total}
use Rattle.sqlite_trees.specs.declared.store.Shape.TheVariants.{Table as TableShape}
use Rattle.sqlite_trees.specs.Tree.{Trees, rowid, has_rowid, without_rowid}
use Rattle.sqlite_trees.specs.View.{IsShaped}
use Rattle.sqlite_trees.proofs.ListLemmas.{filter_all, filter_none, all_weaker, all_both}
use Rattle.sqlite_trees.proofs.TreeLemmas.{not_true, IsShaped-put_row, IsShaped-filter}
use Rattle.table_schema.specs.sqlite_schema.specs.declared.schema.Table.{Table}
use Rattle.table_schema.specs.sqlite_schema.specs.Rules.{equal}
use Rattle.table_schema.specs.sqlite_rules.specs.Lists.{Has}
use Rattle.table_schema.specs.sqlite_rules.specs.Edit.{row_at}
use Rattle.table_schema.specs.sqlite_rules.proofs.ListLemmas.{all_from, has_filtered}
use Rattle.sqlite.specs.Effect.{Database, IsDatabase}
use Rattle.table_schema.specs.Layout.{tenants_table, tables_of_tenants}
use Rattle.table_schema.specs.Holds.{tree_of, rows_in, rows_with, tenants_of, values_of, of_tenant, IsTenant, KeepsRowsOf, AreTables}
use Rattle.tenant_tables.specs.Change.{Drops}
use Rattle.tenant_tables.proofs.RowFacts.{tied, equal_parts, equal_words, equal_itself, same_words, words_of, itself, apart, filter_put, filter_put_one, perm_put, none_there, filter_swap, one_row}
use Rattle.tenant_tables.proofs.Named.{by_name}
use Rattle.tenant_tables.proofs.Inserting.{Added}
use Rattle.tenant_tables.proofs.Taking.{only_row, row_there}
use Rattle.tenant_tables.proofs.Raising.{Raised}
use Rattle.tenant_tables.proofs.Deleting.{TakenOut}
use Rattle.tenant_tables.proofs.Removing.{Removed, is_of}

-- ---- the tenant's row

module _ (db : Trees) (name : List ℕ) (id : ℤ) (epoch : ℕ) (tenant : IsTenant db name id epoch) where
  mine : Has (rows_in tenants_table db) tenant.row × (equal Binary (column tenant.row 2) (Words name) ≡ true)
  mine = has_filtered (λ r. equal Binary (column r 2) (Words name)) (rows_in tenants_table db) tenant.row (subst (λ l. Has l tenant.row) (sym tenant.one) (inl refl))

  pub named : column tenant.row 2 ≡ Words name
  named = words_of (column tenant.row 2) name mine.1

  pub alone : AreTables db → rows_with 0 (Int id) (rows_in tenants_table db) ≡ tenant.row ∷ []
  alone up = only_row (rows_in tenants_table db) tenant.row id up.tenants.0 mine.0 tenant.number

  pub at_number : AreTables db → row_at (rows_in tenants_table db) id ≡ tenant.row
  at_number up = row_there (rows_in tenants_table db) tenant.row id up.tenants.0 mine.0 tenant.number

  -- a row with its number is its row
  pub one_name : (other : List ℕ) (r : Row) → AreTables db → Has (tenants_of db other) r → is_eq (value_cmp (column r 0) (Int id)) ≡ true → other ≡ name
  one_name other r up there same =
      let theirs = has_filtered (λ x. equal Binary (column x 2) (Words other)) (rows_in tenants_table db) r there in
      let one : r ≡ tenant.row = one_row (rows_in tenants_table db) r tenant.row up.tenants.0 theirs.0 mine.0 (subst (λ v. value_cmp (rowid r) v ≡ Equal) (sym tenant.number) (tied _ same)) in
      same_words (column tenant.row 2) other name (subst (λ x. equal Binary (column x 2) (Words other) ≡ true) one theirs.1) mine.1

  pub other_number : (other : List ℕ) (r : Row) → AreTables db → other ≢ name → Has (tenants_of db other) r → is_eq (value_cmp (column r 0) (Int id)) ≡ false
  other_number other r up apart there = not_true _ (λ same. apart (one_name other r up there same))

-- ---- what concerns one tenant

-- At most the rows of one tenant are written.
pub record Touches (name : List ℕ) (id : ℤ) (old new : Database) : Type 0 where
  pub schema : new.schema ≡ old.schema
  pub sound : IsDatabase new
  pub tables : AreTables new.trees
  pub tenants : (other : List ℕ) → other ≢ name → tenants_of new.trees other ≡ tenants_of old.trees other
  pub rows : (v : Value) → is_eq (value_cmp v (Int id)) ≡ false → AllByRecursion (λ t. rows_with 1 v (rows_in t new.trees) ≡ rows_with 1 v (rows_in t old.trees)) tables_of_tenants

pub touches_then : (name : List ℕ) (id : ℤ) (a b c : Database) → Touches name id a b → Touches name id b c → Touches name id a c
touches_then name id a b c p q = record {
  schema = q.schema ∙ p.schema;
  sound = q.sound;
  tables = q.tables;
  tenants = λ other apart. q.tenants other apart ∙ p.tenants other apart;
  rows = λ v apart. all_both (λ t. rows_with 1 v (rows_in t b.trees) ≡ rows_with 1 v (rows_in t a.trees)) (λ t. rows_with 1 v (rows_in t c.trees) ≡ rows_with 1 v (rows_in t b.trees)) (λ t. rows_with 1 v (rows_in t c.trees) ≡ rows_with 1 v (rows_in t a.trees))
      (λ t first second. second ∙ first) tables_of_tenants (p.rows v apart) (q.rows v apart);
}

pub touched : (name : List ℕ) (id : ℤ) (epoch : ℕ) (old new : Database) → AreTables old.trees → IsTenant old.trees name id epoch → Touches name id old new
    → (other : List ℕ) → other ≢ name → KeepsRowsOf other old.trees new.trees
touched name id epoch old new up tenant it other apart = record {
  tenants = it.tenants other apart;
  tables = λ row there. it.rows (column row 0) (other_number old.trees name id epoch tenant other row up apart there);
}

-- what held of the other tables still holds
carried : (P : List Row → Type 0) (name : List ℕ) (tables : List Table) (old new : Trees) → AllByRecursion (λ t. P (rows_in t old)) tables → AllByRecursion (λ t. bytes_eq t.name name ≡ false → rows_in t new ≡ rows_in t old) tables
    → AllByRecursion (λ t. bytes_eq t.name name ≡ false → P (rows_in t new)) tables
carried P name tables old new held same =
    all_both (λ t. P (rows_in t old)) (λ t. bytes_eq t.name name ≡ false → rows_in t new ≡ rows_in t old) (λ t. bytes_eq t.name name ≡ false → P (rows_in t new)) (λ t is stays away. subst P (sym (stays away)) is) tables held same

same_rows : (v : Value) (name : List ℕ) (tables : List Table) (old new : Trees) → AllByRecursion (λ t. bytes_eq t.name name ≡ false → rows_in t new ≡ rows_in t old) tables
    → AllByRecursion (λ t. bytes_eq t.name name ≡ false → rows_with 1 v (rows_in t new) ≡ rows_with 1 v (rows_in t old)) tables
same_rows v name tables old new same =
    all_weaker (λ t. bytes_eq t.name name ≡ false → rows_in t new ≡ rows_in t old) (λ t. bytes_eq t.name name ≡ false → rows_with 1 v (rows_in t new) ≡ rows_with 1 v (rows_in t old)) (λ t stays away. ap (rows_with 1 v) (stays away)) tables same

-- a value that doesn't compare as equal to the number isn't equal to it
other_value : (v : Value) (id : ℤ) → is_eq (value_cmp v (Int id)) ≡ false → equal Binary (Int id) v ≡ false
other_value v id apart = not_true _ (λ same. true≢false (sym (ap is_eq (tied_back value_cmp_total (Int id) v (equal_parts (Int id) v same).1)) ∙ apart))

-- ---- a row that is put in

module _ (table : Table) (name : List ℕ) (id at : ℤ) (values : Row) (old new : Database) (apart : bytes_eq tenants_table.name table.name ≡ false) (added : Added table (Int at ∷ Int id ∷ values) old new) where
  abbrev row : Row
  row = Int at ∷ Int id ∷ values

  pub added_tenants : rows_in tenants_table new.trees ≡ rows_in tenants_table old.trees
  added_tenants = added.others.0 apart

  pub added_touches : AreTables old.trees → IsShaped TableShape (rows_in table old.trees) → Touches name id old new
  added_touches up shaped = record {
    schema = added.schema;
    sound = added.sound;
    tables = record {
      tenants = subst (IsShaped TableShape) (sym added_tenants) up.tenants;
      others = by_name (λ n. IsShaped TableShape (new.trees (tree_of new.trees n))) table.name tables_of_tenants (subst (IsShaped TableShape) (sym added.rows) (IsShaped-put_row row (rows_in table old.trees) refl shaped))
          (carried (IsShaped TableShape) table.name tables_of_tenants old.trees new.trees up.others added.others.1);
    };
    tenants = λ other away. ap (rows_with 2 (Words other)) added_tenants;
    rows = λ v away. by_name (λ n. rows_with 1 v (new.trees (tree_of new.trees n)) ≡ rows_with 1 v (old.trees (tree_of old.trees n))) table.name tables_of_tenants
        (ap (rows_with 1 v) added.rows ∙ filter_put (λ r. equal Binary (column r 1) v) row (rows_in table old.trees) added.free (other_value v id away))
        (same_rows v table.name tables_of_tenants old.trees new.trees added.others.1);
  }

  pub added_own : (rows : List Row) → IsPermutation (of_tenant table id old.trees) rows → IsPermutation (of_tenant table id new.trees) (values_of table row ∷ rows)
  added_own rows before =
      let put = perm_put (λ r. equal Binary (column r 1) (Int id)) row (rows_in table old.trees) added.free (equal_itself id) in
      subst (λ all. IsPermutation (map (values_of table) (rows_with 1 (Int id) all)) (values_of table row ∷ rows)) (sym added.rows)
      (IsPermutation-trans _ _ _ (IsPermutation-map (values_of table) _ _ put) (IsPermutation-cons (values_of table row) _ _ before))

-- ---- rows that are taken out

spared : (q p : Row → Bool) (rows : List Row) → ((r : Row) → Has rows r → q r ≡ true → p r ≡ false) → filter q (filter (λ r. not (p r)) rows) ≡ filter q rows
spared q p rows none = filter_swap q (λ r. not (p r)) rows ∙ filter_all (λ r. not (p r)) (filter q rows) (all_from _ (filter q rows) (λ r there. let it = has_filtered q rows r there in ap not (none r it.0 it.1)))

-- a row of another number isn't the tenant's
other_row : (id : ℤ) (v : Value) (r : Row) → is_eq (value_cmp v (Int id)) ≡ false → equal Binary (column r 1) v ≡ true → is_of id r ≡ false
other_row id v r away same = not_true _ (λ is.
    let left : value_cmp (column r 1) v ≡ Equal = (equal_parts (column r 1) v same).1 in
    let right : value_cmp (column r 1) (Int id) ≡ Equal = (equal_parts (column r 1) (Int id) is).1 in
    let both : value_cmp v (Int id) ≡ Equal = sym (value_cmp_total.congr (column r 1) v (Int id) left) ∙ right in
    true≢false (sym (ap is_eq both) ∙ away))

module _ (table : Table) (name : List ℕ) (id : ℤ) (p : Row → Bool) (old new : Database) (apart : bytes_eq tenants_table.name table.name ≡ false) (within : (r : Row) → is_of id r ≡ false → p r ≡ false) (taken : TakenOut table p old.trees new.trees) where
  pub taken_tenants : rows_in tenants_table new.trees ≡ rows_in tenants_table old.trees
  taken_tenants = taken.others.0 apart

  pub taken_touches : new.schema ≡ old.schema → IsDatabase new → AreTables old.trees → IsShaped TableShape (rows_in table old.trees) → Touches name id old new
  taken_touches schema sound up shaped = record {
    schema = schema;
    sound = sound;
    tables = record {
      tenants = subst (IsShaped TableShape) (sym taken_tenants) up.tenants;
      others = by_name (λ n. IsShaped TableShape (new.trees (tree_of new.trees n))) table.name tables_of_tenants
          (subst (IsShaped TableShape) (sym taken.rows) (IsShaped-filter TableShape (λ r. not (p r)) (rows_in table old.trees) shaped))
          (carried (IsShaped TableShape) table.name tables_of_tenants old.trees new.trees up.others taken.others.1);
    };
    tenants = λ other away. ap (rows_with 2 (Words other)) taken_tenants;
    rows = λ v away. by_name (λ n. rows_with 1 v (new.trees (tree_of new.trees n)) ≡ rows_with 1 v (old.trees (tree_of old.trees n))) table.name tables_of_tenants
        (ap (rows_with 1 v) taken.rows ∙ spared (λ r. equal Binary (column r 1) v) p (rows_in table old.trees) (λ r there passes. within r (other_row id v r away passes)))
        (same_rows v table.name tables_of_tenants old.trees new.trees taken.others.1);
  }

-- of the tenant's rows those without the key stay
pub filter_within : (m k : Row → Bool) (rows : List Row) → filter m (filter (λ r. not (m r && k r)) rows) ≡ filter (λ r. not (k r)) (filter m rows)
filter_within m k [] = refl
filter_within m k (r ∷ rows) = go (m r) (k r) refl refl (filter_within m k rows)
  where
    go : (a b : Bool) → m r ≡ a → k r ≡ b → filter m (filter (λ x. not (m x && k x)) rows) ≡ filter (λ x. not (k x)) (filter m rows)
        → filter m (cond (not (a && b)) (r ∷ filter (λ x. not (m x && k x)) rows) (filter (λ x. not (m x && k x)) rows)) ≡ filter (λ x. not (k x)) (cond a (r ∷ filter m rows) (filter m rows))
    go true true e f more = rw (f, more)
    go true false e f more = rw (e, f, more)
    go false b e f more = rw (e, more)

-- ---- the epoch

module _ (name : List ℕ) (id e : ℤ) (epoch : ℕ) (old new : Database) (up : AreTables old.trees) (tenant : IsTenant old.trees name id epoch) (raised : Raised id name e old new) where
  abbrev raised_row : Row
  raised_row = Int id ∷ Null ∷ Words name ∷ Int e ∷ []

  abbrev rest : List Row
  rest = without_rowid id (rows_in tenants_table old.trees)

  pub raised_touches : Touches name id old new
  raised_touches = record {
    schema = raised.schema;
    sound = raised.sound;
    tables = record {
      tenants = subst (IsShaped TableShape) (sym raised.tenants) (IsShaped-put_row raised_row rest refl (IsShaped-filter TableShape (λ r. not (has_rowid id r)) (rows_in tenants_table old.trees) up.tenants));
      others = all_both (λ t. IsShaped TableShape (rows_in t old.trees)) (λ t. rows_in t new.trees ≡ rows_in t old.trees) (λ t. IsShaped TableShape (rows_in t new.trees)) (λ t is same. subst (IsShaped TableShape) (sym same) is) tables_of_tenants up.others raised.others;
    };
    tenants = λ other away.
        ap (rows_with 2 (Words other)) raised.tenants
        ∙ filter_put _ raised_row rest (none_there id (rows_in tenants_table old.trees)) (equal_words name other ∙ Rattle.tenant_tables.proofs.RowFacts.apart name other away)
        ∙ filter_swap _ _ (rows_in tenants_table old.trees)
        ∙ filter_all _ (tenants_of old.trees other) (all_from _ (tenants_of old.trees other) (λ r there. ap not (other_number old.trees name id epoch tenant other r up away there)));
    rows = λ v away. all_weaker (λ t. rows_in t new.trees ≡ rows_in t old.trees) (λ t. rows_with 1 v (rows_in t new.trees) ≡ rows_with 1 v (rows_in t old.trees)) (λ t same. ap (rows_with 1 v) same) tables_of_tenants raised.others;
  }

  pub raised_row_is : tenants_of new.trees name ≡ raised_row ∷ []
  raised_row_is =
      let same : value_cmp (column tenant.row 0) (Int id) ≡ Equal = subst (λ v. value_cmp v (Int id) ≡ Equal) (sym tenant.number) (tied_itself value_cmp_total (Int id)) in
      ap (rows_with 2 (Words name)) raised.tenants
      ∙ filter_put_one _ raised_row rest (none_there id (rows_in tenants_table old.trees)) (equal_words name name ∙ itself name) (filter_swap _ _ (rows_in tenants_table old.trees) ∙ ap (filter (λ r. not (has_rowid id r))) tenant.one ∙ rw (ap is_eq same))

-- ---- a tenant that goes

pub removed_drops : (old new : Trees) (id : ℤ) → AreTables old → Removed id old new → Drops id old new
removed_drops old new id up gone name epoch tenant =
    let same : value_cmp (column tenant.row 0) (Int id) ≡ Equal = subst (λ v. value_cmp v (Int id) ≡ Equal) (sym tenant.number) (tied_itself value_cmp_total (Int id)) in
    record {
      own = (
        ap (rows_with 2 (Words name)) gone.tenants ∙ filter_swap _ _ (rows_in tenants_table old) ∙ ap (filter (λ r. not (has_rowid id r))) tenant.one ∙ rw (ap is_eq same),
        all_weaker (λ t. rows_in t new ≡ filter (λ r. not (is_of id r)) (rows_in t old)) (λ t. rows_with 1 (Int id) (rows_in t new) ≡ []) (λ t rows. ap (rows_with 1 (Int id)) rows ∙ nothing_left (is_of id) (rows_in t old)) tables_of_tenants gone.rows,
      );
      others = λ other away. record {
        tenants = ap (rows_with 2 (Words other)) gone.tenants ∙ filter_swap _ _ (rows_in tenants_table old)
            ∙ filter_all _ (tenants_of old other) (all_from _ (tenants_of old other) (λ r there. ap not (other_number old name id epoch tenant other r up away there)));
        tables = λ row there. all_weaker (λ t. rows_in t new ≡ filter (λ r. not (is_of id r)) (rows_in t old)) (λ t. rows_with 1 (column row 0) (rows_in t new) ≡ rows_with 1 (column row 0) (rows_in t old))
            (λ t rows. ap (rows_with 1 (column row 0)) rows ∙ spared (λ r. equal Binary (column r 1) (column row 0)) (is_of id) (rows_in t old) (λ r here passes. other_row id (column row 0) r (other_number old name id epoch tenant other row up away there) passes))
            tables_of_tenants gone.rows;
      };
    }
  where
    nothing_left : (p : Row → Bool) (rows : List Row) → filter p (filter (λ r. not (p r)) rows) ≡ []
    nothing_left p rows = filter_none p (filter (λ r. not (p r)) rows) (all_from _ (filter (λ r. not (p r)) rows) (λ r there. flip (p r) (has_filtered (λ x. not (p x)) rows r there).1))
      where
        flip : (b : Bool) → not b ≡ true → b ≡ false
        flip true h = absurd (true≢false (sym h))
        flip false h = refl

pub removed_tables : (old new : Trees) (id : ℤ) → AreTables old → Removed id old new → AreTables new
removed_tables old new id up gone = record {
  tenants = subst (IsShaped TableShape) (sym gone.tenants) (IsShaped-filter TableShape (λ r. not (has_rowid id r)) (rows_in tenants_table old) up.tenants);
  others = all_both (λ t. IsShaped TableShape (rows_in t old)) (λ t. rows_in t new ≡ filter (λ r. not (is_of id r)) (rows_in t old)) (λ t. IsShaped TableShape (rows_in t new))
      (λ t is rows. subst (IsShaped TableShape) (sym rows) (IsShaped-filter TableShape (λ r. not (is_of id r)) (rows_in t old) is)) tables_of_tenants up.others gone.rows;
}
