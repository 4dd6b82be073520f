-- Rows that are taken out by their rowids.
use Rattle.std.proofs.Common.{◌≡◌, inl, inr, ℤ, List, [], ◌∷◌, map, filter, Bool, true, false, cond, not, ◌||◌, refl, sym, ap, subst, ◌∙◌, true≢false, Less, Equal, is_eq, IsTrue}
use Rattle.std.specs.List.{list_any}
use Rattle.std.specs.List.Sorted.{IsPermutation}
use Rattle.std.proofs.lemmas.Cmp.{tied_back, tied_itself}
use Rattle.std.proofs.lemmas.List.Sorted.{Contains-permutation}
use Rattle.table_schema.specs.sqlite_value.specs.declared.value.Value.{Value}
use Rattle.table_schema.specs.sqlite_value.specs.declared.value.Value.TheVariants.{Null, Int, Real, Text, Blob}
use Rattle.table_schema.specs.sqlite_value.specs.declared.keys.Collation.TheVariants.{Binary}
use Rattle.table_schema.specs.sqlite_value.specs.Order.{Row, column, value_cmp}
use Rattle.table_schema.specs.sqlite_value.proofs.OrderLemmas.{value_cmp_total}
use Rattle.sqlite_trees.specs.declared.store.Shape.TheVariants.{Table}
use Rattle.sqlite_trees.specs.Tree.{IsTable, rowid, has_rowid, without_rowid}
use Rattle.sqlite_trees.specs.View.{IsShaped, is_int}
use Rattle.sqlite_trees.proofs.ListLemmas.{filter_same, filter_none, filter_all}
use Rattle.sqlite_trees.proofs.TreeLemmas.{not_true}
use Rattle.table_schema.specs.sqlite_schema.specs.Rules.{equal}
use Rattle.table_schema.specs.sqlite_rules.specs.Lists.{Has}
use Rattle.table_schema.specs.sqlite_rules.specs.Edit.{id_in, without_all, row_at}
use Rattle.table_schema.specs.sqlite_rules.proofs.ListLemmas.{all_has, all_from, some_has, some_from, has_contained, contains_had}
use Rattle.tenant_tables.proofs.RowFacts.{tied, equal_parts, equal_itself, one_row}

pub has_permuted : {X : Type 0} (xs ys : List X) (x : X) → IsPermutation xs ys → Has xs x → Has ys x
has_permuted xs ys x same there = has_contained ys x (Contains-permutation xs ys x same (contains_had xs x there))

pub has_mapped : {X Y : Type 0} (f : X → Y) (xs : List X) (x : X) → Has xs x → Has (map f xs) (f x)
has_mapped f [] x there = there
has_mapped f (y ∷ xs) x (inl same) = inl (ap f same)
has_mapped f (y ∷ xs) x (inr more) = inr (has_mapped f xs x more)

pub was_mapped : {X Y : Type 0} (f : X → Y) (xs : List X) (y : Y) → Has (map f xs) y → (x : X) × Has xs x × (y ≡ f x)
was_mapped f [] y there = absurd there
was_mapped f (x ∷ xs) y (inl same) = (x, inl refl, same)
was_mapped f (x ∷ xs) y (inr more) = let it = was_mapped f xs y more in (it.0, inr it.1, it.2)

filter_both : (p q : Row → Bool) (rows : List Row) → filter (λ r. not (p r)) (filter (λ r. not (q r)) rows) ≡ filter (λ r. not (q r || p r)) rows
filter_both p q [] = refl
filter_both p q (r ∷ rows) = go (p r) (q r) refl (filter_both p q rows)
  where
    go : (a b : Bool) → p r ≡ a → filter (λ x. not (p x)) (filter (λ x. not (q x)) rows) ≡ filter (λ x. not (q x || p x)) rows
        → filter (λ x. not (p x)) (cond (not b) (r ∷ filter (λ x. not (q x)) rows) (filter (λ x. not (q x)) rows)) ≡ cond (not (b || a)) (r ∷ filter (λ x. not (q x || p x)) rows) (filter (λ x. not (q x || p x)) rows)
    go a true e more = more
    go true false e more = rw (e, more)
    go false false e more = rw (e, more)

without_all_is : (ids : List ℤ) (rows : List Row) → without_all rows ids ≡ filter (λ r. not (list_any (λ id. has_rowid id r) ids)) rows
without_all_is [] rows = sym (filter_all _ rows (all_from _ rows (λ r there. refl)))
without_all_is (id ∷ ids) rows = without_all_is ids (without_rowid id rows) ∙ filter_both (λ r. list_any (λ id. has_rowid id r) ids) (has_rowid id) rows

-- a value that is an integer is the one that is read from it
pub numbered : (v : Value) → is_int v ≡ true → v ≡ Int (id_in v)
numbered Null h = absurd (true≢false (sym h))
numbered (Int n) h = refl
numbered (Real x) h = absurd (true≢false (sym h))
numbered (Text t) h = absurd (true≢false (sym h))
numbered (Blob b) h = absurd (true≢false (sym h))

pub own_rowid : (rows : List Row) (r : Row) → IsShaped Table rows → Has rows r → rowid r ≡ Int (id_in (rowid r))
own_rowid rows r up there = numbered (rowid r) (all_has (λ x. IsTrue (is_int (rowid x))) rows r up.1 there)

same_bool : (a b : Bool) → (a ≡ true → b ≡ true) → (b ≡ true → a ≡ true) → a ≡ b
same_bool true b there back = sym (there refl)
same_bool false true there back = back refl
same_bool false false there back = refl

-- the rowids that are taken out are those of the rows that pass
pub taken_out : (rows : List Row) (p : Row → Bool) (ids : List ℤ) → IsShaped Table rows
    → ((r : Row) → Has rows r → p r ≡ true → Has ids (id_in (rowid r))) → ((id : ℤ) → Has ids id → (r : Row) × Has rows r × (p r ≡ true) × (rowid r ≡ Int id))
    → without_all rows ids ≡ filter (λ r. not (p r)) rows
taken_out rows p ids up complete sound =
    without_all_is ids rows
    ∙ filter_same (λ r. not (list_any (λ id. has_rowid id r) ids)) (λ r. not (p r)) rows (all_from _ rows (λ r there. ap not (same_bool (list_any (λ id. has_rowid id r) ids) (p r)
    (λ taken.
    let at = some_has (λ id. has_rowid id r) ids taken in
    let it = sound at.0 at.1 in
    let one : r ≡ it.0 = one_row rows r it.0 up.0 there it.1 (subst (λ v. value_cmp (rowid r) v ≡ Equal) (sym it.3) (tied _ at.2)) in
    subst (λ x. p x ≡ true) (sym one) it.2)
    (λ passes. some_from (λ id. has_rowid id r) ids (id_in (rowid r)) (complete r there passes)
    (subst (λ v. is_eq (value_cmp v (Int (id_in (rowid r)))) ≡ true) (sym (own_rowid rows r up there)) (ap is_eq (tied_itself value_cmp_total (Int (id_in (rowid r))))))))))

-- ---- the one row with a number

pub only_row : (rows : List Row) (row : Row) (id : ℤ) → IsTable rows → Has rows row → column row 0 ≡ Int id → filter (λ r. equal Binary (column r 0) (Int id)) rows ≡ row ∷ []
only_row [] row id up there is = absurd there
only_row (r ∷ rows) row id up (inl same) is =
    let mine : equal Binary (column r 0) (Int id) ≡ true = subst (λ x. equal Binary (column x 0) (Int id) ≡ true) same (subst (λ v. equal Binary v (Int id) ≡ true) (sym is) (equal_itself id)) in
    let others : filter (λ x. equal Binary (column x 0) (Int id)) rows ≡ [] = filter_none _ rows (all_from _ rows (λ x more. not_true _ (λ equals.
    let less = all_has (λ y. value_cmp (rowid r) (rowid y) ≡ Less) rows x up.0 more in
    let tie = tied_back value_cmp_total (column x 0) (Int id) (equal_parts (column x 0) (Int id) equals).1 in
    let e : Less ≡ Equal = sym less ∙ subst (λ v. value_cmp v (column x 0) ≡ Equal) (sym (ap (λ y. column y 0) (sym same) ∙ is)) tie in
    cc))) in
    rw (mine, others) (ap (λ x. x ∷ []) (sym same))
only_row (r ∷ rows) row id up (inr more) is =
    let less = subst (λ v. value_cmp (rowid r) v ≡ Less) is (all_has (λ y. value_cmp (rowid r) (rowid y) ≡ Less) rows row up.0 more) in
    let other : equal Binary (column r 0) (Int id) ≡ false = not_true _ (λ equals. let e = sym less ∙ (equal_parts (column r 0) (Int id) equals).1 in absurd cc) in
    rw other (only_row rows row id up.1 more is)

-- the row with the rowid is found by it
pub row_there : (rows : List Row) (row : Row) (id : ℤ) → IsTable rows → Has rows row → column row 0 ≡ Int id → row_at rows id ≡ row
row_there [] row id up there is = absurd there
row_there (r ∷ rows) row id up (inl same) is =
    let mine : has_rowid id r ≡ true = subst (λ x. has_rowid id x ≡ true) same (subst (λ v. is_eq (value_cmp v (Int id)) ≡ true) (sym is) (ap is_eq (tied_itself value_cmp_total (Int id)))) in rw mine (sym same)
row_there (r ∷ rows) row id up (inr more) is =
    let less = subst (λ v. value_cmp (rowid r) v ≡ Less) is (all_has (λ y. value_cmp (rowid r) (rowid y) ≡ Less) rows row up.0 more) in
    let other : has_rowid id r ≡ false = rw less refl in
    rw other (row_there rows row id up.1 more is)
