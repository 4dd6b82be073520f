-- How the rows of pools come into the new table.
use Rattle.std.proofs.Common.{◌≡◌, ℕ, zero, suc, ℤ, ◌+◌, pos, List, [], ◌∷◌, ◌++◌, map, filter, drop, Bool, true, false, not, ◌&&◌, None, refl, sym, ap, ap₂, subst, ◌∙◌, true≢false, append-nil}
use Rattle.std.proofs.Math.Seq.{drop-drop}
use Rattle.std.specs.List.{AllByRecursion}
use Rattle.std.specs.List.Sorted.{IsPermutation}
use Rattle.std.proofs.lemmas.List.Sorted.{IsPermutation-refl, IsPermutation-map, IsPermutation-trans, IsPermutation-sym, IsPermutation-cons, IsPermutation-middle, All-permutation}
use Rattle.std.proofs.lemmas.List.Elements.{recursion_from_All, All-from_recursion}
use Rattle.table_schema.specs.sqlite_value.specs.declared.value.Value.{Value}
use Rattle.table_schema.specs.sqlite_value.specs.declared.value.Value.TheVariants.{Null, Int, Real, Text as Words, Blob}
use Rattle.table_schema.specs.sqlite_value.specs.Order.{Row, column}
use Rattle.sqlite_trees.specs.Tree.{put_row, rowid}
use Rattle.table_schema.specs.sqlite_keyed.proofs.ListLemmas.{all_map}
use Rattle.table_schema.specs.sqlite_sql.specs.Ops.{is_null}
use Rattle.table_schema.specs.sqlite_schema.specs.declared.schema.Column.{Column}
use Rattle.table_schema.specs.sqlite_schema.specs.Rules.{is_of, suits, are_typed}
use Rattle.table_schema.specs.sqlite_rules.specs.Cast.{cast, cast_row}
use Rattle.table_schema.specs.sqlite_rules.specs.Edit.{is_taken, are_fresh, put_all, numbered, next_rowid, with_rowid}
use Rattle.table_schema.specs.sqlite_rules.specs.declared.error.Rowids.TheVariants.{Chosen}
use Rattle.sqlite.specs.Kind.{Kind}
use Rattle.sqlite.specs.Kind.TheVariants.{Integer, Text}
use Rattle.table_schema.specs.Layout.{placed, first_pools_table, pools_table}
use Rattle.table_schema.specs.Holds.{values_from}
use Rattle.tenant_tables.proofs.RowFacts.{perm_put}
use Rattle.tenant_tables.proofs.Inserting.{cast_null, cast_int}

-- ---- rows that are put in

all_pass : (rows : List Row) → filter (λ _. true) rows ≡ rows
all_pass [] = refl
all_pass (r ∷ rows) = ap (λ l. r ∷ l) (all_pass rows)

put_one : (new : Row) (rows : List Row) → is_taken rows new ≡ false → IsPermutation (put_row new rows) (new ∷ rows)
put_one new rows free =
    subst (λ l. IsPermutation l (new ∷ rows)) (all_pass (put_row new rows)) (subst (λ l. IsPermutation (filter (λ _. true) (put_row new rows)) (new ∷ l)) (all_pass rows) (perm_put (λ _. true) new rows free refl))

behind : (front a b : List Row) → IsPermutation a b → IsPermutation (front ++ a) (front ++ b)
behind [] a b same = same
behind (r ∷ front) a b same = IsPermutation-cons r _ _ (behind front a b same)

fresh_one : (b c : Bool) → (not b && c) ≡ true → (b ≡ false) × (c ≡ true)
fresh_one true c h = absurd (true≢false (sym h))
fresh_one false c h = (refl, h)

pub put_permutes : (rows news : List Row) → are_fresh rows news ≡ true → IsPermutation (put_all rows news) (news ++ rows)
put_permutes rows [] fresh = IsPermutation-refl rows
put_permutes rows (r ∷ news) fresh =
    let parts = fresh_one (is_taken rows r) (are_fresh (put_row r rows) news) fresh in
    IsPermutation-trans _ _ _ (put_permutes (put_row r rows) news parts.1) (IsPermutation-trans _ _ _ (behind news (put_row r rows) (r ∷ rows) (put_one r rows parts.0)) (IsPermutation-middle news r rows))

-- ---- values of the type of their column stay as they are

pub cast_integer : (v : Value) → is_of Integer v ≡ true → cast Integer v ≡ v
cast_integer Null h = cast_null
cast_integer (Int n) h = cast_int n
cast_integer (Real x) h = absurd (true≢false (sym h))
cast_integer (Words t) h = absurd (true≢false (sym h))
cast_integer (Blob b) h = absurd (true≢false (sym h))

pub cast_text : (v : Value) → is_of Text v ≡ true → cast Text v ≡ v
cast_text Null h = refl
cast_text (Int n) h = absurd (true≢false (sym h))
cast_text (Real x) h = absurd (true≢false (sym h))
cast_text (Words t) h = refl
cast_text (Blob b) h = absurd (true≢false (sym h))

-- each value from a place on is of the type of its column, where the table is STRICT
abbrev pub TypedFrom : ℕ → List Column → Row → Type 0
TypedFrom n [] row = Unit {0}
TypedFrom n (c ∷ cs) row = (c.is_strict ≡ true → is_of c.kind (column row n) ≡ true) × TypedFrom (n + 1) cs row

both_parts : (b c : Bool) → (b && c) ≡ true → (b ≡ true) × (c ≡ true)
both_parts true c h = (refl, h)
both_parts false c h = absurd (true≢false (sym h))

first_of_rest : (n : ℕ) (row : Row) → column (drop n row) 0 ≡ column row n
first_of_rest n [] = go n
  where
    go : (n : ℕ) → column (drop n []) 0 ≡ column [] n
    go zero = refl
    go (suc n) = refl
first_of_rest zero (v ∷ row) = refl
first_of_rest (suc n) (v ∷ row) = first_of_rest n row

strict_suits : (c : Column) (v : Value) → c.is_strict ≡ true → suits c v ≡ true → is_of c.kind v ≡ true
strict_suits c v strict h = rw strict at h

pub typed_from : (cs : List Column) (at n : ℕ) (row : Row) → are_typed None at cs (drop n row) ≡ true → TypedFrom n cs row
typed_from [] at n row h = tt
typed_from (c ∷ cs) at n row h =
    go (drop n row) refl h (λ vs is more. typed_from cs (at + 1) (n + 1) row (subst (λ l. are_typed None (at + 1) cs l ≡ true) (ap (drop 1) (sym is) ∙ drop-drop 1 n row) more))
  where
    go : (vs : Row) → drop n row ≡ vs → are_typed None at (c ∷ cs) vs ≡ true → ((vs : Row) → drop n row ≡ vs → are_typed None (at + 1) cs (drop 1 vs) ≡ true → TypedFrom (n + 1) cs row)
        → (c.is_strict ≡ true → is_of c.kind (column row n) ≡ true) × TypedFrom (n + 1) cs row
    go [] is h rest = (λ strict. subst (λ v. is_of c.kind v ≡ true) (ap (λ vs. column vs 0) (sym is) ∙ first_of_rest n row) refl, rest [] is (both_parts (is_null c.default) (are_typed None (at + 1) cs []) h).1)
    go (v ∷ vs) is h rest =
        let parts = both_parts (suits c v) (are_typed None (at + 1) cs vs) h in
        (λ strict. subst (λ w. is_of c.kind w ≡ true) (ap (λ vs. column vs 0) (sym is) ∙ first_of_rest n row) (strict_suits c v strict parts.0), rest (v ∷ vs) is parts.1)

-- ---- a row of pools as it is copied

abbrev pub copied_row : Row → Row
copied_row r = Null ∷ column r 1 ∷ column r 2 ∷ column r 3 ∷ column r 4 ∷ column r 5 ∷ column r 6 ∷ column r 7 ∷ column r 8 ∷ column r 9 ∷ Int (pos 0) ∷ []

abbrev pub shown : Row → Row
shown = values_from 1 pools_table.columns

abbrev pub new_table : Rattle.sqlite.specs.Table.Table
new_table = placed 13 pools_table

-- the row gets a rowid, and its values are unchanged
pub record IsCopy (s : Row) : Type 0 where
  pub blank : is_null (rowid (cast_row new_table s)) ≡ true
  pub shows : (n : ℤ) → shown (Int n ∷ drop 1 (cast_row new_table s)) ≡ shown s

pub is_copy : (r : Row) → are_typed None 0 first_pools_table.columns (drop 1 r) ≡ true → IsCopy (copied_row r)
is_copy r typed =
    let t = typed_from first_pools_table.columns 0 1 r typed in
    record {
      blank = ap is_null cast_null;
      shows = λ n. rw (
        cast_integer (column r 1) (t.0 refl),
        cast_integer (column r 2) (t.1.0 refl),
        cast_text (column r 3) (t.1.1.0 refl),
        cast_integer (column r 4) (t.1.1.1.0 refl),
        cast_integer (column r 5) (t.1.1.1.1.0 refl),
        cast_integer (column r 6) (t.1.1.1.1.1.0 refl),
        cast_integer (column r 7) (t.1.1.1.1.1.1.0 refl),
        cast_integer (column r 8) (t.1.1.1.1.1.1.1.0 refl),
        cast_integer (column r 9) (t.1.1.1.1.1.1.1.1.0 refl),
        cast_int (pos 0),
      );
    }

pub numbered_shown : (rows sources : List Row) → AllByRecursion IsCopy sources → map shown (numbered Chosen rows (map (λ s. cast_row new_table (drop 0 s)) sources)) ≡ map shown sources
numbered_shown rows [] all = refl
numbered_shown rows (s ∷ sources) all =
    let it = cast_row new_table s in
    let one : with_rowid Chosen rows it ≡ Int (next_rowid rows) ∷ drop 1 it = rw all.0.blank refl in
    ap₂ ◌∷◌ (ap shown one ∙ all.0.shows (next_rowid rows)) (numbered_shown (put_row (with_rowid Chosen rows it) rows) sources all.1)

-- what the new table has in the end
pub copies : (olds rows into : List Row) (table : List Row) → AllByRecursion (λ r. are_typed None 0 first_pools_table.columns (drop 1 r) ≡ true) olds → IsPermutation (map copied_row olds) rows → table ≡ []
    → are_fresh table (numbered Chosen table (map (λ s. cast_row new_table (drop 0 s)) rows)) ≡ true → into ≡ put_all table (numbered Chosen table (map (λ s. cast_row new_table (drop 0 s)) rows))
    → IsPermutation (map shown into) (map (λ r. shown (copied_row r)) olds)
copies olds rows into table typed same none fresh is =
    let news = numbered Chosen table (map (λ s. cast_row new_table (drop 0 s)) rows) in
    let copy : AllByRecursion IsCopy (map copied_row olds) = all_map IsCopy copied_row olds (all_copy olds typed) in
    let all : AllByRecursion IsCopy rows = recursion_from_All IsCopy rows (All-permutation IsCopy (map copied_row olds) rows same (All-from_recursion IsCopy (map copied_row olds) copy)) in
    let put : IsPermutation into news = subst (λ l. IsPermutation l news) (sym is) (subst (IsPermutation (put_all table news)) (ap (λ t. news ++ t) none ∙ append-nil news) (put_permutes table news fresh)) in
    let there : IsPermutation (map shown into) (map shown rows) = subst (IsPermutation (map shown into)) (numbered_shown table rows all) (IsPermutation-map shown into news put) in
    IsPermutation-trans _ _ _ there (subst (IsPermutation (map shown rows)) (shown_copies olds) (IsPermutation-sym _ _ (IsPermutation-map shown (map copied_row olds) rows same)))
  where
    all_copy : (olds : List Row) → AllByRecursion (λ r. are_typed None 0 first_pools_table.columns (drop 1 r) ≡ true) olds → AllByRecursion (λ r. IsCopy (copied_row r)) olds
    all_copy [] all = tt
    all_copy (r ∷ olds) all = (is_copy r all.0, all_copy olds all.1)

    shown_copies : (olds : List Row) → map shown (map copied_row olds) ≡ map (λ r. shown (copied_row r)) olds
    shown_copies [] = refl
    shown_copies (r ∷ olds) = ap (λ l. shown (copied_row r) ∷ l) (shown_copies olds)
