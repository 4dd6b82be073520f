-- Rows that are put into a table and taken out of it, and SQL's equality.
use Rattle.std.proofs.Common.{◌≡◌, ◌≢◌, inl, inr, ℕ, ℤ, List, [], ◌∷◌, filter, Bool, true, false, cond, not, ◌||◌, Some, refl, sym, ap, subst, ◌∙◌, arith, true≢false, Ordering, Less, Equal, Greater, is_eq, bytes_eq}
use Rattle.std.specs.List.{list_any}
use Rattle.std.specs.List.Sorted.{IsPermutation}
use Rattle.std.specs.Ordering.{match_ordering}
use Rattle.std.specs.Cmp.Lexicographic.{same_text}
use Rattle.std.proofs.lemmas.Bool.{or_parts, eq-eqb}
use Rattle.std.proofs.lemmas.Cmp.{tied_itself, tied_back}
use Rattle.std.proofs.lemmas.Map.Text.{is_eq-slice_cmp}
use Rattle.std.proofs.lemmas.List.Sorted.{IsPermutation-refl, IsPermutation-cons, IsPermutation-trans, IsPermutation-middle}
use Rattle.table_schema.specs.sqlite_value.specs.declared.value.Value.{Value}
use Rattle.table_schema.specs.sqlite_value.specs.declared.value.Value.TheVariants.{Null, Int, Real, Text as Words, Blob}
use Rattle.table_schema.specs.sqlite_value.specs.declared.keys.Collation.TheVariants.{Binary}
use Rattle.table_schema.specs.sqlite_value.specs.Order.{Row, value_cmp}
use Rattle.table_schema.specs.sqlite_value.proofs.OrderLemmas.{value_cmp_total, value_cmp-Text, value_cmp-apart}
use Rattle.sqlite_trees.specs.Tree.{IsTable, put_row, rowid, has_rowid, without_rowid}
use Rattle.sqlite_trees.proofs.TreeLemmas.{not_true}
use Rattle.table_schema.specs.sqlite_sql.specs.Ops.{binary, is_null, is_true, from_truth}
use Rattle.table_schema.specs.sqlite_schema.specs.Rules.{equal}
use Rattle.table_schema.specs.sqlite_rules.specs.Lists.{Has}
use Rattle.table_schema.specs.sqlite_rules.specs.Edit.{is_taken}
use Rattle.table_schema.specs.sqlite_rules.proofs.ListLemmas.{all_has}

-- ---- equality of SQL

truth_is : (b : Bool) → is_true (from_truth (Some b)) ≡ b
truth_is true = refl
truth_is false = refl

pub tied : (o : Ordering) → is_eq o ≡ true → o ≡ Equal
tied Less h = absurd (true≢false (sym h))
tied Equal h = refl
tied Greater h = absurd (true≢false (sym h))

pub equal_words : (a b : List ℕ) → equal Binary (Words a) (Words b) ≡ bytes_eq a b
unfolding binary
equal_words a b = truth_is (is_eq (value_cmp (Words a) (Words b))) ∙ ap is_eq (value_cmp-Text a b) ∙ is_eq-slice_cmp a b

pub equal_ints : (m n : ℤ) → equal Binary (Int m) (Int n) ≡ is_eq (value_cmp (Int m) (Int n))
unfolding binary
equal_ints m n = truth_is (is_eq (value_cmp (Int m) (Int n)))

pub equal_itself : (n : ℤ) → equal Binary (Int n) (Int n) ≡ true
equal_itself n = equal_ints n n ∙ ap is_eq (tied_itself value_cmp_total (Int n))

parts_of : (null other test : Bool) → is_true (cond (null || other) Null (from_truth (Some test))) ≡ true → (null ≡ false) × (test ≡ true)
parts_of true other test h = absurd (true≢false (sym h))
parts_of false true test h = absurd (true≢false (sym h))
parts_of false false test h = (refl, sym (truth_is test) ∙ h)

pub equal_parts : (a b : Value) → equal Binary a b ≡ true → (is_null a ≡ false) × (value_cmp a b ≡ Equal)
unfolding binary
equal_parts a b h = let parts = parts_of (is_null a) (is_null b) (is_eq (value_cmp a b)) h in (parts.0, tied _ parts.1)

pub itself : (a : List ℕ) → bytes_eq a a ≡ true
itself [] = refl
itself (x ∷ xs) = rw (eq-eqb x x refl, itself xs)

pub apart : (a b : List ℕ) → b ≢ a → bytes_eq a b ≡ false
apart a b other = not_true _ (λ h. other (sym (same_text a b (sym h))))

-- a value that equals the text is that text
pub words_of : (v : Value) (t : List ℕ) → equal Binary v (Words t) ≡ true → v ≡ Words t
words_of Null t h = absurd (true≢false (equal_parts Null (Words t) h).0)
words_of (Int n) t h = let e = sym (value_cmp-apart (Int n) (Words t) (λ e. absurd (omega (arith, e)))) ∙ (equal_parts (Int n) (Words t) h).1 in absurd cc
words_of (Real x) t h = let e = sym (value_cmp-apart (Real x) (Words t) (λ e. absurd (omega (arith, e)))) ∙ (equal_parts (Real x) (Words t) h).1 in absurd cc
words_of (Words s) t h = ap Words (same_text s t (sym (sym (equal_words s t) ∙ h)))
words_of (Blob b) t h = let e = sym (value_cmp-apart (Blob b) (Words t) (λ e. absurd (omega (arith, e)))) ∙ (equal_parts (Blob b) (Words t) h).1 in absurd cc

-- two texts that equal one value are the same
pub same_words : (v : Value) (a b : List ℕ) → equal Binary v (Words a) ≡ true → equal Binary v (Words b) ≡ true → a ≡ b
same_words v a b p q = let e = sym (words_of v a p) ∙ words_of v b q in cc

-- ---- a row that is put in

module _ (p : Row → Bool) (new : Row) where
  -- it is not among the rows that do not pass
  pub filter_put : (rows : List Row) → is_taken rows new ≡ false → p new ≡ false → filter p (put_row new rows) ≡ filter p rows
  filter_put [] free out = rw out
  filter_put (r ∷ rows) free out = go (value_cmp (rowid r) (rowid new)) (or_parts _ _ free).0 (filter_put rows (or_parts _ _ free).1 out)
    where
      go : (o : Ordering) → is_eq o ≡ false → filter p (put_row new rows) ≡ filter p rows → filter p (match_ordering o (r ∷ put_row new rows) (new ∷ rows) (new ∷ r ∷ rows)) ≡ filter p (r ∷ rows)
      go Less other more = ap (λ l. cond (p r) (r ∷ l) l) more
      go Equal other more = absurd (true≢false other)
      go Greater other more = rw out

  dropped : (r : Row) (rows : List Row) → filter p (r ∷ rows) ≡ [] → (p r ≡ false) × (filter p rows ≡ [])
  dropped r rows none = go (p r) none
    where
      go : (b : Bool) → cond b (r ∷ filter p rows) (filter p rows) ≡ [] → (b ≡ false) × (filter p rows ≡ [])
      go true h = absurd cc
      go false h = (refl, h)

  -- it is alone among those that pass, where there was none
  pub filter_put_one : (rows : List Row) → is_taken rows new ≡ false → p new ≡ true → filter p rows ≡ [] → filter p (put_row new rows) ≡ new ∷ []
  filter_put_one [] free in_it none = rw in_it
  filter_put_one (r ∷ rows) free in_it none =
      let parts = dropped r rows none in go (value_cmp (rowid r) (rowid new)) (or_parts _ _ free).0 parts (filter_put_one rows (or_parts _ _ free).1 in_it parts.1)
    where
      go : (o : Ordering) → is_eq o ≡ false → (p r ≡ false) × (filter p rows ≡ []) → filter p (put_row new rows) ≡ new ∷ [] → filter p (match_ordering o (r ∷ put_row new rows) (new ∷ rows) (new ∷ r ∷ rows)) ≡ new ∷ []
      go Less other parts more = rw parts.0 more
      go Equal other parts more = absurd (true≢false other)
      go Greater other parts more = rw (in_it, parts.0, parts.1)

  -- it is somewhere among those that pass
  pub perm_put : (rows : List Row) → is_taken rows new ≡ false → p new ≡ true → IsPermutation (filter p (put_row new rows)) (new ∷ filter p rows)
  perm_put [] free in_it = rw in_it (IsPermutation-refl _)
  perm_put (r ∷ rows) free in_it = go (value_cmp (rowid r) (rowid new)) (p r) (or_parts _ _ free).0 refl (perm_put rows (or_parts _ _ free).1 in_it)
    where
      go : (o : Ordering) (b : Bool) → is_eq o ≡ false → p r ≡ b → IsPermutation (filter p (put_row new rows)) (new ∷ filter p rows)
          → IsPermutation (filter p (match_ordering o (r ∷ put_row new rows) (new ∷ rows) (new ∷ r ∷ rows))) (new ∷ filter p (r ∷ rows))
      go Less true other e more = rw e (IsPermutation-trans _ _ _ (IsPermutation-cons r _ _ more) (IsPermutation-middle (r ∷ []) new (filter p rows)))
      go Less false other e more = rw e more
      go Equal b other e more = absurd (true≢false other)
      go Greater b other e more = rw in_it (IsPermutation-refl _)

-- ---- rows that are taken out

-- the rowid of a row that was taken out is free
pub none_there : (id : ℤ) (rows : List Row) → list_any (has_rowid id) (without_rowid id rows) ≡ false
none_there id [] = refl
none_there id (r ∷ rows) = go (has_rowid id r) refl (none_there id rows)
  where
    go : (b : Bool) → has_rowid id r ≡ b → list_any (has_rowid id) (without_rowid id rows) ≡ false → list_any (has_rowid id) (cond (not b) (r ∷ without_rowid id rows) (without_rowid id rows)) ≡ false
    go true e more = more
    go false e more = rw (e, more)

pub filter_swap : (p q : Row → Bool) (rows : List Row) → filter p (filter q rows) ≡ filter q (filter p rows)
filter_swap p q [] = refl
filter_swap p q (r ∷ rows) = go (p r) (q r) refl refl (filter_swap p q rows)
  where
    go : (a b : Bool) → p r ≡ a → q r ≡ b → filter p (filter q rows) ≡ filter q (filter p rows) → filter p (cond b (r ∷ filter q rows) (filter q rows)) ≡ filter q (cond a (r ∷ filter p rows) (filter p rows))
    go true true e f more = rw (e, f, more)
    go true false e f more = rw (f, more)
    go false true e f more = rw (e, more)
    go false false e f more = more

-- two rows with one rowid are the same
pub one_row : (rows : List Row) (a b : Row) → IsTable rows → Has rows a → Has rows b → value_cmp (rowid a) (rowid b) ≡ Equal → a ≡ b
one_row [] a b up ha hb same = absurd ha
one_row (r ∷ rows) a b up (inl p) (inl q) same = p ∙ sym q
one_row (r ∷ rows) a b up (inl p) (inr q) same =
    let less = all_has (λ x. value_cmp (rowid r) (rowid x) ≡ Less) rows b up.0 q in absurd (let e = sym less ∙ subst (λ x. value_cmp (rowid x) (rowid b) ≡ Equal) p same in cc)
one_row (r ∷ rows) a b up (inr p) (inl q) same =
    let less = all_has (λ x. value_cmp (rowid r) (rowid x) ≡ Less) rows a up.0 p in
    absurd (let e = sym less ∙ subst (λ x. value_cmp (rowid x) (rowid a) ≡ Equal) q (tied_back value_cmp_total (rowid a) (rowid b) same) in cc)
one_row (r ∷ rows) a b up (inr p) (inr q) same = one_row rows a b up.1 p q same
