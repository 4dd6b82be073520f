-- Rows that have numbers as keys, and are in their order.
use Rattle.std.proofs.Common.{◌≡◌, ℕ, ℤ, pos, ◌<◌, ◌≤◌, ◌==◌, ◌||◌, List, [], ◌∷◌, map, filter, Bool, true, false, not, nat_le, nat_lt, if◌then◌else◌, arith, refl, sym, ap, subst, ◌∙◌, ◌<ℤ◌}
use Rattle.std.specs.Cmp.{int_ranks}
use Rattle.std.specs.List.{list_any}
use Rattle.std.specs.List.Sorted.{IsPermutation}
use Rattle.std.specs.Ordering.{MatchOrdering}
use Rattle.std.proofs.lemmas.Bool.Decides.{nat_tests}
use Rattle.std.proofs.lemmas.List.Sorted.{IsPermutation-cons, IsPermutation-middle, IsPermutation-refl, IsPermutation-trans}
use Rattle.table_schema.specs.sqlite_value.specs.declared.value.Value.TheVariants.{Int}
use Rattle.table_schema.specs.sqlite_value.specs.declared.keys.Collation.TheVariants.{Binary}
use Rattle.table_schema.specs.sqlite_value.specs.Order.{Row, column}
use Rattle.table_schema.specs.sqlite_value.proofs.OrderLemmas.{value_cmp-Int}
use Rattle.table_schema.specs.sqlite_schema.specs.Rules.{equal}
use Rattle.sqlite_trees.proofs.TreeLemmas.{not_true}
use Rattle.tenant_state.specs.Ordered.{is_ascending, with_element, without}
use Rattle.tenant_tables.proofs.RowFacts.{equal_itself, equal_parts}
use Rattle.tenant_tables.specs.Change.{without_key}
use Rattle.tenant_tables.proofs.Reading.{first, second}

pub other_int : (m n : ℤ) → (m ≡ n → ⊥) → equal Binary (Int m) (Int n) ≡ false
other_int m n apart =
    not_true _ (λ same. apart (subst (λ o. MatchOrdering o (m <ℤ n) (m ≡ n) (n <ℤ m)) (sym (value_cmp-Int m n) ∙ (equal_parts (Int m) (Int n) same).1) (int_ranks m n)))

pub other_number : (m n : ℕ) → (m ≡ n → ⊥) → equal Binary (Int (pos m)) (Int (pos n)) ≡ false
other_number m n apart = other_int (pos m) (pos n) (λ same. apart cc)

pub stays : (p : Row → Bool) (row : Row) (rows : List Row) → p row ≡ true → filter p (row ∷ rows) ≡ row ∷ filter p rows
stays p row rows passes = rw passes

pub goes : (p : Row → Bool) (row : Row) (rows : List Row) → p row ≡ false → filter p (row ∷ rows) ≡ filter p rows
goes p row rows fails = rw fails

pub swap : (a b : Row) (rows : List Row) → IsPermutation (a ∷ b ∷ rows) (b ∷ a ∷ rows)
swap a b rows = IsPermutation-middle (a ∷ []) b rows

pub equals : (m n : ℕ) → (m == n) ≡ true → m ≡ n
equals m n h = grind (arith, nat_tests)

pub differs : (m n : ℕ) → (m == n) ≡ false → m ≡ n → ⊥
differs m n h = grind (arith, nat_tests)

pub at_least : (m n : ℕ) → nat_le m n ≡ true → m ≤ n
at_least m n h = grind (arith, nat_tests)

pub above : (m n : ℕ) → nat_le m n ≡ false → n < m
above m n h = grind (arith, nat_tests)

pub below : (m n : ℕ) → nat_lt m n ≡ true → m < n
below m n h = grind (arith, nat_tests)

module _ {A : Type 0} (number : A → ℕ) (g : A → Row) (keyed : (x : A) → column (g x) 0 ≡ Int (pos (number x))) where
  abbrev pub lower : A → A → Bool
  lower x y = nat_lt (number x) (number y)

  abbrev pub other : ℕ → Row → Bool
  other n row = not (equal Binary (column row 0) (Int (pos n)))

  pub is_other : (n : ℕ) (x : A) → (number x ≡ n → ⊥) → other n (g x) ≡ true
  is_other n x apart = ap not (ap (λ v. equal Binary v (Int (pos n))) (keyed x) ∙ other_number (number x) n apart)

  pub is_own : (n : ℕ) (x : A) → number x ≡ n → other n (g x) ≡ false
  is_own n x same = ap not (ap (λ v. equal Binary v (Int (pos n))) (keyed x ∙ ap (λ k. Int (pos k)) same) ∙ equal_itself (pos n))

  -- what follows a number is above it
  pub all_above : (n : ℕ) (x : A) (xs : List A) → n ≤ number x → is_ascending lower (x ∷ xs) ≡ true → without_key (pos n) (map g xs) ≡ map g xs
  all_above n x [] low up = refl
  all_above n x (y ∷ ys) low up =
      let next : number x < number y = below (number x) (number y) (first (nat_lt (number x) (number y)) (is_ascending lower (y ∷ ys)) up) in
      stays (other n) (g y) (map g ys) (is_other n y (λ same. absurd (omega (arith, low, next, same))))
      ∙ ap (λ l. g y ∷ l) (all_above n y ys (omega (arith, low, next)) (second (nat_lt (number x) (number y)) (is_ascending lower (y ∷ ys)) up))

  pub tail_up : (x : A) (xs : List A) → is_ascending lower (x ∷ xs) ≡ true → is_ascending lower xs ≡ true
  tail_up x [] up = refl
  tail_up x (y ∷ ys) up = second (nat_lt (number x) (number y)) (is_ascending lower (y ∷ ys)) up

  -- an element in place of the one with its number
  pub put : (new : A) (xs : List A) → is_ascending lower xs ≡ true → IsPermutation (g new ∷ without_key (pos (number new)) (map g xs)) (map g (with_element number new xs))
  put new [] up = IsPermutation-refl _
  put new (x ∷ xs) up = placed (nat_le (number new) (number x)) refl (number x == number new) refl (put new xs (tail_up x xs up))
    where
      placed : (b : Bool) → nat_le (number new) (number x) ≡ b → (c : Bool) → (number x == number new) ≡ c
          → IsPermutation (g new ∷ without_key (pos (number new)) (map g xs)) (map g (with_element number new xs))
          → IsPermutation (g new ∷ without_key (pos (number new)) (map g (x ∷ xs))) (map g (if b then (if c then new ∷ xs else new ∷ x ∷ xs) else x ∷ with_element number new xs))
      placed true low true same later =
          subst (λ l. IsPermutation (g new ∷ l) (map g (new ∷ xs)))
          (sym (goes (other (number new)) (g x) (map g xs) (is_own (number new) x (equals (number x) (number new) same)) ∙ all_above (number new) x xs (at_least (number new) (number x) low) up))
          (IsPermutation-refl _)
      placed true low false apart later =
          subst (λ l. IsPermutation (g new ∷ l) (map g (new ∷ x ∷ xs)))
          (sym (stays (other (number new)) (g x) (map g xs) (is_other (number new) x (differs (number x) (number new) apart)) ∙ ap (λ l. g x ∷ l) (all_above (number new) x xs (at_least (number new) (number x) low) up)))
          (IsPermutation-refl _)
      placed false high c same later =
          let less = above (number new) (number x) high in
          subst (λ l. IsPermutation (g new ∷ l) (map g (x ∷ with_element number new xs)))
          (sym (stays (other (number new)) (g x) (map g xs) (is_other (number new) x (λ equal. absurd (omega (arith, less, equal))))))
          (IsPermutation-trans _ _ _ (swap (g new) (g x) (without_key (pos (number new)) (map g xs))) (IsPermutation-cons (g x) _ _ later))

  -- without the element that has a number
  pub taken : (n : ℕ) (xs : List A) → is_ascending lower xs ≡ true → without_key (pos n) (map g xs) ≡ map g (without number n xs)
  taken n [] up = refl
  taken n (x ∷ xs) up = left (number x == n) refl (taken n xs (tail_up x xs up))
    where
      left : (b : Bool) → (number x == n) ≡ b → without_key (pos n) (map g xs) ≡ map g (without number n xs)
          → without_key (pos n) (map g (x ∷ xs)) ≡ map g (if b then xs else x ∷ without number n xs)
      left true same later =
          let is = equals (number x) n same in
          goes (other n) (g x) (map g xs) (is_own n x is) ∙ all_above n x xs (omega (arith, is)) up
      left false apart later = stays (other n) (g x) (map g xs) (is_other n x (differs (number x) n apart)) ∙ ap (λ l. g x ∷ l) later

  -- no element has the number
  pub none_taken : (t : A → Bool) (n : ℕ) → ((x : A) → t x ≡ false → number x ≡ n → ⊥) → (xs : List A) → list_any t xs ≡ false → without_key (pos n) (map g xs) ≡ map g xs
  none_taken t n apart [] none = refl
  none_taken t n apart (x ∷ xs) none =
      let are = neither (t x) (list_any t xs) none in
      stays (other n) (g x) (map g xs) (is_other n x (apart x are.0)) ∙ ap (λ l. g x ∷ l) (none_taken t n apart xs are.1)
    where
      neither : (a b : Bool) → (a || b) ≡ false → (a ≡ false) × (b ≡ false)
      neither true b h = cc
      neither false b h = (refl, h)
