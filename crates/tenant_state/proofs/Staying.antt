-- What stays true of a list in the order of numbers when an element is added, or removed.
use Rattle.std.proofs.Common.{◌≡◌, ℕ, ◌≤◌, suc, ◌==◌, ◌&&◌, List, [], ◌∷◌, length, Bool, true, false, nat_le, nat_lt, if◌then◌else◌, refl, arith}
use Rattle.std.proofs.lemmas.Bool.Decides.{nat_tests}
use Rattle.std.specs.List.{list_all}
use Rattle.tenant_state.specs.Ordered.{is_ascending, is_before_first, with_element, without}

pub both_true : (a b : Bool) → (a && b) ≡ true → (a ≡ true) × (b ≡ true)
both_true true b h = (refl, h)
both_true false b h = cc

-- ---- a test of each element

pub all_with : {A : Type 0} (t : A → Bool) (number : A → ℕ) (new : A) (xs : List A) → t new ≡ true → list_all t xs ≡ true → list_all t (with_element number new xs) ≡ true
all_with t number new [] h all = rw h refl
all_with t number new (x ∷ xs) h all =
    let are = both_true (t x) (list_all t xs) all in placed (nat_le (number new) (number x)) (number x == number new) are.0 are.1 (all_with t number new xs h are.1)
  where
    placed : (b c : Bool) → t x ≡ true → list_all t xs ≡ true → list_all t (with_element number new xs) ≡ true
        → list_all t (if b then (if c then new ∷ xs else new ∷ x ∷ xs) else x ∷ with_element number new xs) ≡ true
    placed true true one rest later = rw (h, rest) refl
    placed true false one rest later = rw (h, one, rest) refl
    placed false c one rest later = rw (one, later) refl

pub all_without : {A : Type 0} (t : A → Bool) (number : A → ℕ) (n : ℕ) (xs : List A) → list_all t xs ≡ true → list_all t (without number n xs) ≡ true
all_without t number n [] all = refl
all_without t number n (x ∷ xs) all =
    let are = both_true (t x) (list_all t xs) all in left (number x == n) are.0 are.1 (all_without t number n xs are.1)
  where
    left : (b : Bool) → t x ≡ true → list_all t xs ≡ true → list_all t (without number n xs) ≡ true → list_all t (if b then xs else x ∷ without number n xs) ≡ true
    left true one rest later = rest
    left false one rest later = rw (one, later) refl

-- ---- lengths

one_more : (n m : ℕ) → n ≤ suc m → suc n ≤ suc (suc m)
one_more n m h = omega (arith, h)

pub more_with : {A : Type 0} (number : A → ℕ) (new : A) (xs : List A) → length (with_element number new xs) ≤ suc (length xs)
more_with number new [] = omega arith
more_with number new (x ∷ xs) = placed (nat_le (number new) (number x)) (number x == number new) (more_with number new xs)
  where
    placed : (b c : Bool) → length (with_element number new xs) ≤ suc (length xs)
        → length (if b then (if c then new ∷ xs else new ∷ x ∷ xs) else x ∷ with_element number new xs) ≤ suc (suc (length xs))
    placed true true later = omega arith
    placed true false later = omega arith
    placed false c later = one_more (length (with_element number new xs)) (length xs) later

shorter : (n m : ℕ) → n ≤ m → suc n ≤ suc m
shorter n m h = omega (arith, h)

pub fewer_without : {A : Type 0} (number : A → ℕ) (n : ℕ) (xs : List A) → length (without number n xs) ≤ length xs
fewer_without number n [] = omega arith
fewer_without number n (x ∷ xs) = left (number x == n) (fewer_without number n xs)
  where
    left : (b : Bool) → length (without number n xs) ≤ length xs → length (if b then xs else x ∷ without number n xs) ≤ suc (length xs)
    left true later = omega arith
    left false later = shorter (length (without number n xs)) (length xs) later

-- ---- the order of numbers

abbrev lower : {A : Type 0} → (A → ℕ) → A → A → Bool
lower number x y = nat_lt (number x) (number y)

below-trans : (a b c : ℕ) → nat_lt a b ≡ true → nat_lt b c ≡ true → nat_lt a c ≡ true
below-trans a b c h g = grind (arith, nat_tests, h, g)

below-same : (a b c : ℕ) → (b == a) ≡ true → nat_lt b c ≡ true → nat_lt a c ≡ true
below-same a b c h g = grind (arith, nat_tests, h, g)

below-other : (a b : ℕ) → nat_le a b ≡ true → (b == a) ≡ false → nat_lt a b ≡ true
below-other a b h g = grind (arith, nat_tests, h, g)

above : (a b : ℕ) → nat_le a b ≡ false → nat_lt b a ≡ true
above a b h = grind (arith, nat_tests, h)

-- an element that comes before the first of a list still does after a change of the list
first_same : {A : Type 0} (number : A → ℕ) (x new : A) (xs : List A) → (number x == number new) ≡ true → is_before_first (lower number) x xs ≡ true → is_before_first (lower number) new xs ≡ true
first_same number x new [] same h = refl
first_same number x new (y ∷ ys) same h = below-same (number new) (number x) (number y) same h

first_lower : {A : Type 0} (number : A → ℕ) (x y : A) (ys : List A) → lower number x y ≡ true → is_before_first (lower number) y ys ≡ true → is_before_first (lower number) x ys ≡ true
first_lower number x y [] h g = refl
first_lower number x y (z ∷ zs) h g = below-trans (number x) (number y) (number z) h g

first_with : {A : Type 0} (number : A → ℕ) (new x : A) (xs : List A) → lower number x new ≡ true → is_before_first (lower number) x xs ≡ true
    → is_before_first (lower number) x (with_element number new xs) ≡ true
first_with number new x [] h g = h
first_with number new x (y ∷ ys) h g = placed (nat_le (number new) (number y)) (number y == number new)
  where
    placed : (b c : Bool) → is_before_first (lower number) x (if b then (if c then new ∷ ys else new ∷ y ∷ ys) else y ∷ with_element number new ys) ≡ true
    placed true true = h
    placed true false = h
    placed false c = g

pub ascending_with : {A : Type 0} (number : A → ℕ) (new : A) (xs : List A) → is_ascending (lower number) xs ≡ true → is_ascending (lower number) (with_element number new xs) ≡ true
ascending_with number new [] h = refl
ascending_with number new (x ∷ xs) h =
    let are = both_true (is_before_first (lower number) x xs) (is_ascending (lower number) xs) h in
    placed (nat_le (number new) (number x)) refl (number x == number new) refl are.0 are.1 (ascending_with number new xs are.1)
  where
    placed : (b : Bool) → nat_le (number new) (number x) ≡ b → (c : Bool) → (number x == number new) ≡ c
        → is_before_first (lower number) x xs ≡ true → is_ascending (lower number) xs ≡ true → is_ascending (lower number) (with_element number new xs) ≡ true
        → is_ascending (lower number) (if b then (if c then new ∷ xs else new ∷ x ∷ xs) else x ∷ with_element number new xs) ≡ true
    placed true is true same one rest later = let first = first_same number x new xs same one in rw (first, rest) refl
    placed true is false other one rest later = let first = below-other (number new) (number x) is other in rw (first, one, rest) refl
    placed false is c same one rest later = let first = first_with number new x xs (above (number new) (number x) is) one in rw (first, later) refl

first_without : {A : Type 0} (number : A → ℕ) (n : ℕ) (x : A) (xs : List A) → is_ascending (lower number) xs ≡ true → is_before_first (lower number) x xs ≡ true
    → is_before_first (lower number) x (without number n xs) ≡ true
first_without number n x [] h g = refl
first_without number n x (y ∷ ys) h g =
    let are = both_true (is_before_first (lower number) y ys) (is_ascending (lower number) ys) h in left (number y == n) are.0
  where
    left : (b : Bool) → is_before_first (lower number) y ys ≡ true → is_before_first (lower number) x (if b then ys else y ∷ without number n ys) ≡ true
    left true one = first_lower number x y ys g one
    left false one = g

pub ascending_without : {A : Type 0} (number : A → ℕ) (n : ℕ) (xs : List A) → is_ascending (lower number) xs ≡ true → is_ascending (lower number) (without number n xs) ≡ true
ascending_without number n [] h = refl
ascending_without number n (x ∷ xs) h =
    let are = both_true (is_before_first (lower number) x xs) (is_ascending (lower number) xs) h in
    left (number x == n) are.1 (first_without number n x xs are.1 are.0) (ascending_without number n xs are.1)
  where
    left : (b : Bool) → is_ascending (lower number) xs ≡ true → is_before_first (lower number) x (without number n xs) ≡ true → is_ascending (lower number) (without number n xs) ≡ true
        → is_ascending (lower number) (if b then xs else x ∷ without number n xs) ≡ true
    left true rest first later = rest
    left false rest first later = rw (first, later) refl
