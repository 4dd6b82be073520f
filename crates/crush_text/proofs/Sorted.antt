-- A list in ascending order of number.
use Rattle.std.proofs.Common.{◌≡◌, ℕ, zero, suc, ◌≤◌, nat_lt, Bool, true, false, List, [], ◌∷◌, refl, arith, if◌then◌else◌}
use Rattle.std.proofs.lemmas.Bool.Decides.{nat_tests}
use Rattle.std.proofs.lemmas.List.Elements.{All-from_recursion, All-get_or}
use Rattle.std.proofs.lemmas.List.Sorted.{IsPermutation-refl, IsPermutation-sym, IsPermutation-cons, IsPermutation-middle, IsPermutation-trans}
use Rattle.std.specs.List.{AllByRecursion}
use Rattle.std.specs.List.Sorted.{IsPermutation, IsNonDecreasingBy}
use Rattle.crush_text.specs.Reading.{insert_by, sorted_by}

-- ---- the same elements

inserted_if : {X : Type 0} (x y : X) (ys zs : List X) (k : Bool) → IsPermutation (x ∷ ys) zs → IsPermutation (x ∷ y ∷ ys) (if k then y ∷ zs else x ∷ y ∷ ys)
inserted_if x y ys zs true p =
    IsPermutation-trans (x ∷ y ∷ ys) (y ∷ x ∷ ys) (y ∷ zs) (IsPermutation-sym (y ∷ x ∷ ys) (x ∷ y ∷ ys) (IsPermutation-middle (y ∷ []) x ys)) (IsPermutation-cons y (x ∷ ys) zs p)
inserted_if x y ys zs false p = IsPermutation-refl (x ∷ y ∷ ys)

inserted : {X : Type 0} (number : X → ℕ) (x : X) (xs : List X) → IsPermutation (x ∷ xs) (insert_by number x xs)
inserted number x [] = IsPermutation-refl (x ∷ [])
inserted number x (y ∷ ys) = inserted_if x y ys (insert_by number x ys) (nat_lt (number y) (number x)) (inserted number x ys)

pub same_elements : {X : Type 0} (number : X → ℕ) (xs : List X) → IsPermutation xs (sorted_by number xs)
same_elements number [] = IsPermutation-refl []
same_elements number (x ∷ xs) =
    let ys = sorted_by number xs in
    IsPermutation-trans (x ∷ xs) (x ∷ ys) (insert_by number x ys) (IsPermutation-cons x xs ys (same_elements number xs)) (inserted number x ys)

-- ---- in order

-- each number is at most those after it
abbrev Ascends : {X : Type 0} → (X → ℕ) → List X → Type 0
Ascends number [] = Unit {0}
Ascends number (x ∷ xs) = AllByRecursion (λ y. number x ≤ number y) xs × Ascends number xs

all_if : {X : Type 0} (P : X → Type 0) (x y : X) (ys zs : List X) (k : Bool) → P x → P y → AllByRecursion P ys → AllByRecursion P zs → AllByRecursion P (if k then y ∷ zs else x ∷ y ∷ ys)
all_if P x y ys zs true h k all more = (k, more)
all_if P x y ys zs false h k all more = (h, (k, all))

all_inserted : {X : Type 0} (P : X → Type 0) (number : X → ℕ) (x : X) (xs : List X) → P x → AllByRecursion P xs → AllByRecursion P (insert_by number x xs)
all_inserted P number x [] h all = (h, tt)
all_inserted P number x (y ∷ ys) h all = all_if P x y ys (insert_by number x ys) (nat_lt (number y) (number x)) h all.0 all.1 (all_inserted P number x ys h all.1)

at_most : {X : Type 0} (number : X → ℕ) (x y : X) (xs : List X) → number x ≤ number y → AllByRecursion (λ z. number y ≤ number z) xs → AllByRecursion (λ z. number x ≤ number z) xs
at_most number x y [] h all = tt
at_most number x y (z ∷ zs) h all = (let low = all.0 in omega arith, at_most number x y zs h all.1)

ascends_if : {X : Type 0} (number : X → ℕ) (x y : X) (ys zs : List X) (k : Bool) → nat_lt (number y) (number x) ≡ k →
    Ascends number (y ∷ ys) → Ascends number zs → (number y ≤ number x → AllByRecursion (λ z. number y ≤ number z) zs) → Ascends number (if k then y ∷ zs else x ∷ y ∷ ys)
ascends_if number x y ys zs true e up more all =
    let low : number y ≤ number x = grind (arith, nat_tests) in
    (all low, more)
ascends_if number x y ys zs false e up more all =
    let low : number x ≤ number y = grind (arith, nat_tests) in
    ((low, at_most number x y ys low up.0), up)

ascends_inserted : {X : Type 0} (number : X → ℕ) (x : X) (xs : List X) → Ascends number xs → Ascends number (insert_by number x xs)
ascends_inserted number x [] up = (tt, tt)
ascends_inserted number x (y ∷ ys) up =
    ascends_if number x y ys (insert_by number x ys) (nat_lt (number y) (number x)) refl up (ascends_inserted number x ys up.1)
    (λ low. all_inserted (λ z. number y ≤ number z) number x ys low up.0)

ascends : {X : Type 0} (number : X → ℕ) (xs : List X) → Ascends number (sorted_by number xs)
ascends number [] = tt
ascends number (x ∷ xs) = ascends_inserted number x (sorted_by number xs) (ascends number xs)

never_falls : {X : Type 0} (number : X → ℕ) (xs : List X) → Ascends number xs → IsNonDecreasingBy number xs
never_falls number [] up i j d le short = absurd (omega arith)
never_falls number (x ∷ xs) up zero zero d le short = omega arith
never_falls number (x ∷ xs) up zero (suc j) d le short = All-get_or (λ y. number x ≤ number y) xs j d (omega arith) (All-from_recursion (λ y. number x ≤ number y) xs up.0)
never_falls number (x ∷ xs) up (suc i) zero d le short = absurd (omega arith)
never_falls number (x ∷ xs) up (suc i) (suc j) d le short = never_falls number xs up.1 i j d (omega arith) (omega arith)

pub in_order : {X : Type 0} (number : X → ℕ) (xs : List X) → IsNonDecreasingBy number (sorted_by number xs)
in_order number xs = never_falls number (sorted_by number xs) (ascends number xs)
