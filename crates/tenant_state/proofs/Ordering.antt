-- Where an element goes in a list in the order of numbers.
use Rattle.std.proofs.Common.{◌≡◌, ℕ, zero, suc, ◌<◌, ◌≤◌, ◌==◌, ◌&&◌, List, [], ◌∷◌, ◌++◌, length, map, Bool, true, false, cond, nat_le, nat_lt, Some, None, position, find, slice_index_or, slice_set, refl, ap, sym, ◌∙◌, arith}
use Rattle.std.proofs.lemmas.Bool.Decides.{nat_tests}
use Rattle.std.specs.List.{position_or_len, insert, remove}
use Rattle.std.proofs.lemmas.List.{map-id}
use Rattle.std.proofs.lemmas.List.Sums.{fails_before_first, passes_at_first}
use Rattle.tenant_state.specs.Ordered.{is_ascending, is_before_first, with_element, without}

-- ---- places

few-more : {B : Type 0} (p : B → Bool) (x : B) (xs : List B) (b : Bool) → p x ≡ b → position_or_len p xs ≤ length xs → position_or_len p (x ∷ xs) ≤ length (x ∷ xs)
few-more p x xs true is rest = rw is (omega arith)
few-more p x xs false is rest = rw is (omega (arith, rest))

pub place-few : {B : Type 0} (p : B → Bool) (xs : List B) → position_or_len p xs ≤ length xs
place-few p [] = omega arith
place-few p (x ∷ xs) = few-more p x xs (p x) refl (place-few p xs)

some-place : (b : Bool) (n i : ℕ) → cond b (Some n) None ≡ Some i → n ≡ i
some-place true n i h = cc
some-place false n i h = cc

pub place_is : {B : Type 0} (p : B → Bool) (xs : List B) (i : ℕ) → position p xs ≡ Some i → i ≡ position_or_len p xs
place_is p xs i h = sym (some-place (nat_lt (position_or_len p xs) (length xs)) (position_or_len p xs) i h)

no-place : (b : Bool) (n : ℕ) → cond b (Some n) None ≡ None → b ≡ false
no-place true n h = cc
no-place false n h = refl

pub place_is_end : {B : Type 0} (p : B → Bool) (xs : List B) → position p xs ≡ None → length xs ≡ position_or_len p xs
place_is_end p xs h =
    let few = place-few p xs in
    let past : nat_lt (position_or_len p xs) (length xs) ≡ false = no-place (nat_lt (position_or_len p xs) (length xs)) (position_or_len p xs) h in
    grind (arith, nat_tests)

-- ---- an element at its place

-- the element goes before the first whose number isn't below
inserted_at : {A B : Type 0} (v : B → A) (number : A → ℕ) (new d : B) (i : ℕ) (xs : List B) → i ≤ length xs
    → ((k : ℕ) → k < i → nat_le (number (v new)) (number (v (slice_index_or xs k d))) ≡ false)
    → (i < length xs → nat_le (number (v new)) (number (v (slice_index_or xs i d))) ≡ true)
    → (i < length xs → (number (v (slice_index_or xs i d)) == number (v new)) ≡ false)
    → map v (insert xs i new) ≡ with_element number (v new) (map v xs)
inserted_at v number new d zero [] few below at other = refl
inserted_at v number new d zero (x ∷ xs) few below at other =
    let some : 0 < length (x ∷ xs) = omega arith in
    let first : nat_le (number (v new)) (number (v x)) ≡ true = at some in
    let differs : (number (v x) == number (v new)) ≡ false = other some in rw (first, differs) refl
inserted_at v number new d (suc i) [] few below at other = absurd (omega (arith, few))
inserted_at v number new d (suc i) (x ∷ xs) few below at other =
    let head : nat_le (number (v new)) (number (v x)) ≡ false = below 0 (omega arith) in
    let rest = inserted_at v number new d i xs (omega (arith, few)) (λ k lower. below (suc k) (omega (arith, lower)))
    (λ more. at (omega (arith, more))) (λ more. other (omega (arith, more))) in
    rw head (ap (λ l. v x ∷ l) rest)

-- or takes the place of the one that has its number
replaced_at : {A B : Type 0} (v : B → A) (number : A → ℕ) (new d : B) (i : ℕ) (xs : List B) → i < length xs
    → ((k : ℕ) → k < i → nat_le (number (v new)) (number (v (slice_index_or xs k d))) ≡ false)
    → nat_le (number (v new)) (number (v (slice_index_or xs i d))) ≡ true
    → (number (v (slice_index_or xs i d)) == number (v new)) ≡ true
    → map v (slice_set xs i new) ≡ with_element number (v new) (map v xs)
replaced_at v number new d i [] within below at same = absurd (omega (arith, within))
replaced_at v number new d zero (x ∷ xs) within below at same = rw (at, same) refl
replaced_at v number new d (suc i) (x ∷ xs) within below at same =
    let head : nat_le (number (v new)) (number (v x)) ≡ false = below 0 (omega arith) in
    let rest = replaced_at v number new d i xs (omega (arith, within)) (λ k lower. below (suc k) (omega (arith, lower))) at same in
    rw head (ap (λ l. v x ∷ l) rest)

differs : (m n : ℕ) → (m ≡ n → ⊥) → (m == n) ≡ false
differs m n h = grind (arith, nat_tests)

equals : (m n : ℕ) → m ≡ n → (m == n) ≡ true
equals m n h = grind (arith, nat_tests)

pub inserted : {A B : Type 0} (v : B → A) (number : A → ℕ) (new d : B) (i : ℕ) (xs : List B) → i ≡ position_or_len (λ x. nat_le (number (v new)) (number (v x))) xs
    → (i < length xs → number (v (slice_index_or xs i d)) ≡ number (v new) → ⊥)
    → map v (insert xs i new) ≡ with_element number (v new) (map v xs)
inserted {A} {B} v number new d i xs is other =
    let p : B → Bool = λ x. nat_le (number (v new)) (number (v x)) in
    let few = place-few p xs in
    inserted_at v number new d i xs (omega (arith, few, is))
    (λ k lower. fails_before_first p xs k d (omega (arith, lower, is)))
    (λ more. rw is (passes_at_first p xs d (omega (arith, more, is))))
    (λ more. differs (number (v (slice_index_or xs i d))) (number (v new)) (other more))

pub replaced : {A B : Type 0} (v : B → A) (number : A → ℕ) (new d : B) (i : ℕ) (xs : List B) → i ≡ position_or_len (λ x. nat_le (number (v new)) (number (v x))) xs
    → i < length xs → number (v (slice_index_or xs i d)) ≡ number (v new)
    → map v (slice_set xs i new) ≡ with_element number (v new) (map v xs)
replaced {A} {B} v number new d i xs is within same =
    let p : B → Bool = λ x. nat_le (number (v new)) (number (v x)) in
    replaced_at v number new d i xs within
    (λ k lower. fails_before_first p xs k d (omega (arith, lower, is)))
    (rw is (passes_at_first p xs d (omega (arith, within, is)))) (equals (number (v (slice_index_or xs i d))) (number (v new)) same)

-- the same where the elements of a list are the values themselves
pub inserted_here : {A : Type 0} (number : A → ℕ) (new d : A) (i : ℕ) (xs : List A) → i ≡ position_or_len (λ x. nat_le (number new) (number x)) xs
    → (i < length xs → number (slice_index_or xs i d) ≡ number new → ⊥) → insert xs i new ≡ with_element number new xs
inserted_here number new d i xs is other =
    sym (map-id (insert xs i new)) ∙ (inserted (λ x. x) number new d i xs is other ∙ ap (with_element number new) (map-id xs))

pub replaced_here : {A : Type 0} (number : A → ℕ) (new d : A) (i : ℕ) (xs : List A) → i ≡ position_or_len (λ x. nat_le (number new) (number x)) xs
    → i < length xs → number (slice_index_or xs i d) ≡ number new → slice_set xs i new ≡ with_element number new xs
replaced_here number new d i xs is within same =
    sym (map-id (slice_set xs i new)) ∙ (replaced (λ x. x) number new d i xs is within same ∙ ap (with_element number new) (map-id xs))

-- ---- an element that is looked for

some-in : (b : Bool) (n i : ℕ) → cond b (Some n) None ≡ Some i → b ≡ true
some-in true n i h = refl
some-in false n i h = cc

pub place-in : {B : Type 0} (p : B → Bool) (xs : List B) (i : ℕ) → position p xs ≡ Some i → i < length xs
place-in p xs i h =
    let is = place_is p xs i h in
    let within : nat_lt (position_or_len p xs) (length xs) ≡ true = some-in (nat_lt (position_or_len p xs) (length xs)) (position_or_len p xs) i h in
    grind (arith, nat_tests)

removed_at : {A B : Type 0} (v : B → A) (number : A → ℕ) (n : ℕ) (d : B) (i : ℕ) (xs : List B) → i < length xs
    → ((k : ℕ) → k < i → (number (v (slice_index_or xs k d)) == n) ≡ false) → (number (v (slice_index_or xs i d)) == n) ≡ true
    → map v (remove xs i) ≡ without number n (map v xs)
removed_at v number n d i [] within below at = absurd (omega (arith, within))
removed_at v number n d zero (x ∷ xs) within below at = rw at refl
removed_at v number n d (suc i) (x ∷ xs) within below at =
    let head : (number (v x) == n) ≡ false = below 0 (omega arith) in
    let rest = removed_at v number n d i xs (omega (arith, within)) (λ k lower. below (suc k) (omega (arith, lower))) at in
    rw head (ap (λ l. v x ∷ l) rest)

pub removed : {A B : Type 0} (v : B → A) (number : A → ℕ) (n : ℕ) (d : B) (i : ℕ) (xs : List B) → position (λ x. number (v x) == n) xs ≡ Some i
    → map v (remove xs i) ≡ without number n (map v xs)
removed {A} {B} v number n d i xs h =
    let p : B → Bool = λ x. number (v x) == n in
    let is = place_is p xs i h in let within = place-in p xs i h in
    removed_at v number n d i xs within (λ k lower. fails_before_first p xs k d (omega (arith, lower, is)))
    (rw is (passes_at_first p xs d (omega (arith, within, is))))

absent_all : {A B : Type 0} (v : B → A) (number : A → ℕ) (n : ℕ) (d : B) (xs : List B) → ((k : ℕ) → k < length xs → (number (v (slice_index_or xs k d)) == n) ≡ false)
    → map v xs ≡ without number n (map v xs)
absent_all v number n d [] none = refl
absent_all v number n d (x ∷ xs) none =
    let head : (number (v x) == n) ≡ false = none 0 (omega arith) in
    let rest = absent_all v number n d xs (λ k lower. none (suc k) (omega (arith, lower))) in
    rw head (ap (λ l. v x ∷ l) rest)

pub absent : {A B : Type 0} (v : B → A) (number : A → ℕ) (n : ℕ) (xs : List B) → position (λ x. number (v x) == n) xs ≡ None → map v xs ≡ without number n (map v xs)
absent v number n [] h = refl
absent {A} {B} v number n (x ∷ xs) h =
    let p : B → Bool = λ y. number (v y) == n in
    let end = place_is_end p (x ∷ xs) h in
    absent_all v number n x (x ∷ xs) (λ k lower. fails_before_first p (x ∷ xs) k x (omega (arith, end, lower)))

found_at : {A B : Type 0} (v : B → A) (test : A → Bool) (d : B) (i : ℕ) (xs : List B) → i < length xs → ((k : ℕ) → k < i → test (v (slice_index_or xs k d)) ≡ false)
    → test (v (slice_index_or xs i d)) ≡ true → Some (v (slice_index_or xs i d)) ≡ find test (map v xs)
found_at v test d i [] within below at = absurd (omega (arith, within))
found_at v test d zero (x ∷ xs) within below at = rw at refl
found_at v test d (suc i) (x ∷ xs) within below at =
    let head : test (v x) ≡ false = below 0 (omega arith) in
    let rest = found_at v test d i xs (omega (arith, within)) (λ k lower. below (suc k) (omega (arith, lower))) at in
    rw head rest

pub found : {A B : Type 0} (v : B → A) (test : A → Bool) (d : B) (i : ℕ) (xs : List B) → position (λ x. test (v x)) xs ≡ Some i
    → Some (v (slice_index_or xs i d)) ≡ find test (map v xs)
found {A} {B} v test d i xs h =
    let p : B → Bool = λ x. test (v x) in
    let is = place_is p xs i h in let within = place-in p xs i h in
    found_at v test d i xs within (λ k lower. fails_before_first p xs k d (omega (arith, lower, is)))
    (rw is (passes_at_first p xs d (omega (arith, within, is))))

none_all : {A B : Type 0} (v : B → A) (test : A → Bool) (d : B) (xs : List B) → ((k : ℕ) → k < length xs → test (v (slice_index_or xs k d)) ≡ false) → None ≡ find test (map v xs)
none_all v test d [] none = refl
none_all v test d (x ∷ xs) none =
    let head : test (v x) ≡ false = none 0 (omega arith) in
    let rest = none_all v test d xs (λ k lower. none (suc k) (omega (arith, lower))) in rw head rest

pub not_found : {A B : Type 0} (v : B → A) (test : A → Bool) (xs : List B) → position (λ x. test (v x)) xs ≡ None → None ≡ find test (map v xs)
not_found v test [] h = refl
not_found {A} {B} v test (x ∷ xs) h =
    let p : B → Bool = λ y. test (v y) in
    let end = place_is_end p (x ∷ xs) h in
    none_all v test x (x ∷ xs) (λ k lower. fails_before_first p (x ∷ xs) k x (omega (arith, end, lower)))

-- ---- lists that are in order already

first-of : (a b : Bool) → (a && b) ≡ true → a ≡ true
first-of true b h = refl
first-of false b h = cc

second-of : (a b : Bool) → (a && b) ≡ true → b ≡ true
second-of true b h = h
second-of false b h = cc

-- each element comes before what follows it
pub before_rest : {A : Type 0} (before : A → A → Bool) (xs : List A) (x : A) (ys : List A) → is_ascending before (xs ++ x ∷ ys) ≡ true → is_before_first before x ys ≡ true
before_rest before [] x ys h = first-of (is_before_first before x ys) (is_ascending before ys) h
before_rest before (w ∷ xs) x ys h =
    before_rest before xs x ys (second-of (is_before_first before w (xs ++ x ∷ ys)) (is_ascending before (xs ++ x ∷ ys)) h)
