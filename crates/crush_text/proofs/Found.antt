-- Elements of lists, found by what is theirs alone.
use Rattle.std.proofs.Common.{◌≡◌, ◌∙◌, ℕ, zero, suc, ◌+◌, List, [], ◌∷◌, ◌++◌, length, map, take, Bool, true, false, ◌||◌, refl, ap, arith, Option, Some, None, IfSome, slice_get, option_map, if◌then◌else◌}
use Rattle.std.proofs.lemmas.Option.{slice_get-map}
use Rattle.std.specs.List.{find, list_any}

some_is : {X : Type 0} (x y : X) → Some x ≡ Some y → x ≡ y
some_is x y h = cc

-- ---- places

pub get_before : {X : Type 0} (xs ys : List X) (i : ℕ) (x : X) → slice_get xs i ≡ Some x → slice_get (xs ++ ys) i ≡ Some x
get_before [] ys i x h = cc
get_before (z ∷ zs) ys zero x h = h
get_before (z ∷ zs) ys (suc i) x h = get_before zs ys i x h

get_behind_suc : {X : Type 0} (xs ys : List X) (i n : ℕ) → n ≡ length xs → slice_get (xs ++ ys) (n + i) ≡ slice_get ys i
get_behind_suc [] ys i n e = let none : n + i ≡ i = omega arith in ap (slice_get ys) none
get_behind_suc (x ∷ xs) ys i zero e = absurd (omega arith)
get_behind_suc (x ∷ xs) ys i (suc n) e =
    let one_more : suc n + i ≡ suc (n + i) = omega arith in
    ap (slice_get (x ∷ (xs ++ ys))) one_more ∙ get_behind_suc xs ys i n (omega arith)

pub get_behind : {X : Type 0} (xs ys : List X) (i : ℕ) → slice_get (xs ++ ys) (length xs + i) ≡ slice_get ys i
get_behind xs ys i = get_behind_suc xs ys i (length xs) refl

pub get_mapped : {X Y : Type 0} (f : X → Y) (xs : List X) (i : ℕ) (x : X) → slice_get xs i ≡ Some x → slice_get (map f xs) i ≡ Some (f x)
get_mapped f xs i x h = slice_get-map f xs i ∙ ap (option_map f) h

-- ---- what holds at each place

-- behind the elements before it, of which the place is the number
abbrev pub AtEach : {X : Type 0} → (ℕ → List X → X → Type 0) → List X → Type 0
AtEach {X = X} P xs = (before : List X) (x : X) (after : List X) → xs ≡ before ++ x ∷ after → P (length before) before x

pub taken : {X : Type 0} (before : List X) (x : X) (after : List X) → take (length before) (before ++ x ∷ after) ≡ before
taken [] x after = refl
taken (b ∷ before) x after = ap (λ ys. b ∷ ys) (taken before x after)

there : {X : Type 0} (before : List X) (x : X) (after : List X) → slice_get (before ++ x ∷ after) (length before) ≡ Some x
there [] x after = refl
there (b ∷ before) x after = there before x after

pub holds_there : {X : Type 0} (Q : X → Type 0) (o : Option X) (x : X) → o ≡ Some x → IfSome o Q → Q x
holds_there Q (Some y) x e h = rw (some_is y x e) at h
holds_there Q None x e h = cc

pub at_each : {X : Type 0} (P : ℕ → List X → X → Type 0) (xs : List X) → ((i : ℕ) → IfSome (slice_get xs i) (P i (take i xs))) → AtEach P xs
at_each P xs h before x after e =
    let here = holds_there (P (length before) (take (length before) xs)) (slice_get xs (length before)) x (ap (λ ys. slice_get ys (length before)) e ∙ there before x after) (h (length before)) in
    let same : take (length before) xs ≡ before = ap (take (length before)) e ∙ taken before x after in
    rw same at here

-- ---- names of what passes a test

abbrev pub first_name : {X : Type 0} → (X → Bool) → (X → List ℕ) → List X → List ℕ
first_name test name [] = []
first_name test name (x ∷ xs) = if test x then name x else first_name test name xs

-- the name is that of an element that passes the test
pub record Named {X : Type 0} (test : X → Bool) (name : X → List ℕ) (xs : List X) (found : List ℕ) : Type 0 where
  pub place : ℕ
  pub element : X
  pub at : slice_get xs place ≡ Some element
  pub passes : test element ≡ true
  pub is : found ≡ name element

behind_one : {X : Type 0} (test : X → Bool) (name : X → List ℕ) (x : X) (xs : List X) (found : List ℕ) → Named test name xs found → Named test name (x ∷ xs) found
behind_one test name x xs found n = record { place = suc n.place; element = n.element; at = n.at; passes = n.passes; is = n.is }

first_named : {X : Type 0} (test : X → Bool) (name : X → List ℕ) (x : X) (xs ys : List X) (k : Bool) → test x ≡ k → (k || list_any test xs) ≡ true →
    (list_any test xs ≡ true → Named test name xs (first_name test name (xs ++ ys))) → Named test name (x ∷ xs) (if k then name x else first_name test name (xs ++ ys))
first_named test name x xs ys true e h more = record { place = 0; element = x; at = refl; passes = e; is = refl }
first_named test name x xs ys false e h more = behind_one test name x xs (first_name test name (xs ++ ys)) (more h)

pub any_named : {X : Type 0} (test : X → Bool) (name : X → List ℕ) (xs ys : List X) → list_any test xs ≡ true → Named test name xs (first_name test name (xs ++ ys))
any_named test name [] ys h = cc
any_named test name (x ∷ xs) ys h = first_named test name x xs ys (test x) refl h (any_named test name xs ys)

-- ---- finding

passed_over : {X : Type 0} (test : X → Bool) (x : X) (k : Bool) (o p : Option X) → test x ≡ k → (k ≡ true → ⊥) → o ≡ p → (if test x then Some x else o) ≡ p
passed_over test x true o p e never h = absurd (never refl)
passed_over test x false o p e never h = rw e h

pub find_none : {X : Type 0} (test : X → Bool) (xs : List X) → ((j : ℕ) (y : X) → slice_get xs j ≡ Some y → test y ≡ true → ⊥) → find test xs ≡ None
find_none test [] never = refl
find_none test (x ∷ xs) never =
    passed_over test x (test x) (find test xs) None refl (never 0 x refl) (find_none test xs (λ j. never (suc j)))

pub find_once : {X : Type 0} (test : X → Bool) (xs : List X) (i : ℕ) (x : X) → slice_get xs i ≡ Some x → test x ≡ true →
    ((j : ℕ) (y : X) → slice_get xs j ≡ Some y → test y ≡ true → j ≡ i) → find test xs ≡ Some x
find_once test [] i x at is once = cc
find_once test (y ∷ ys) zero x at is once = let same : y ≡ x = some_is y x at in rw (same, is) refl
find_once test (y ∷ ys) (suc i) x at is once =
    passed_over test y (test y) (find test ys) (Some x) refl (λ passes. let first = once 0 y refl passes in absurd (omega arith))
    (find_once test ys i x at is (λ j z there passes. let f = once (suc j) z there passes in omega arith))
