-- What follows from tests of lists.
use Rattle.std.proofs.Common.{◌≡◌, ◌≢◌, suc, ◌&&◌, ◌||◌, List, [], ◌∷◌, Bool, true, false, not, refl, sym, subst, arith}
use Rattle.std.specs.Bool.{Decides}
use Rattle.std.specs.List.{All, AllPairs, list_any}
use Rattle.std.proofs.lemmas.Bool.Decides.{Decides-and, Decides-by_and, Decides-like}
use Rattle.std.proofs.lemmas.List.Kept.{AllPairs-cons}

pub Decides-none : {A : Type 0} (test : A → Bool) (P : A → Type 0) → ((a : A) → Decides (not (test a)) (P a)) → (xs : List A) → Decides (not (list_any test xs)) (All P xs)
Decides-none test P each xs = Decides-by_and (λ a. not (test a)) P (λ xs. not (list_any test xs)) each refl (λ x xs. neither (test x) (list_any test xs)) xs
  where
    neither : (a b : Bool) → not (a || b) ≡ (not a && not b)
    neither true b = refl
    neither false b = refl

-- ---- keys that differ

abbrev pub Differ : {A K : Type 0} → (A → K) → A → A → Type 0
Differ key x y = key x ≢ key y

pairs-head : {A K : Type 0} (key : A → K) (x : A) (xs : List A) → AllPairs (Differ key) (x ∷ xs) → All (λ y. key y ≢ key x) xs
pairs-head key x xs h k d below same = h 0 (suc k) d (omega arith) (omega arith) (sym same)

pairs-tail : {A K : Type 0} (key : A → K) (x : A) (xs : List A) → AllPairs (Differ key) (x ∷ xs) → AllPairs (Differ key) xs
pairs-tail key x xs h i j d before below = h (suc i) (suc j) d (omega arith) (omega arith)

-- a test of a list that compares each element with those behind it
pub Decides-distinct : {A K : Type 0} (key : A → K) (same : A → A → Bool) (distinct : List A → Bool) → ((x y : A) → Decides (not (same x y)) (key y ≢ key x))
    → distinct [] ≡ true → ((x : A) (xs : List A) → distinct (x ∷ xs) ≡ (not (list_any (same x) xs) && distinct xs)) → (xs : List A) → Decides (distinct xs) (AllPairs (Differ key) xs)
Decides-distinct key same distinct each empty behind [] = (λ h i j d before below. absurd (omega arith), λ h. empty)
Decides-distinct key same distinct each empty behind (x ∷ xs) =
    subst (λ b. Decides b (AllPairs (Differ key) (x ∷ xs))) (sym (behind x xs))
    (Decides-like _ (λ is. AllPairs-cons (Differ key) x xs (λ k d below equal. is.0 k d below (sym equal)) is.1)
    (λ is. (pairs-head key x xs is, pairs-tail key x xs is))
    (Decides-and (not (list_any (same x) xs)) (distinct xs) (Decides-none (same x) (λ y. key y ≢ key x) (each x) xs) (Decides-distinct key same distinct each empty behind xs)))
