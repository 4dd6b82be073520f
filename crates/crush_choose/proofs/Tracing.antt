-- A list has the same numbers once it is sorted and its duplicates are dropped.
use Rattle.std.proofs.Common.{◌≡◌, ℕ, List, [], ◌∷◌, Bool, true, false, ◌||◌, ◌==◌, if◌then◌else◌, eqb, refl, ap, sym, ◌∙◌, arith}
use Rattle.std.specs.List.{dedup, dedup_from}
use Rattle.std.specs.List.Sorted.{IsPermutation}
use Rattle.std.proofs.lemmas.List.Sorted.{list_any-IsPermutation}
use Rattle.std.proofs.lemmas.Bool.Decides.{nat_tests}
use Rattle.crush_map.specs.Faults.{has_number}

twice : (a b : Bool) → (a || b) ≡ (a || (a || b))
twice true b = refl
twice false b = refl

eq_of : (a b : ℕ) → (a == b) ≡ true → a ≡ b
eq_of a b h = grind (arith, nat_tests)

kept : (d k x : ℕ) (xs : List ℕ) (same : Bool) → (same ≡ true → k ≡ x)
    → has_number (dedup_from eqb k xs) d ≡ ((k == d) || has_number xs d) → has_number (dedup_from eqb x xs) d ≡ ((x == d) || has_number xs d)
    → has_number (if same then dedup_from eqb k xs else k ∷ dedup_from eqb x xs) d ≡ ((k == d) || ((x == d) || has_number xs d))
kept d k x xs true is one other = let e : k ≡ x = is refl in one ∙ (rw e (twice (x == d) (has_number xs d)))
kept d k x xs false is one other = ap (λ (b : Bool). (k == d) || b) other

has_dedup_from : (d k : ℕ) (xs : List ℕ) → has_number (dedup_from eqb k xs) d ≡ ((k == d) || has_number xs d)
has_dedup_from d k [] = refl
has_dedup_from d k (x ∷ xs) = kept d k x xs (eqb x k) (λ e. sym (eq_of x k e)) (has_dedup_from d k xs) (has_dedup_from d x xs)

has_dedup : (d : ℕ) (xs : List ℕ) → has_number (dedup eqb xs) d ≡ has_number xs d
has_dedup d [] = refl
has_dedup d (x ∷ xs) = has_dedup_from d x xs

-- a sorted list without duplicates has the numbers of the list
pub has_sorted : (xs sorted left : List ℕ) → IsPermutation xs sorted → left ≡ dedup eqb sorted → (d : ℕ) → has_number left d ≡ has_number xs d
has_sorted xs sorted left permutation e d = rw e (has_dedup d sorted ∙ sym (list_any-IsPermutation (λ n. n == d) xs sorted permutation))
