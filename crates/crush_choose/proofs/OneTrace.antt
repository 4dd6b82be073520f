-- Ascending lists with the same numbers are one.
use Rattle.std.proofs.Common.{◌≡◌, ℕ, suc, ◌<◌, ◌==◌, ◌||◌, List, [], ◌∷◌, length, Bool, true, false, slice_index_or, refl, ap, sym, ◌∙◌, arith, inl, inr}
use Rattle.std.specs.List.{AllPairs}
use Rattle.std.proofs.lemmas.Bool.Decides.{nat_tests}
use Rattle.std.proofs.lemmas.List.Kept.{AllPairs-from_increasing}
use Rattle.crush_map.specs.declared.draft.Step.{Step}
use Rattle.crush_map.specs.Faults.{has_number}
use Rattle.crush_bucket.specs.Tables.{TablesView}
use Rattle.crush_choose.specs.Rules.{IsTrace}
use Rattle.crush_choose.proofs.Staying.{or_left, is_itself, eq_of, either_holds}

-- each number is below all later ones
abbrev Ascends : List ℕ → Type 0
Ascends xs = AllPairs (λ a b. a < b) xs

ascends_on : (x : ℕ) (xs : List ℕ) → Ascends (x ∷ xs) → Ascends xs
ascends_on x xs up = λ i j d lt within. up (suc i) (suc j) d (omega arith) (omega arith)

-- a number below each place of a list is below each number in it
below_each : (x : ℕ) (xs : List ℕ) → ((j : ℕ) → j < length xs → x < slice_index_or xs j 0) → (y : ℕ) → has_number xs y ≡ true → x < y
below_each x [] each y has = absurd cc
below_each x (z ∷ zs) each y has = elim (either_holds (z == y) (has_number zs y) has) [
  | inl it ↦ (let here : x < z = each 0 (omega arith) in let same : z ≡ y = eq_of z y it in rw (← same) here)
  | inr among ↦ below_each x zs (λ j lt. each (suc j) (omega arith)) y among
]

below_later : (x : ℕ) (xs : List ℕ) → Ascends (x ∷ xs) → (y : ℕ) → has_number xs y ≡ true → x < y
below_later x xs up = below_each x xs (λ j lt. up 0 (suc j) 0 (omega arith) (omega arith))

differs : (x d : ℕ) → x < d → (x == d) ≡ false
differs x d lt = grind (arith, nat_tests)

without_first : (first a b : Bool) → (first || a) ≡ (first || b) → (a ≡ true → first ≡ false) → (b ≡ true → first ≡ false) → a ≡ b
without_first false a b e left right = e
without_first true true b e left right = let no : true ≡ false = left refl in cc
without_first true false true e left right = let no : true ≡ false = right refl in cc
without_first true false false e left right = refl

same_first : (x y : ℕ) (xs ys : List ℕ) → Ascends (x ∷ xs) → Ascends (y ∷ ys) → ((d : ℕ) → has_number (x ∷ xs) d ≡ has_number (y ∷ ys) d) → x ≡ y
same_first x y xs ys up other same =
    let in_ys : has_number (y ∷ ys) x ≡ true = sym (same x) ∙ or_left (x == x) (has_number xs x) (is_itself x) in
    let in_xs : has_number (x ∷ xs) y ≡ true = same y ∙ or_left (y == y) (has_number ys y) (is_itself y) in
    elim (either_holds (y == x) (has_number ys x) in_ys) [
      | inl it ↦ sym (eq_of y x it)
      | inr later ↦ elim (either_holds (x == y) (has_number xs y) in_xs) [
        | inl it ↦ eq_of x y it
        | inr after ↦ (let lt : x < y = below_later x xs up y after in let gt : y < x = below_later y ys other x later in absurd (omega arith))
      ]
    ]

same_list : (xs ys : List ℕ) → Ascends xs → Ascends ys → ((d : ℕ) → has_number xs d ≡ has_number ys d) → xs ≡ ys
same_list [] [] up other same = refl
same_list [] (y ∷ ys) up other same = let no : false ≡ true = same y ∙ or_left (y == y) (has_number ys y) (is_itself y) in cc
same_list (x ∷ xs) [] up other same = let no : true ≡ false = sym (or_left (x == x) (has_number xs x) (is_itself x)) ∙ same x in cc
same_list (x ∷ xs) (y ∷ ys) up other same =
    let first : x ≡ y = same_first x y xs ys up other same in
    let tails : (d : ℕ) → has_number xs d ≡ has_number ys d = λ d.
    without_first (x == d) (has_number xs d) (has_number ys d) (same d ∙ ap (λ (n : ℕ). (n == d) || has_number ys d) (sym first))
    (λ has. differs x d (below_later x xs up d has))
    (λ has. let lt : y < d = below_later y ys other d has in let e : x < d = rw first lt in differs x d e) in
    let rest : xs ≡ ys = same_list xs ys (ascends_on x xs up) (ascends_on y ys other) tails in
    rw (first, rest) refl

pub one_trace : (t : TablesView) (w : List ℕ) (steps : List Step) (x size : ℕ) (trace other : List ℕ) → IsTrace t w steps x size trace → IsTrace t w steps x size other → other ≡ trace
one_trace t w steps x size trace other is also =
    same_list other trace (AllPairs-from_increasing other also.rising) (AllPairs-from_increasing trace is.rising) (λ d. also.each d ∙ sym (is.each d))
