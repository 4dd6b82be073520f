-- Tests of any elements of a list, where the elements are made of those of another.
use Rattle.std.proofs.Common.{◌≡◌, ◌∙◌, ◌||◌, List, [], ◌∷◌, map, Bool, refl, sym, ap}
use Rattle.std.specs.List.{list_any}

pub any-map : {X Y : Type 0} (test : X → Bool) (of : Y → X) (ys : List Y) → list_any test (map of ys) ≡ list_any (λ y. test (of y)) ys
any-map test of [] = refl
any-map test of (y ∷ ys) = ap (λ b. test (of y) || b) (any-map test of ys)

pub any-of : {X Y : Type 0} (test : X → Bool) (of : Y → X) (ys : List Y) (xs : List X) → map of ys ≡ xs → list_any test xs ≡ list_any (λ y. test (of y)) ys
any-of test of ys xs are = ap (list_any test) (sym are) ∙ any-map test of ys
