-- Lists whose elements differ, with one more element.
use Rattle.std.proofs.Common.{◌≡◌, Bool, false, List, [], ◌∷◌, ◌++◌, refl}
use Rattle.std.specs.List.{list_any, AllByRecursion, IsDistinct}
use Rattle.std.proofs.lemmas.Map.Keys.{IsDistinct-head, IsDistinct-tail, IsDistinct-cons}
use Rattle.crush_map.proofs.Passing.{left_false, right_false}

all_push : {K : Type 0} (P : K → Type 0) (xs : List K) (y : K) → AllByRecursion P xs → P y → AllByRecursion P (xs ++ y ∷ [])
all_push P [] y h p = (p, tt)
all_push P (x ∷ xs) y h p = (h.0, all_push P xs y h.1 p)

all_at : {K : Type 0} (P : K → Type 0) (xs : List K) (y : K) (ys : List K) → AllByRecursion P (xs ++ y ∷ ys) → P y
all_at P [] y ys h = h.0
all_at P (x ∷ xs) y ys h = all_at P xs y ys h.1

-- adding an element that is none of the list
pub distinct_push : {K : Type 0} (e : K → K → Bool) (xs : List K) (y : K) → IsDistinct e xs → list_any (λ x. e x y) xs ≡ false → IsDistinct e (xs ++ y ∷ [])
distinct_push e [] y h new = IsDistinct-cons e y [] tt h
distinct_push e (x ∷ xs) y h new =
    IsDistinct-cons e x (xs ++ y ∷ [])
    (all_push (λ z. e x z ≡ false) xs y (IsDistinct-head e x xs h) (left_false (e x y) _ new))
    (distinct_push e xs y (IsDistinct-tail e x xs h) (right_false (e x y) _ new))

-- an element of a list whose elements differ is none of the earlier ones
pub new_at : {K : Type 0} (e : K → K → Bool) (xs : List K) (y : K) (ys : List K) → IsDistinct e (xs ++ y ∷ ys) → list_any (λ x. e x y) xs ≡ false
new_at e [] y ys h = refl
new_at e (x ∷ xs) y ys h =
    rw (all_at (λ z. e x z ≡ false) xs y ys (IsDistinct-head e x (xs ++ y ∷ ys) h)) (new_at e xs y ys (IsDistinct-tail e x (xs ++ y ∷ ys) h))
