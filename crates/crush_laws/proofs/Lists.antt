-- Elements of lists by their places.
use Rattle.std.proofs.Common.{◌≡◌, ◌⊎◌, inl, inr, ◌<◌, ◌≤◌, ℕ, zero, suc, List, [], ◌∷◌, ◌++◌, length, map, drop, slice_get, slice_index_or, Bool, true, false, cond, Option, Some, None, Contains, flat_map, refl, sym, ap, subst, ◌∙◌, arith}
use Rattle.std.specs.List.{All, AllZip}
use Rattle.std.proofs.lemmas.List.Elements.{Contains-append_left, Contains-append_right}
use Rattle.std.proofs.lemmas.Option.{get_or_from_slice_get, slice_get_within}

-- ---- one element in front

pub past : {X : Type 0} (b : Bool) (x : X) (xs : List X) (y : X) → Contains xs y → Contains (cond b (x ∷ xs) xs) y
past true x xs y (k, lt, e) = (suc k, omega arith, e)
past false x xs y there = there

pub in_front : {X : Type 0} (b : Bool) (x : X) (xs : List X) → b ≡ true → Contains (cond b (x ∷ xs) xs) x
in_front true x xs e = (zero, omega arith, refl)
in_front false x xs e = cc

pub front_or_past : {X : Type 0} (b : Bool) (x : X) (xs : List X) (y : X) → Contains (cond b (x ∷ xs) xs) y → ((b ≡ true) × (x ≡ y)) ⊎ Contains xs y
front_or_past true x xs y (zero, lt, e) = inl (refl, e)
front_or_past true x xs y (suc k, lt, e) = inr (k, omega arith, e)
front_or_past false x xs y there = inr there

-- ---- elements of changed lists

pub none_in : {X : Type 0} (x : X) → Contains [] x → ⊥
none_in x (k, lt, e) = omega arith

pub in_map : {X Y : Type 0} (f : X → Y) (xs : List X) (x : X) → Contains xs x → Contains (map f xs) (f x)
in_map f [] x there = absurd (none_in x there)
in_map f (y ∷ xs) x (zero, lt, e) = (zero, omega arith, ap f e)
in_map f (y ∷ xs) x (suc k, lt, e) = let (n, low, same) = in_map f xs x (k, omega arith, e) in (suc n, omega arith, same)

pub from_map : {X Y : Type 0} (f : X → Y) (xs : List X) (y : Y) → Contains (map f xs) y → (x : X) × Contains xs x × (f x ≡ y)
from_map f [] y there = absurd (none_in y there)
from_map f (x ∷ xs) y (zero, lt, e) = (x, (zero, omega arith, refl), e)
from_map f (x ∷ xs) y (suc k, lt, e) = let (z, (n, low, same), is) = from_map f xs y (k, omega arith, e) in (z, (suc n, omega arith, same), is)

-- an element of one of several lists
pub in_joined : {X : Type 0} (parts : List (List X)) (k : ℕ) (part : List X) (x : X) → slice_get parts k ≡ Some part → Contains part x → Contains (flat_map (λ (p : List X). p) parts) x
in_joined [] k part x at there = cc
in_joined (p ∷ parts) zero part x at there =
    let e : p ≡ part = cc in
    Contains-append_left p (flat_map (λ (p : List _). p) parts) x (subst (λ (l : List _). Contains l x) (sym e) there)
in_joined (p ∷ parts) (suc k) part x at there = Contains-append_right p (flat_map (λ (p : List _). p) parts) x (in_joined parts k part x at there)

-- ---- by place

pub all_at : {X : Type 0} (P : X → Type 0) (xs : List X) (k : ℕ) (x : X) → All P xs → slice_get xs k ≡ Some x → P x
all_at P xs k x all at = subst P (get_or_from_slice_get xs k x x at) (all k x (slice_get_within xs k x at))

-- what holds of all elements from a place on holds of each of them
pub all_from : {X : Type 0} (P : X → Type 0) (from : ℕ) (xs : List X) (k : ℕ) (x : X) → All P (drop from xs) → from ≤ k → slice_get xs k ≡ Some x → P x
all_from P zero xs k x all le at = all_at P xs k x all at
all_from P (suc from) [] k x all le at = cc
all_from P (suc from) (y ∷ xs) zero x all le at = absurd (omega arith)
all_from P (suc from) (y ∷ xs) (suc k) x all le at = all_from P from xs k x all (omega arith) at

pub zip_at : {A B : Type 0} (R : A → B → Type 0) (xs : List A) (ys : List B) (k : ℕ) (x : A) → AllZip R xs ys → slice_get xs k ≡ Some x → (y : B) × (slice_get ys k ≡ Some y) × R x y
zip_at R [] ys k x all at = cc
zip_at R (z ∷ xs) [] k x all at = absurd all
zip_at R (z ∷ xs) (y ∷ ys) zero x all at = let e : z ≡ x = cc in (y, refl, subst (λ (a : _). R a y) e all.0)
zip_at R (z ∷ xs) (y ∷ ys) (suc k) x all at = zip_at R xs ys k x all.1 at
