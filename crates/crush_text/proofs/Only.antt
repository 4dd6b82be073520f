-- A draft declares one map.
use Rattle.std.proofs.Common.{◌≡◌, ◌∙◌, ◌⊎◌, inl, inr, ℕ, zero, suc, ◌+◌, ◌<◌, List, [], ◌∷◌, length, map, refl, sym, ap, arith, get_or}
use Rattle.std.specs.List.{Contains}
use Rattle.std.specs.List.Sorted.{IsPermutation, IsStrictlyIncreasing}
use Rattle.std.proofs.lemmas.List.Sorted.{IsPermutation-sym, IsPermutation-trans, Contains-permutation}
use Rattle.crush_map.specs.declared.draft.MapDraft.{MapDraft}
use Rattle.crush_map.specs.Map.{Map, IsMap, IsMapOf}

-- an element stands in a list
abbrev In : {X : Type 0} → X → List X → Type 0
In x [] = ⊥
In x (y ∷ ys) = (x ≡ y) ⊎ In x ys

-- keys increase
abbrev Rises : List ℕ → Type 0
Rises [] = Unit {0}
Rises (n ∷ ns) = ((k : ℕ) → In k ns → n < k) × Rises ns

contained : {X : Type 0} (xs : List X) (x : X) (k : ℕ) → k < length xs → get_or xs k x ≡ x → In x xs
contained [] x k less at = absurd (omega arith)
contained (y ∷ ys) x zero less at = inl (sym at)
contained (y ∷ ys) x (suc k) less at = inr (contained ys x k (omega arith) at)

contains : {X : Type 0} (xs : List X) (x : X) → In x xs → Contains xs x
contains [] x h = absurd h
contains (y ∷ ys) x (inl e) = (0, omega arith, sym e)
contains (y ∷ ys) x (inr h) = let (k, less, at) = contains ys x h in (suc k, omega arith, at)

moved : {X : Type 0} (xs ys : List X) → IsPermutation xs ys → (x : X) → In x xs → In x ys
moved xs ys p x h = let (k, less, at) = Contains-permutation xs ys x p (contains xs x h) in contained ys x k less at

later : (n : ℕ) (ns : List ℕ) → IsStrictlyIncreasing (n ∷ ns) → IsStrictlyIncreasing ns
later n ns up i less =
    let next : suc i + 1 ≡ suc (i + 1) = omega arith in
    let h = up (suc i) (omega arith) in
    rw next at h

first_below : (n : ℕ) (ns : List ℕ) → IsStrictlyIncreasing (n ∷ ns) → (k : ℕ) → In k ns → n < k
first_below n [] up k h = absurd h
first_below n (m ∷ ns) up k (inl e) = let first = up 0 (omega arith) in omega arith
first_below n (m ∷ ns) up k (inr h) =
    let first = up 0 (omega arith) in
    let rest = first_below m ns (later n (m ∷ ns) up) k h in
    omega arith

rises : (ns : List ℕ) → IsStrictlyIncreasing ns → Rises ns
rises [] up = tt
rises (n ∷ ns) up = (first_below n ns up, rises ns (later n ns up))

in_mapped : {X : Type 0} (key : X → ℕ) (xs : List X) (x : X) → In x xs → In (key x) (map key xs)
in_mapped key [] x h = absurd h
in_mapped key (y ∷ ys) x (inl e) = inl (ap key e)
in_mapped key (y ∷ ys) x (inr h) = inr (in_mapped key ys x h)

same_first : {X : Type 0} (key : X → ℕ) (x y : X) (xs ys : List X) → Rises (key x ∷ map key xs) → Rises (key y ∷ map key ys) → In x (y ∷ ys) → In y (x ∷ xs) → x ≡ y
same_first key x y xs ys up vp (inl e) there = e
same_first key x y xs ys up vp (inr h) (inl e) = sym e
same_first key x y xs ys up vp (inr h) (inr k) =
    let one = vp.0 (key x) (in_mapped key ys x h) in
    let other = up.0 (key y) (in_mapped key xs y k) in
    absurd (omega arith)

behind_first : {X : Type 0} (key : X → ℕ) (x y : X) (xs ys : List X) → Rises (key x ∷ map key xs) → x ≡ y → (z : X) → In z xs → In z (y ∷ ys) → In z ys
behind_first key x y xs ys up e z here (inr h) = h
behind_first key x y xs ys up e z here (inl f) =
    let less = up.0 (key z) (in_mapped key xs z here) in
    let same : key z ≡ key x = ap key (f ∙ sym e) in
    absurd (omega arith)

same_lists : {X : Type 0} (key : X → ℕ) (xs ys : List X) → Rises (map key xs) → Rises (map key ys) → ((z : X) → In z xs → In z ys) → ((z : X) → In z ys → In z xs) → xs ≡ ys
same_lists key [] [] up vp to from = refl
same_lists key [] (y ∷ ys) up vp to from = absurd (from y (inl refl))
same_lists key (x ∷ xs) [] up vp to from = absurd (to x (inl refl))
same_lists key (x ∷ xs) (y ∷ ys) up vp to from =
    let first = same_first key x y xs ys up vp (to x (inl refl)) (from y (inl refl)) in
    let rest = same_lists key xs ys up.1 vp.1
    (λ z h. behind_first key x y xs ys up first z h (to z (inr h)))
    (λ z h. behind_first key y x ys xs vp (sym first) z h (from z (inr h))) in
    ap (λ z. z ∷ xs) first ∙ ap (λ zs. y ∷ zs) rest

-- one order by number
one_order : {X : Type 0} (key : X → ℕ) (ds xs ys : List X) → IsPermutation ds xs → IsPermutation ds ys → IsStrictlyIncreasing (map key xs) → IsStrictlyIncreasing (map key ys) → xs ≡ ys
one_order key ds xs ys p q up vp =
    let to : IsPermutation xs ys = IsPermutation-trans xs ds ys (IsPermutation-sym ds xs p) q in
    same_lists key xs ys (rises (map key xs) up) (rises (map key ys) vp) (moved xs ys to) (moved ys xs (IsPermutation-sym xs ys to))

pub one_map : (d : MapDraft) (m n : Map) → IsMapOf d m → IsMapOf d n → IsMap m → IsMap n → m ≡ n
one_map d m n p q a b =
    let types : m.types ≡ n.types = one_order (λ t. t.number) d.types m.types n.types p.types q.types a.types b.types in
    let devices : m.devices ≡ n.devices = one_order (λ x. x.id) d.devices m.devices n.devices p.devices q.devices a.devices b.devices in
    let rules : m.rules ≡ n.rules = one_order (λ r. r.id) d.rules m.rules n.rules p.rules q.rules a.rules b.rules in
    let buckets : m.buckets ≡ n.buckets = p.buckets ∙ sym q.buckets in
    let tunables : m.tunables ≡ n.tunables = p.tunables ∙ sym q.tunables in
    ap (λ x. record m { types = x }) types ∙ (ap (λ x. record m { types = n.types; devices = x }) devices
    ∙ (ap (λ x. record m { types = n.types; devices = n.devices; buckets = x }) buckets
    ∙ (ap (λ x. record { types = n.types; devices = n.devices; buckets = n.buckets; rules = x; tunables = m.tunables }) rules
    ∙ ap (λ x. record { types = n.types; devices = n.devices; buckets = n.buckets; rules = n.rules; tunables = x }) tunables)))
