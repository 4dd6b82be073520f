-- Places of a permutation: what an exchange changes, and what stays.
use Rattle.std.proofs.Common.{◌≡◌, ◌≢◌, ℕ, zero, suc, ◌+◌, ◌-◌, ◌<◌, ◌≤◌, ◌%◌, List, [], ◌∷◌, ◌++◌, length, min, slice_index, slice_index_or, refl, ap, sym, ◌∙◌, arith, ◌⊎◌, inl, inr}
use Rattle.std.specs.List.{range_with_len, swap}
use Rattle.std.specs.List.Sorted.{IsPermutation}
use Rattle.std.proofs.lemmas.List.{map-id}
use Rattle.std.proofs.lemmas.List.FromFn.{length-range_with_len, get_or-range_with_len, map-range_with_len_more, fill_by_all}
use Rattle.std.proofs.lemmas.List.Edits.{length-swap, swapped_from_swap}
use Rattle.std.proofs.lemmas.List.Sorted.{IsPermutation-refl, IsPermutation-swap, IsPermutation-trans, IsPermutation-sym, Contains-permutation, length_permutation}
use Rattle.std.proofs.lemmas.List.Elements.{Contains-get_or}
use Rattle.crush_hash.specs.Hash.{hash3}
use Rattle.crush_types.specs.declared.ItemId.{ItemId}
use Rattle.crush_hash.specs.Permutation.{word}
use Rattle.crush_hash.specs.Permutation.{permutation, after_swaps, partner}

-- one number more
pub range_more : (n : ℕ) → range_with_len 0 n ++ n ∷ [] ≡ range_with_len 0 (n + 1)
range_more n =
    let e = map-range_with_len_more (λ (k : ℕ). k) 0 n n (omega arith) in
    sym (sym (map-id (range_with_len 0 (n + 1))) ∙ e ∙ ap (λ (l : List ℕ). l ++ n ∷ []) (map-id (range_with_len 0 n)))

-- a partner is a place
pub partner_within : (id : ItemId) (size x place : ℕ) → place < size → (place ≤ partner id size x place) × (partner id size x place < size)
partner_within id size x place h = (omega arith, omega arith)

pub length-after_swaps : (id : ItemId) (size x n : ℕ) → length (after_swaps id size x n) ≡ size
length-after_swaps id size x zero = length-range_with_len 0 size
length-after_swaps id size x (suc n) =
    length-swap (after_swaps id size x n) n (partner id size x n) ∙ length-after_swaps id size x n

-- one exchange more
pub after_swaps_more : (id : ItemId) (size x n : ℕ) → swap (after_swaps id size x n) n (partner id size x n) ≡ after_swaps id size x (n + 1)
after_swaps_more id size x n = let e : n + 1 ≡ suc n = omega arith in rw e refl

-- a place outside an exchange has the contents that it had
other_place : (xs : List ℕ) (a b p : ℕ) → a < length xs → b < length xs → p ≢ a → p ≢ b → slice_index_or (swap xs a b) p 0 ≡ slice_index_or xs p 0
other_place xs a b p la lb na nb = (swapped_from_swap xs (swap xs a b) a b 0 la lb refl).2 p na nb

first_place : (xs : List ℕ) (a b : ℕ) → a < length xs → b < length xs → slice_index_or (swap xs a b) a 0 ≡ slice_index_or xs b 0
first_place xs a b la lb = (swapped_from_swap xs (swap xs a b) a b 0 la lb refl).0

-- the places below n stay as they are after n exchanges
stays : (id : ItemId) (size x p n m : ℕ) → p < n → n + m ≤ size → slice_index_or (after_swaps id size x (n + m)) p 0 ≡ slice_index_or (after_swaps id size x n) p 0
stays id size x p n zero below within = let e : n + zero ≡ n = omega arith in rw e refl
stays id size x p n (suc m) below within =
    let e : n + suc m ≡ suc (n + m) = omega arith in
    let w = partner_within id size x (n + m) (omega arith) in
    let len = length-after_swaps id size x (n + m) in
    let one = other_place (after_swaps id size x (n + m)) (n + m) (partner id size x (n + m)) p (omega (arith, len)) (omega (arith, len, w)) (λ q. omega arith) (λ q. omega (arith, w)) in
    rw e (one ∙ stays id size x p n m below (omega arith))

-- an exchange of a place with itself changes nothing
same_place : (xs : List ℕ) (a b p : ℕ) → a < length xs → b ≡ a → slice_index_or (swap xs a b) p 0 ≡ slice_index_or xs p 0
same_place xs a b p la e =
    let either : (p ≡ a) ⊎ (p ≢ a) = grind arith in
    elim either [
      | inl q ↦ rw (q, e) (first_place xs a a la la)
      | inr q ↦ rw e (other_place xs a a p la la q q)
    ]

-- the last exchange is of the last place with itself
last_swap : (id : ItemId) (size x p : ℕ) → 0 < size → slice_index_or (after_swaps id size x size) p 0 ≡ slice_index_or (after_swaps id size x (size - 1)) p 0
last_swap id size x p some =
    let e : suc (size - 1) ≡ size = omega arith in
    let m = size - 1 in
    let len = length-after_swaps id size x (size - 1) in
    let one : size - (size - 1) ≡ 1 = omega arith in
    let same : partner id size x (size - 1) ≡ size - 1 = omega (arith, partner_within id size x (size - 1) (omega arith)) in
    ap (λ (k : ℕ). slice_index_or (after_swaps id size x k) p 0) (sym e) ∙ same_place (after_swaps id size x (size - 1)) (size - 1) (partner id size x (size - 1)) p (omega (arith, len)) same

-- the members of the list after n exchanges that are those of the permutation
pub member_is : (id : ItemId) (size x place n : ℕ) → place < size → n ≤ size → min (place + 1) (size - 1) ≤ n → slice_index (after_swaps id size x n) place ≡ slice_index (permutation id size x) place
unfolding permutation
member_is id size x place n within few enough =
    let either : ((n ≡ size) ⊎ (n ≡ size - 1)) ⊎ ((place < n) × (n ≤ size - 1)) = grind arith in
    elim either [
      | inl (inl e) ↦ rw e (last_swap id size x place (omega arith))
      | inl (inr e) ↦ rw e refl
      | inr below ↦
          let e : n + (size - 1 - n) ≡ size - 1 = omega arith in
          sym (ap (λ (k : ℕ). slice_index_or (after_swaps id size x k) place 0) (sym e) ∙ stays id size x place n (size - 1 - n) below.0 (omega arith))
    ]

-- the first member after one exchange
pub first_after_one : (id : ItemId) (size x : ℕ) → 0 < size → slice_index (after_swaps id size x 1) 0 ≡ partner id size x 0
first_after_one id size x some =
    let w = partner_within id size x 0 some in
    let len = length-range_with_len 0 size in
    first_place (range_with_len 0 size) 0 (partner id size x 0) (omega (arith, len)) (omega (arith, len, w))
    ∙ (get_or-range_with_len 0 size (partner id size x 0) 0 (omega (arith, w)) ∙ omega arith)

-- the short cut: the first member of the permutation
pub first_member_is : (id : ItemId) (size x : ℕ) → 0 < size → partner id size x 0 ≡ slice_index (permutation id size x) 0
unfolding permutation
first_member_is id size x some =
    let either : (size ≡ 1) ⊎ (1 < size) = grind arith in
    elim either [
      | inl e ↦ rw e (let h : hash3 x (word id) 0 % (1 - 0) < 1 = omega arith in omega arith)
      | inr more ↦ sym (first_after_one id size x some) ∙ member_is id size x 0 1 some (omega arith) (omega arith)
    ]

-- exchanges make a permutation
pub IsPermutation-after_swaps : (id : ItemId) (size x n : ℕ) → n ≤ size → IsPermutation (range_with_len 0 size) (after_swaps id size x n)
IsPermutation-after_swaps id size x zero h = IsPermutation-refl (range_with_len 0 size)
IsPermutation-after_swaps id size x (suc n) h =
    let len = length-after_swaps id size x n in
    let w = partner_within id size x n (omega arith) in
    IsPermutation-trans (range_with_len 0 size) (after_swaps id size x n) (after_swaps id size x (suc n)) (IsPermutation-after_swaps id size x n (omega arith))
    (IsPermutation-swap (after_swaps id size x n) (after_swaps id size x (suc n)) n (partner id size x n) (omega (arith, len)) (omega (arith, len, w)) refl)

pub IsPermutation-permutation : (id : ItemId) (size x : ℕ) → IsPermutation (range_with_len 0 size) (permutation id size x)
unfolding permutation
IsPermutation-permutation id size x = IsPermutation-after_swaps id size x (size - 1) (omega arith)

-- each member is a place
pub member_below : (id : ItemId) (size x place : ℕ) → place < size → slice_index (permutation id size x) place < size
member_below id size x place within =
    let perm = IsPermutation-permutation id size x in
    let len : length (permutation id size x) ≡ size = length_permutation (range_with_len 0 size) (permutation id size x) perm ∙ length-range_with_len 0 size in
    let at = Contains-permutation (permutation id size x) (range_with_len 0 size) (slice_index (permutation id size x) place) (IsPermutation-sym (range_with_len 0 size) (permutation id size x) perm) (Contains-get_or (permutation id size x) place 0 (omega (arith, len))) in
    let k = at.0 in
    let low : k < size = omega (arith, at.1, length-range_with_len 0 size) in
    let is = get_or-range_with_len 0 size k (slice_index (permutation id size x) place) low in
    omega (arith, at.2, is)
