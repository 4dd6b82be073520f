-- Sums of weights.
use Rattle.std.proofs.Common.{◌≡◌, ℕ, zero, suc, ◌+◌, ◌≤◌, List, [], ◌∷◌, length, take, drop, min, refl, ap, ◌∙◌, arith}
use Rattle.std.proofs.lemmas.List.{take_min, drop_min}
use Rattle.std.proofs.lemmas.List.Sums.{sum_by-cons}
use Rattle.crush_bucket.specs.Bucket.{WeightedItem, total_weight, weight_at, weight_within}

total_cons : (e : WeightedItem) (items : List WeightedItem) → total_weight (e ∷ items) ≡ e.1.0 + total_weight items
total_cons e items = sum_by-cons (λ (x : WeightedItem). x.1.0) e items

-- a front weighs no more than the whole
pub total_take : (items : List WeightedItem) (n : ℕ) → total_weight (take n items) ≤ total_weight items
total_take items zero = omega arith
total_take [] (suc n) = omega arith
total_take (e ∷ items) (suc n) =
    let front : total_weight (take (suc n) (e ∷ items)) ≡ e.1.0 + total_weight (take n items) = total_cons e (take n items) in
    omega (arith, total_take items n, total_cons e items, front)

-- nor does a rest
pub total_drop : (items : List WeightedItem) (n : ℕ) → total_weight (drop n items) ≤ total_weight items
total_drop items zero = omega arith
total_drop [] (suc n) = omega arith
total_drop (e ∷ items) (suc n) =
    let rest : total_weight (drop (suc n) (e ∷ items)) ≡ total_weight (drop n items) = refl in
    omega (arith, total_drop items n, total_cons e items, rest)

pub within_total : (items : List WeightedItem) (from n : ℕ) → weight_within items from n ≤ total_weight items
within_total items from n = omega (arith, total_take (drop from items) n, total_drop items from)

-- one place more
take_more : (items : List WeightedItem) (n : ℕ) → total_weight (take (suc n) items) ≡ total_weight (take n items) + weight_at items n
take_more [] zero = refl
take_more [] (suc n) = refl
take_more (e ∷ items) zero = omega arith
take_more (e ∷ items) (suc n) =
    let more : total_weight (take (suc (suc n)) (e ∷ items)) ≡ e.1.0 + total_weight (take (suc n) items) = total_cons e (take (suc n) items) in
    let front : total_weight (take (suc n) (e ∷ items)) ≡ e.1.0 + total_weight (take n items) = total_cons e (take n items) in
    let at : weight_at (e ∷ items) (suc n) ≡ weight_at items n = refl in
    omega (arith, take_more items n, more, front, at)

pub within_more : (items : List WeightedItem) (n : ℕ) → weight_within items 0 (n + 1) ≡ weight_within items 0 n + weight_at items n
within_more items n = let e : n + 1 ≡ suc n = omega arith in rw e (take_more items n)

-- a part of a slice, cut at its end
pub within_cut : (items : List WeightedItem) (from n : ℕ) → total_weight (take (min n (length (drop (min from (length items)) items))) (drop (min from (length items)) items)) ≡ weight_within items from n
within_cut items from n =
    ap total_weight (take_min n (drop (min from (length items)) items)) ∙ ap (λ (es : List WeightedItem). total_weight (take n es)) (drop_min from items)
