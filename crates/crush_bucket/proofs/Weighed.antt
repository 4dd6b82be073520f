-- Where some item weighs something, no place of weight 0 is picked; where none does, always the
-- same place is.
use Rattle.std.proofs.Common.{◌≡◌, ℕ, zero, suc, ◌+◌, ◌-◌, ◌*◌, ◌/◌, ◌%◌, ◌<◌, ◌≤◌, ◌^◌, ◌||◌, nat_lt, min, Bool, true, false, Option, Some, None, MatchOption, unwrap_or, List, [], ◌∷◌, length, take, drop, refl, ap, ◌∙◌, arith, ◌⊎◌, inl, inr}
use Rattle.std.specs.List.{list_any}
use Rattle.std.proofs.Math.Nat.{pow-succ', mul-lt-mul_of_pos_right, div-lt_iff_lt-mul}
use Rattle.std.proofs.lemmas.Bool.{lt-ltb}
use Rattle.std.proofs.lemmas.Bool.Decides.{nat_tests}
use Rattle.std.proofs.lemmas.List.Sums.{sum_by-cons}
use Rattle.crush_hash.specs.Hash.{hash4}
use Rattle.crush_map.specs.crush_types.specs.declared.ItemId.{ItemId}
use Rattle.crush_bucket.specs.Bucket.{WeightedItem, word, at, item_at, weight_at, weight_within, total_weight}
use Rattle.crush_bucket.specs.Kinds.{takes, greatest, list_place, list_pick, label, tree_draw, height_of, place_within, tree_pick, straw2_place, straw2_pick}
use Rattle.crush_bucket.specs.Laws.{IsGreatest, NonePasses}
use Rattle.crush_bucket.specs.Pickable.{weighs, IsWeighed}
use Rattle.crush_bucket.proofs.Arrivals.{arrives, never_arrives}
use Rattle.crush_bucket.proofs.Changes.{at_place}
use Rattle.crush_bucket.proofs.First.{first_is}
use Rattle.crush_bucket.proofs.Greatest.{greatest_is}
use Rattle.crush_bucket.proofs.Hashes.{hash4_small}
use Rattle.crush_bucket.proofs.Heights.{height_enough}
use Rattle.crush_bucket.proofs.Weights.{within_total, within_more}

-- ---- weights and their sums

or_true : (a b : Bool) → (a || b) ≡ true → (a ≡ true) ⊎ (b ≡ true)
or_true true b e = inl refl
or_true false b e = inr e

or_false : (a b : Bool) → (a || b) ≡ false → (a ≡ false) × (b ≡ false)
or_false true b e = cc
or_false false b e = (refl, e)

total_cons : (e : WeightedItem) (items : List WeightedItem) → total_weight (e ∷ items) ≡ e.1.0 + total_weight items
total_cons e items = sum_by-cons (λ (x : WeightedItem). x.1.0) e items

some_total : (items : List WeightedItem) → list_any weighs items ≡ true → 0 < total_weight items
some_total [] any = cc
some_total (e ∷ items) any = elim (or_true (weighs e) (list_any weighs items) any) [
  | inl this ↦ let some : 0 < e.1.0 = grind (arith, nat_tests) in omega (arith, total_cons e items)
  | inr other ↦ omega (arith, total_cons e items, some_total items other)
]

no_total : (items : List WeightedItem) → list_any weighs items ≡ false → total_weight items ≡ 0
no_total [] none = refl
no_total (e ∷ items) none =
    let (this, others) = or_false (weighs e) (list_any weighs items) none in
    let nothing : e.1.0 ≡ 0 = grind (arith, nat_tests) in
    omega (arith, total_cons e items, no_total items others)

-- a place that weighs something is one of the list's
pub inside : (items : List WeightedItem) (place : ℕ) → 0 < weight_at items place → place < length items
inside [] place some = absurd (omega arith)
inside (e ∷ items) zero some = omega arith
inside (e ∷ items) (suc place) some = let lt = inside items place some in omega arith

all_within : (items : List WeightedItem) (n : ℕ) → length items ≤ n → weight_within items 0 n ≡ total_weight items
all_within [] zero enough = refl
all_within [] (suc n) enough = refl
all_within (e ∷ items) zero enough = absurd (omega arith)
all_within (e ∷ items) (suc n) enough =
    let all : weight_within items 0 n ≡ total_weight items = all_within items n (omega arith) in
    let front : total_weight (take (suc n) (e ∷ items)) ≡ e.1.0 + total_weight (take n items) = total_cons e (take n items) in
    omega (arith, total_cons e items, front, all)

one_within : (items : List WeightedItem) (from : ℕ) → weight_within items from 1 ≡ weight_at items from
one_within [] zero = refl
one_within [] (suc from) = refl
one_within (e ∷ items) zero = total_cons e [] ∙ omega arith
one_within (e ∷ items) (suc from) = one_within items from

take_sum : (items : List WeightedItem) (a b : ℕ) → total_weight (take (a + b) items) ≡ total_weight (take a items) + total_weight (take b (drop a items))
take_sum items zero b = let e : 0 + b ≡ b = omega arith in rw e (omega arith)
take_sum [] (suc a) zero = let e : suc a + 0 ≡ suc a = omega arith in rw e refl
take_sum [] (suc a) (suc b) = let e : suc a + suc b ≡ suc (suc (a + b)) = omega arith in rw e refl
take_sum (e ∷ items) (suc a) b =
    let more : suc a + b ≡ suc (a + b) = omega arith in
    let all : total_weight (take (suc (a + b)) (e ∷ items)) ≡ e.1.0 + total_weight (take (a + b) items) = total_cons e (take (a + b) items) in
    let front : total_weight (take (suc a) (e ∷ items)) ≡ e.1.0 + total_weight (take a items) = total_cons e (take a items) in
    let rest : drop (suc a) (e ∷ items) ≡ drop a items = refl in
    rw more (omega (arith, all, front, take_sum items a b))

drop_both : (items : List WeightedItem) (from a : ℕ) → drop a (drop from items) ≡ drop (from + a) items
drop_both items zero a = let e : 0 + a ≡ a = omega arith in rw e refl
drop_both [] (suc from) zero = let e : suc from + 0 ≡ suc from = omega arith in rw e refl
drop_both [] (suc from) (suc a) = let e : suc from + suc a ≡ suc (suc (from + a)) = omega arith in rw e refl
drop_both (e ∷ items) (suc from) a =
    let more : suc from + a ≡ suc (from + a) = omega arith in rw more (drop_both items from a)

both_within : (items : List WeightedItem) (from a b : ℕ) → weight_within items from (a + b) ≡ weight_within items from a + weight_within items (from + a) b
both_within items from a b =
    take_sum (drop from items) a b ∙ ap (λ (rest : List WeightedItem). weight_within items from a + total_weight (take b rest)) (drop_both items from a)

-- the weight of a range is that of its halves
halves : (items : List WeightedItem) (from h : ℕ) → weight_within items from (2 ^ suc h) ≡ weight_within items from (2 ^ h) + weight_within items (from + 2 ^ h) (2 ^ h)
halves items from h =
    let double : 2 ^ suc h ≡ 2 ^ h + 2 ^ h = omega (arith, pow-succ' 2 h) in
    ap (λ (n : ℕ). weight_within items from n) double ∙ both_within items from (2 ^ h) (2 ^ h)

-- m of k parts of a weight are less than the whole where m is less than k
part_below : (m k weight : ℕ) → m < k → 0 < weight → m * weight / k < weight
part_below m k weight less some =
    let product : m * weight < k * weight = mul-lt-mul_of_pos_right less some in
    let positive : 0 < k = omega arith in
    (div-lt_iff_lt-mul positive).1 (omega (arith, product))

-- ---- a list

-- the first place that weighs something takes each input: the sum up to it is its weight
takes_first : (id : ItemId) (items : List WeightedItem) (x r place : ℕ) → weight_within items 0 place ≡ 0 → 0 < weight_at items place → takes id items x r place ≡ true
takes_first id items x r place none some =
    let sum : weight_within items 0 (place + 1) ≡ weight_at items place = omega (arith, within_more items place) in
    let hash = hash4 x (word (item_at items place)) r (word id) in
    let less : hash % 65536 * weight_at items place / 65536 < weight_at items place = part_below (hash % 65536) 65536 (weight_at items place) (omega arith) some in
    rw sum (lt-ltb _ _ less)

some_takes : (id : ItemId) (items : List WeightedItem) (x r n : ℕ) → 0 < weight_within items 0 n → (i : ℕ) × (i < n) × (takes id items x r i ≡ true)
some_takes id items x r zero some = absurd (omega arith)
some_takes id items x r (suc n) some =
    let next : n + 1 ≡ suc n = omega arith in
    let more : weight_within items 0 (suc n) ≡ weight_within items 0 n + weight_at items n = rw next at (within_more items n) in
    let either : (0 < weight_within items 0 n) ⊎ (weight_within items 0 n ≡ 0) = grind arith in
    elim either [
      | inl before ↦ let (i, lt, passes) = some_takes id items x r n before in (i, omega arith, passes)
      | inr none ↦ (n, omega arith, takes_first id items x r n none (omega arith))
    ]

-- a place of weight 0 takes no input
takes_none : (id : ItemId) (items : List WeightedItem) (x r place : ℕ) → weight_at items place ≡ 0 → takes id items x r place ≡ false
takes_none id items x r place none = rw none (grind (arith, nat_tests))

found_weighs : (id : ItemId) (items : List WeightedItem) (x r : ℕ) (found : Option ℕ) → 0 < total_weight items
    → MatchOption found (NonePasses (takes id items x r) (length items)) (IsGreatest (takes id items x r) (length items)) → 0 < weight_at items (unwrap_or found 0)
found_weighs id items x r None some none =
    let (i, lt, passes) = some_takes id items x r (length items) (omega (arith, some, all_within items (length items) (omega arith))) in
    let fails = none i lt in cc
found_weighs id items x r (Some i) some is =
    let either : (0 < weight_at items i) ⊎ (weight_at items i ≡ 0) = grind arith in
    elim either [
      | inl weight ↦ weight
      | inr none ↦ let fails = takes_none id items x r i none in let passes = is.passes in cc
    ]

weighed_at : (items : List WeightedItem) (place : ℕ) → 0 < weight_at items place → IsWeighed items (item_at items place)
weighed_at items place some = (place, inside items place some, (refl, some))

pub list_weighed : (id : ItemId) (items : List WeightedItem) (x r : ℕ) → list_any weighs items ≡ true → IsWeighed items (list_pick id items x r)
unfolding list_pick
list_weighed id items x r any =
    weighed_at items (list_place id items x r) (found_weighs id items x r (greatest (takes id items x r) (length items)) (some_total items any) (greatest_is (takes id items x r) (length items)))

no_weight_at : (items : List WeightedItem) (place : ℕ) → list_any weighs items ≡ false → weight_at items place ≡ 0
no_weight_at items place none = omega (arith, one_within items place, within_total items place 1, no_total items none)

none_found : (p : ℕ → Bool) (n : ℕ) (found : Option ℕ) → ((i : ℕ) → p i ≡ false) → MatchOption found (NonePasses p n) (IsGreatest p n) → unwrap_or found 0 ≡ 0
none_found p n None fails is = refl
none_found p n (Some i) fails is = let passes = is.passes in let not = fails i in cc

pub list_first : (id : ItemId) (items : List WeightedItem) (x r : ℕ) → list_any weighs items ≡ false → list_pick id items x r ≡ item_at items 0
unfolding list_pick
list_first id items x r none =
    let p = takes id items x r in
    let first : list_place id items x r ≡ 0 = none_found p (length items) (greatest p (length items)) (λ i. takes_none id items x r i (no_weight_at items i none)) (greatest_is p (length items)) in
    ap (λ (place : ℕ). item_at items place) first

-- ---- a tree

-- a draw is below the weight of its range, if that weighs something
draw_below : (id : ItemId) (items : List WeightedItem) (x r from h : ℕ) → 0 < weight_within items from (2 ^ h) → tree_draw id items x r from h < weight_within items from (2 ^ h)
draw_below id items x r from h some =
    part_below (hash4 x (label from h) r (word id)) (2 ^ 32) (weight_within items from (2 ^ h)) (hash4_small x (label from h) r (word id)) some

-- the walk into a range that weighs something goes on to ranges that do: never left below a weight
-- of 0, and never right where the left half has the whole weight
end_weighs : (id : ItemId) (items : List WeightedItem) (x r from h : ℕ) → 0 < weight_within items from (2 ^ h) → 0 < weight_at items (place_within id items x r from h)
end_weighs id items x r from zero some = omega (arith, some, one_within items from)
end_weighs id items x r from (suc h) some =
    let left = weight_within items from (2 ^ h) in
    let draw = draw_below id items x r from (suc h) some in
    let goes : (b : Bool) → nat_lt (tree_draw id items x r from (suc h)) left ≡ b → 0 < weight_at items (place_within id items x r from (suc h)) = λ b. elim b as (λ b. nat_lt (tree_draw id items x r from (suc h)) left ≡ b → 0 < weight_at items (place_within id items x r from (suc h))) [
      | true ↦ λ e. (let less : tree_draw id items x r from (suc h) < left = grind (arith, nat_tests, e) in rw e (end_weighs id items x r from h (omega arith)))
      | false ↦ λ e. (let more : left ≤ tree_draw id items x r from (suc h) = grind (arith, nat_tests, e) in rw e (end_weighs id items x r (from + 2 ^ h) h (omega (arith, draw, more, halves items from h))))
    ] in goes (nat_lt (tree_draw id items x r from (suc h)) left) refl

pub tree_weighed : (id : ItemId) (items : List WeightedItem) (x r : ℕ) → list_any weighs items ≡ true → IsWeighed items (tree_pick id items x r)
unfolding tree_pick
tree_weighed id items x r any =
    let place = place_within id items x r 0 (height_of (length items)) in
    let all = all_within items (2 ^ height_of (length items)) (height_enough (length items)) in
    let some : 0 < weight_at items place = end_weighs id items x r 0 (height_of (length items)) (omega (arith, all, some_total items any)) in
    let lt = inside items place some in
    let here : min place (length items - 1) ≡ place = omega arith in
    rw here (weighed_at items place some)

-- where nothing weighs, the walk goes right to the last place of the range
end_last : (id : ItemId) (items : List WeightedItem) (x r from h : ℕ) → total_weight items ≡ 0 → place_within id items x r from h + 1 ≡ from + 2 ^ h
end_last id items x r from zero none = omega arith
end_last id items x r from (suc h) none =
    let left : weight_within items from (2 ^ h) ≡ 0 = omega (arith, within_total items from (2 ^ h)) in
    let last : place_within id items x r (from + 2 ^ h) h + 1 ≡ from + 2 ^ h + 2 ^ h = end_last id items x r (from + 2 ^ h) h none in
    let not : nat_lt (tree_draw id items x r from (suc h)) 0 ≡ false = grind (arith, nat_tests) in
    rw (left, not) (omega (arith, last, pow-succ' 2 h))

pub tree_last : (id : ItemId) (items : List WeightedItem) (x r : ℕ) → list_any weighs items ≡ false → tree_pick id items x r ≡ item_at items (length items - 1)
unfolding tree_pick
tree_last id items x r none =
    let last = end_last id items x r 0 (height_of (length items)) (no_total items none) in
    let enough = height_enough (length items) in
    let here : min (place_within id items x r 0 (height_of (length items))) (length items - 1) ≡ length items - 1 = omega arith in
    ap (λ (place : ℕ). item_at items place) here

-- ---- a straw2 bucket

some_weighs_at : (items : List WeightedItem) → list_any weighs items ≡ true → (place : ℕ) × (0 < weight_at items place)
some_weighs_at [] any = cc
some_weighs_at (e ∷ items) any = elim (or_true (weighs e) (list_any weighs items) any) [
  | inl this ↦ (0, (let some : 0 < e.1.0 = grind (arith, nat_tests) in some))
  | inr other ↦ (let (place, some) = some_weighs_at items other in (suc place, some))
]

-- the item that arrives first weighs something, since one that weighs nothing never arrives
pub straw2_weighed : (items : List WeightedItem) (x r : ℕ) → list_any weighs items ≡ true → IsWeighed items (straw2_pick items x r)
straw2_weighed items x r any =
    let (other, some) = some_weighs_at items any in
    let few = inside items other some in
    let first = first_is items x r (omega (arith, few)) in
    let place = straw2_place items x r in
    let either : (0 < weight_at items place) ⊎ (weight_at items place ≡ 0) = grind arith in
    rw (at_place items x r place refl) (weighed_at items place (elim either [
      | inl more ↦ more
      | inr none ↦ absurd (omega (arith, first.soonest other few, arrives x r (at items other) some, never_arrives x r (at items place) none))
    ]))

-- where none weighs anything none arrives before the first
pub straw2_first : (items : List WeightedItem) (x r : ℕ) → 0 < length items → list_any weighs items ≡ false → straw2_pick items x r ≡ item_at items 0
straw2_first items x r some none =
    let place = straw2_place items x r in
    let first = first_is items x r some in
    let split : (place ≡ 0) ⊎ (0 < place) = grind arith in
    at_place items x r 0 (elim split [
      | inl is ↦ is
      | inr later ↦ absurd (omega (arith, first.before 0 later, never_arrives x r (at items 0) (no_weight_at items 0 none), never_arrives x r (at items place) (no_weight_at items place none)))
    ])
