-- Pairs of the places of a list at which another number stands.
use Rattle.std.proofs.Common.{◌≡◌, ◌≢◌, ℕ, zero, suc, ◌+◌, ◌-◌, ◌<◌, ◌≤◌, min, ◌==◌, true, false, List, [], ◌∷◌, ◌++◌, length, take, drop, nat_lt, slice_index, slice_set, slice_index_or, refl, ap, sym, subst, ◌∙◌, arith, ◌⊎◌, inl, inr}
use Rattle.std.specs.List.{range_with_len, swap, insert}
use Rattle.std.proofs.Math.Seq.{drop-cons}
use Rattle.std.proofs.lemmas.List.{take-append-drop, take-set, drop-set, length-take-le, get_or_default, length-set, drop_all, length-drop, get_or-drop, set_comm, set-get_or}
use Rattle.std.proofs.lemmas.Bool.Decides.{nat_tests}
use Rattle.std.proofs.lemmas.List.Sums.{prefix_len_is, prefix_len_passes}
use Rattle.std.proofs.lemmas.List.FromFn.{length-range_with_len}
use Rattle.crush_types.specs.declared.ItemId.{ItemId}
use Rattle.crush_hash.specs.Permutation.{differing, after_swaps, partner}
use Rattle.crush_hash.specs.Private.Pairs.{Pair, no_pair, IsRising, index, first_at, member_at, others, pair_of, put}

pub is_same : (m k : ℕ) → m ≡ k → (m == k) ≡ true
is_same m k e = grind (arith, nat_tests)

pub is_other : (m k : ℕ) → m ≢ k → (m == k) ≡ false
is_other m k e = grind (arith, nat_tests)

pub is_lower : (m k : ℕ) → m < k → nat_lt m k ≡ true
is_lower m k e = grind (arith, nat_tests)

pub is_not_lower : (m k : ℕ) → k ≤ m → nat_lt m k ≡ false
is_not_lower m k e = grind (arith, nat_tests)

pub either_way : (m k : ℕ) → (m ≡ k) ⊎ (m ≢ k)
either_way m k = grind arith

-- where a list begins with its place's own number, and where with another
begins_same : (k m : ℕ) (ms : List ℕ) → m ≡ k → differing k (m ∷ ms) ≡ differing (k + 1) ms
begins_same k m ms e = rw (is_same m k e) refl

begins_other : (k m : ℕ) (ms : List ℕ) → m ≢ k → differing k (m ∷ ms) ≡ (k, m) ∷ differing (k + 1) ms
begins_other k m ms e = rw (is_other m k e) refl

-- no place of 0, 1, .. differs
pub differing_range : (k n : ℕ) → differing k (range_with_len k n) ≡ []
differing_range k zero = refl
differing_range k (suc n) = begins_same k k (range_with_len (k + 1) n) refl ∙ differing_range (k + 1) n

differing_append : (xs ys : List ℕ) (k p : ℕ) → p ≡ k + length xs → differing k (xs ++ ys) ≡ differing k xs ++ differing p ys
differing_append [] ys k p e = let same : p ≡ k = omega arith in rw same refl
differing_append (m ∷ ms) ys k p e = elim (either_way m k) [
  | inl same ↦ rw (begins_same k m ms same, begins_same k m (ms ++ ys) same) (differing_append ms ys (k + 1) p (omega arith))
  | inr other ↦ rw (begins_other k m ms other, begins_other k m (ms ++ ys) other) (ap (λ (xs : List Pair). (k, m) ∷ xs) (differing_append ms ys (k + 1) p (omega arith)))
]

pub length-differing : (xs : List ℕ) (k : ℕ) → length (differing k xs) ≤ length xs
length-differing [] k = omega arith
length-differing (m ∷ ms) k = elim (either_way m k) [
  | inl same ↦ rw (begins_same k m ms same) (omega (arith, length-differing ms (k + 1)))
  | inr other ↦ rw (begins_other k m ms other) (omega (arith, length-differing ms (k + 1)))
]

-- ---- the pairs from a place on, seen from a place that isn't above it

index_low : (xs : List ℕ) (k p : ℕ) → p ≤ k → index (differing k xs) p ≡ 0
index_low [] k p low = refl
index_low (m ∷ ms) k p low = elim (either_way m k) [
  | inl same ↦ rw (begins_same k m ms same) (index_low ms (k + 1) p (omega arith))
  | inr other ↦ rw (begins_other k m ms other, is_not_lower k p low) refl
]

first_low : (xs : List ℕ) (k p : ℕ) → p < k → first_at (differing k xs) p ≡ p
first_low [] k p low = refl
first_low (m ∷ ms) k p low = elim (either_way m k) [
  | inl same ↦ rw (begins_same k m ms same) (first_low ms (k + 1) p (omega arith))
  | inr other ↦ rw (begins_other k m ms other, is_other k p (λ e. omega arith)) refl
]

others_low : (xs : List ℕ) (k p : ℕ) → p < k → others (differing k xs) p ≡ differing k xs
others_low [] k p low = refl
others_low (m ∷ ms) k p low = elim (either_way m k) [
  | inl same ↦ rw (begins_same k m ms same) (others_low ms (k + 1) p (omega arith))
  | inr other ↦ rw (begins_other k m ms other, is_other k p (λ e. omega arith)) refl
]

-- ---- the pairs before a place, and those from it on

record Split (xs : List ℕ) (k i p : ℕ) : Type 0 where
  front : take (index (differing k xs) p) (differing k xs) ≡ differing k (take i xs)
  rest : drop (index (differing k xs) p) (differing k xs) ≡ differing p (drop i xs)

split : (xs : List ℕ) (k i p : ℕ) → p ≡ k + i → i ≤ length xs → Split xs k i p
split xs k zero p e low =
    let same : p ≡ k = omega arith in
    let none : index (differing k xs) p ≡ 0 = index_low xs k p (omega arith) in
    record { front = rw none refl; rest = rw none (rw same refl) }
split [] k (suc i) p e low = absurd (omega arith)
split (m ∷ ms) k (suc i) p e low =
    let below = split ms (k + 1) i p (omega arith) (omega arith) in
    elim (either_way m k) [
      | inl same ↦ record {
        front = rw (begins_same k m ms same, begins_same k m (take i ms) same) below.front;
        rest = rw (begins_same k m ms same) below.rest;
      }
      | inr other ↦
          let one : 1 + index (differing (k + 1) ms) p ≡ suc (index (differing (k + 1) ms) p) = omega arith in
          record {
            front = rw (begins_other k m ms other, begins_other k m (take i ms) other, is_lower k p (omega arith), one) (ap (λ (xs : List Pair). (k, m) ∷ xs) below.front);
            rest = rw (begins_other k m ms other, is_lower k p (omega arith), one) below.rest;
          }
    ]

-- the pairs from a place on
from_place : (xs : List ℕ) (k i p : ℕ) → p ≡ k + i → i < length xs → drop (index (differing k xs) p) (differing k xs) ≡ differing p (slice_index xs i ∷ drop (suc i) xs)
from_place xs k i p e low = (split xs k i p e (omega arith)).rest ∙ ap (λ (ys : List ℕ). differing p ys) (drop-cons xs i 0 low)

-- a list's pairs have its numbers
pub member_of_list : (xs : List ℕ) (k i p : ℕ) → p ≡ k + i → i < length xs → member_at (differing k xs) p ≡ slice_index xs i
member_of_list xs k i p e low =
    let m = slice_index xs i in
    let ms = drop (suc i) xs in
    ap (λ (ys : List Pair). first_at ys p) (from_place xs k i p e low) ∙ (elim (either_way m p) [
      | inl same ↦ rw (begins_same p m ms same) (first_low ms (p + 1) p (omega arith) ∙ sym same)
      | inr other ↦ rw (begins_other p m ms other, is_same p p refl) refl
    ])

others_of_list : (xs : List ℕ) (k i p : ℕ) → p ≡ k + i → i < length xs → others (drop (index (differing k xs) p) (differing k xs)) p ≡ differing (p + 1) (drop (suc i) xs)
others_of_list xs k i p e low =
    let m = slice_index xs i in
    let ms = drop (suc i) xs in
    ap (λ (ys : List Pair). others ys p) (from_place xs k i p e low) ∙ (elim (either_way m p) [
      | inl same ↦ rw (begins_same p m ms same) (others_low ms (p + 1) p (omega arith))
      | inr other ↦ rw (begins_other p m ms other, is_same p p refl) refl
    ])

pair_first : (p m : ℕ) (ms : List ℕ) → differing p (m ∷ ms) ≡ pair_of p m ++ differing (p + 1) ms
pair_first p m ms = elim (either_way m p) [
  | inl same ↦ rw (is_same m p same) refl
  | inr other ↦ rw (is_other m p other) refl
]

pub set_splits : {X : Type 0} (xs : List X) (i : ℕ) (m : X) → i < length xs → slice_set xs i m ≡ take i xs ++ m ∷ drop (suc i) xs
set_splits xs i m low =
    let e : i + 1 ≡ suc i = omega arith in
    sym (take-append-drop i (slice_set xs i m)) ∙ rw (take-set xs i m, drop-set xs i m low, e) refl

-- a number put at a place of a list's pairs gives the pairs of the list with it
pub put_in_list : (xs : List ℕ) (k i p m : ℕ) → p ≡ k + i → i < length xs → put (differing k xs) p m ≡ differing k (slice_set xs i m)
put_in_list xs k i p m e low =
    let len : length (take i xs) ≡ i = length-take-le i xs (omega arith) in
    rw (set_splits xs i m low, differing_append (take i xs) (m ∷ drop (suc i) xs) k p (omega arith), pair_first p m (drop (suc i) xs), (split xs k i p e (omega arith)).front, others_of_list xs k i p e low) refl

-- ---- exchanges

-- an exchange, as two numbers that are put
pub swap_puts : (xs : List ℕ) (i j : ℕ) → i < length xs → j < length xs → swap xs i j ≡ slice_set (slice_set xs i (slice_index xs j)) j (slice_index xs i)
swap_puts [] i j li lj = refl
swap_puts (m ∷ ms) i j li lj = rw (get_or_default (m ∷ ms) j m 0 lj, get_or_default (m ∷ ms) i m 0 li) refl

-- the pairs of a list after an exchange of its places i and j
pub exchanged : (xs : List ℕ) (pairs one two : List Pair) (i j : ℕ) → i < length xs → j < length xs → pairs ≡ differing 0 xs → one ≡ put pairs i (member_at pairs j) → two ≡ put one j (member_at pairs i)
    → (one ≡ differing 0 (slice_set xs i (slice_index xs j))) × (two ≡ differing 0 (swap xs i j))
exchanged xs pairs one two i j li lj is first second =
    let at_i : member_at pairs i ≡ slice_index xs i = rw is (member_of_list xs 0 i i (omega arith) li) in
    let at_j : member_at pairs j ≡ slice_index xs j = rw is (member_of_list xs 0 j j (omega arith) lj) in
    let set = slice_set xs i (slice_index xs j) in
    let len : length set ≡ length xs = length-set xs i (slice_index xs j) in
    let once : one ≡ differing 0 set = first ∙ rw (at_j, is) (put_in_list xs 0 i i (slice_index xs j) (omega arith) li) in
    let twice : two ≡ differing 0 (slice_set set j (slice_index xs i)) = second ∙ rw (at_i, once) (put_in_list set 0 j j (slice_index xs i) (omega arith) (omega arith)) in
    (once, twice ∙ ap (λ (ys : List ℕ). differing 0 ys) (sym (swap_puts xs i j li lj)))

-- ---- the order of the pairs

at_head : (k m i : ℕ) (rest : List Pair) → ((j : ℕ) → j < length rest → k ≤ (slice_index_or rest j no_pair).0) → i < suc (length rest) → k ≤ (slice_index_or ((k, m) ∷ rest) i no_pair).0
at_head k m zero rest above low = omega arith
at_head k m (suc i) rest above low = above i (omega arith)

place_above : (xs : List ℕ) (k i : ℕ) → i < length (differing k xs) → k ≤ (slice_index_or (differing k xs) i no_pair).0
place_above [] k i low = absurd (omega arith)
place_above (m ∷ ms) k i low =
    let rest : (j : ℕ) → j < length (differing (k + 1) ms) → k ≤ (slice_index_or (differing (k + 1) ms) j no_pair).0 = λ j h. (let r = place_above ms (k + 1) j h in omega arith) in
    elim (either_way m k) [
      | inl same ↦
          let e = begins_same k m ms same in
          let under : i < length (differing (k + 1) ms) = subst (λ (ps : List Pair). i < length ps) e low in
          rw e (rest i under)
      | inr other ↦
          let e = begins_other k m ms other in
          let under : i < suc (length (differing (k + 1) ms)) = subst (λ (ps : List Pair). i < length ps) e low in
          rw e (at_head k m i (differing (k + 1) ms) rest under)
    ]

rising_head : (k m : ℕ) (rest : List Pair) → ((j : ℕ) → j < length rest → k + 1 ≤ (slice_index_or rest j no_pair).0) → IsRising rest → IsRising ((k, m) ∷ rest)
rising_head k m rest above rising zero zero lt low = absurd (omega arith)
rising_head k m rest above rising zero (suc j) lt low = let r = above j (omega arith) in omega arith
rising_head k m rest above rising (suc i) zero lt low = absurd (omega arith)
rising_head k m rest above rising (suc i) (suc j) lt low = rising i j (omega arith) (omega arith)

pub rising_differing : (xs : List ℕ) (k : ℕ) → IsRising (differing k xs)
rising_differing [] k = λ i j lt low. absurd (omega arith)
rising_differing (m ∷ ms) k = elim (either_way m k) [
  | inl same ↦ subst (λ (ps : List Pair). IsRising ps) (sym (begins_same k m ms same)) (rising_differing ms (k + 1))
  | inr other ↦ subst (λ (ps : List Pair). IsRising ps) (sym (begins_other k m ms other)) (rising_head k m (differing (k + 1) ms) (λ j h. place_above ms (k + 1) j h) (rising_differing ms (k + 1)))
]

-- a pair's place is no less than the pair's index
pub place_from_index : (pairs : List Pair) → IsRising pairs → (i : ℕ) → i < length pairs → i ≤ (slice_index_or pairs i no_pair).0
place_from_index pairs rising zero low = omega arith
place_from_index pairs rising (suc i) low =
    let before = place_from_index pairs rising i (omega arith) in
    let next = rising i (suc i) (omega arith) low in
    omega arith

-- what a search from above finds
pub index_is : (pairs : List Pair) (place at : ℕ) → IsRising pairs → at ≤ length pairs → ((j : ℕ) → at ≤ j → j < length pairs → place ≤ (slice_index_or pairs j no_pair).0) → (0 < at → (slice_index_or pairs (at - 1) no_pair).0 < place) → at ≡ index pairs place
index_is pairs place at rising low higher below =
    let lower : (k : ℕ) → k < at → nat_lt (slice_index_or pairs k no_pair).0 place ≡ true = λ k h.
    (let last = below (omega arith) in
    let either : (k ≡ at - 1) ⊎ (k < at - 1) = grind arith in
    is_lower (slice_index_or pairs k no_pair).0 place (elim either [
      | inl same ↦ rw same last
      | inr less ↦ (let r = rising k (at - 1) less (omega arith) in omega arith)
    ])) in
    sym (prefix_len_is (λ (pair : Pair). nat_lt pair.0 place) pairs at no_pair low lower (λ h. is_not_lower (slice_index_or pairs at no_pair).0 place (higher at (omega arith) h)))

-- the pair before a place's index is of a lower place
pub pair_below : (pairs : List Pair) (place : ℕ) → 0 < index pairs place → (slice_index_or pairs (index pairs place - 1) no_pair).0 < place
pair_below pairs place some =
    let h = prefix_len_passes (λ (pair : Pair). nat_lt pair.0 place) pairs (index pairs place - 1) no_pair (omega arith) in
    grind (arith, nat_tests, h)

-- the member of a place that has a pair, and of one that has none
pub member_there : (pairs : List Pair) (at place : ℕ) → at ≡ index pairs place → at < length pairs → (slice_index_or pairs at no_pair).0 ≡ place → member_at pairs place ≡ (slice_index_or pairs at no_pair).1
member_there pairs at place is low own =
    rw (← is, drop-cons pairs at no_pair low, is_same (slice_index_or pairs at no_pair).0 place own) refl

pub member_none : (pairs : List Pair) (at place : ℕ) → at ≡ index pairs place → ((j : ℕ) → at ≤ j → j < length pairs → (slice_index_or pairs j no_pair).0 ≢ place) → member_at pairs place ≡ place
member_none pairs at place is other =
    let either : (at < length pairs) ⊎ (length pairs ≤ at) = grind arith in
    elim either [
      | inl low ↦ rw (← is, drop-cons pairs at no_pair low, is_other (slice_index_or pairs at no_pair).0 place (other at (omega arith) low)) refl
      | inr high ↦ rw (← is, drop_all at pairs high) refl
    ]

-- ---- pairs that are inserted

others_none : (rest : List Pair) (place : ℕ) → (0 < length rest → (slice_index_or rest 0 no_pair).0 ≢ place) → others rest place ≡ rest
others_none [] place other = refl
others_none (pair ∷ rest) place other = rw (is_other pair.0 place (other (omega arith))) refl

-- a number put at a place that has no pair
pub put_new : (pairs : List Pair) (at place member : ℕ) → at ≡ index pairs place → (at < length pairs → (slice_index_or pairs at no_pair).0 ≢ place) → member ≢ place → insert pairs at (place, member) ≡ put pairs place member
put_new pairs at place member is new other =
    let len = length-drop at pairs in
    let first = get_or-drop at pairs 0 no_pair in
    let e : at + 0 ≡ at = omega arith in
    let rest : others (drop at pairs) place ≡ drop at pairs = others_none (drop at pairs) place (λ some. rw (first, e) (new (omega (arith, len)))) in
    rw (← is, is_other member place other, rest) refl

-- ---- an exchange of two places, the higher one first

swap_sym : (xs : List ℕ) (i j : ℕ) → i < length xs → j < length xs → i ≢ j → swap xs j i ≡ swap xs i j
swap_sym xs i j li lj other =
    swap_puts xs j i lj li ∙ set_comm xs j i (slice_index xs i) (slice_index xs j) (λ e. other (sym e)) ∙ sym (swap_puts xs i j li lj)

-- an exchange of a place with itself
pub swap_same : (xs : List ℕ) (i : ℕ) → i < length xs → swap xs i i ≡ xs
swap_same xs i low =
    let once = set-get_or xs i 0 in
    swap_puts xs i i low low ∙ ap (λ (ys : List ℕ). slice_set ys i (slice_index xs i)) once ∙ once

-- the pairs after the higher place j got its number, and after the place i got its own
pub exchanged_down : (xs : List ℕ) (pairs one two : List Pair) (i j : ℕ) → i < j → j < length xs → pairs ≡ differing 0 xs → one ≡ put pairs j (member_at pairs i) → two ≡ put one i (member_at pairs j)
    → (one ≡ differing 0 (slice_set xs j (slice_index xs i))) × (two ≡ differing 0 (swap xs i j))
exchanged_down xs pairs one two i j less lj is first second =
    let li : i < length xs = omega arith in
    let done = exchanged xs pairs one two j i lj li is first second in
    (done.0, done.1 ∙ ap (λ (ys : List ℕ). differing 0 ys) (swap_sym xs i j li lj (λ e. omega arith)))

-- ---- the first exchange

-- the place 0 and its partner
pub first_pairs : (id : ItemId) (size x q : ℕ) → q ≡ partner id size x 0 → q < size → q ≢ 0 → differing 0 (after_swaps id size x (min 1 (size - 1))) ≡ (0, q) ∷ (q, 0) ∷ []
first_pairs id size x q is low other =
    let xs = range_with_len 0 size in
    let len = length-range_with_len 0 size in
    let one : min 1 (size - 1) ≡ 1 = omega arith in
    let once : ((0, q) ∷ []) ≡ put [] 0 (member_at [] q) = rw (is_other q 0 other) refl in
    let twice : ((0, q) ∷ (q, 0) ∷ []) ≡ put ((0, q) ∷ []) q (member_at [] 0) = rw (is_lower 0 q (omega arith), is_other 0 q (λ e. omega arith)) refl in
    let done = exchanged xs [] ((0, q) ∷ []) ((0, q) ∷ (q, 0) ∷ []) 0 q (omega (arith, len)) (omega (arith, len)) (sym (differing_range 0 size)) once twice in
    rw (one, ← is) (sym done.1)

-- none, where it is its own partner
pub no_pairs : (id : ItemId) (size x q n : ℕ) → q ≡ partner id size x 0 → q ≡ 0 → 0 < size → n ≤ 1 → differing 0 (after_swaps id size x n) ≡ []
no_pairs id size x q n is own some low =
    let xs = range_with_len 0 size in
    let len = length-range_with_len 0 size in
    let itself : partner id size x 0 ≡ 0 = sym is ∙ own in
    let either : (n ≡ 0) ⊎ (n ≡ 1) = grind arith in
    elim either [
      | inl e ↦ rw e (differing_range 0 size)
      | inr e ↦ rw (e, itself) (ap (λ (ys : List ℕ). differing 0 ys) (swap_same xs 0 (omega (arith, len))) ∙ differing_range 0 size)
    ]
