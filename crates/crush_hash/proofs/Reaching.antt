-- The pairs of a permutation as far as it is made.
use Rattle.std.proofs.Common.{◌≡◌, ◌≢◌, ℕ, ◌+◌, ◌-◌, ◌<◌, ◌≤◌, ◌^◌, Bool, true, false, min, List, [], ◌∷◌, length, take, slice_index, slice_set, refl, ap, sym, ◌∙◌, arith, inl, inr}
use Rattle.std.specs.List.{swap}
use Rattle.std.proofs.lemmas.Bool.{false≢true}
use Rattle.std.proofs.lemmas.List.{length-take-le}
use Rattle.crush_types.specs.declared.ItemId.{ItemId}
use Rattle.crush_hash.specs.declared.reached.Progress.{Progress}
use Rattle.crush_hash.specs.Permutation.{differing, after_swaps, partner}
use Rattle.crush_hash.specs.Private.Pairs.{Pair, IsRising, member_at}
use Rattle.crush_hash.specs.Private.Reached.{IsReached, IsEmpty, swaps_of, len_by, room_of}
use Rattle.crush_hash.proofs.Members.{after_swaps_more, length-after_swaps, partner_within}
use Rattle.crush_hash.proofs.Differing.{differing_range, rising_differing, member_of_list, either_way, swap_same, first_pairs, no_pairs, is_same, is_other}
use Rattle.crush_hash.proofs.Exchanging.{own_differs}

-- before the first exchange there are no pairs
pub new_is : (r : Progress) (row : List Pair) → IsEmpty r → r.size < 2 ^ 32 → room_of r.size ≤ length row → IsReached r row
new_is r row empty small room = record {
  pairs = λ written. rw (empty.len, written, empty.swaps) (sym (differing_range 0 r.size));
  known = λ e. absurd (false≢true (sym e ∙ empty.written));
  len = omega (arith, empty.len);
  made = rw (empty.written, empty.swaps) (omega arith);
  room = omega (arith, room);
  two = omega (arith, room);
  small = small;
}

-- the pairs rise
pub rising_of : (id : ItemId) (size x n : ℕ) (pairs : List Pair) → pairs ≡ differing 0 (after_swaps id size x n) → IsRising pairs
rising_of id size x n pairs has = rw has (rising_differing (after_swaps id size x n) 0)

-- and have the members
pub member_of : (id : ItemId) (size x n k : ℕ) (pairs : List Pair) → pairs ≡ differing 0 (after_swaps id size x n) → k < size → member_at pairs k ≡ slice_index (after_swaps id size x n) k
member_of id size x n k pairs has low =
    let len = length-after_swaps id size x n in
    rw has (member_of_list (after_swaps id size x n) 0 k k (omega arith) (omega (arith, len)))

-- neither of the next two places has the other's number
pub neither : (id : ItemId) (size x n q : ℕ) (pairs : List Pair) → pairs ≡ differing 0 (after_swaps id size x n) → n < q → q < size → (member_at pairs n ≢ q) × (member_at pairs q ≢ n)
neither id size x n q pairs has less low =
    let at_n = member_of id size x n n pairs has (omega arith) in
    let at_q = member_of id size x n q pairs has low in
    let differs = own_differs id size x n q less low in
    (λ e. differs.0 (sym at_n ∙ e), λ e. differs.1 (sym at_q ∙ e))

-- an exchange of a place with itself leaves them
pub same_pairs : (id : ItemId) (size x n q : ℕ) (pairs : List Pair) → pairs ≡ differing 0 (after_swaps id size x n) → q ≡ partner id size x n → q ≡ n → n < size → pairs ≡ differing 0 (after_swaps id size x (n + 1))
same_pairs id size x n q pairs has is own low =
    let xs = after_swaps id size x n in
    let len = length-after_swaps id size x n in
    let itself : partner id size x n ≡ n = sym is ∙ own in
    let same : xs ≡ after_swaps id size x (n + 1) = sym (swap_same xs n (omega (arith, len))) ∙ (ap (λ k. swap xs n k) (sym itself) ∙ after_swaps_more id size x n) in
    has ∙ ap (λ ys. differing 0 ys) same

-- the first two places of a row
pub two_first : (row : List Pair) (a b : Pair) → 2 ≤ length row → take 2 (slice_set (slice_set row 0 a) 1 b) ≡ a ∷ b ∷ []
two_first [] a b low = absurd (omega arith)
two_first (c ∷ []) a b low = absurd (omega arith)
two_first (c ∷ d ∷ rest) a b low = refl

-- the pairs after the first exchange
pub first_is : (id : ItemId) (size x q : ℕ) (pairs : List Pair) → q ≡ partner id size x 0 → q < size → (q ≡ 0 → pairs ≡ []) → (q ≢ 0 → pairs ≡ (0, q) ∷ (q, 0) ∷ []) → pairs ≡ differing 0 (after_swaps id size x (min 1 (size - 1)))
first_is id size x q pairs is low none two = elim (either_way q 0) [
  | inl own ↦ none own ∙ sym (no_pairs id size x q (min 1 (size - 1)) is own (omega arith) (omega arith))
  | inr other ↦ two other ∙ sym (first_pairs id size x q is low other)
]

-- `len_by` counts the pairs, written or not
counted : (r : Progress) (row : List Pair) (written : Bool) → r.written ≡ written → IsReached r row → len_by r ≡ length (differing 0 (after_swaps r.hashes r.size r.x (swaps_of r)))
counted r row true is reached = rw is (sym (length-take-le r.len row reached.len) ∙ ap (λ (ps : List Pair). length ps) (reached.pairs is ∙ rw is refl))
counted r row false is reached =
    let known = reached.known is in
    let w = partner_within r.hashes r.size r.x 0 known.1 in
    rw is (elim (either_way r.first 0) [
      | inl own ↦ rw (is_same r.first 0 own, no_pairs r.hashes r.size r.x r.first (min 1 (r.size - 1)) known.0 own known.1 (omega arith)) refl
      | inr other ↦ rw (is_other r.first 0 other, first_pairs r.hashes r.size r.x r.first known.0 (omega (arith, known.0, w)) other) refl
    ])

pub counted_pairs : (r : Progress) (row : List Pair) → IsReached r row → len_by r ≡ length (differing 0 (after_swaps r.hashes r.size r.x (swaps_of r)))
counted_pairs r row reached = counted r row r.written refl reached
