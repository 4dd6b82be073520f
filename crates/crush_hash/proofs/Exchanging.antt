-- The pairs of a list before and after an exchange, and how they lie in their row.
use Rattle.std.proofs.Common.{◌≡◌, ◌≢◌, ℕ, zero, suc, ◌+◌, ◌-◌, ◌*◌, ◌<◌, ◌≤◌, Bool, true, false, nat_lt, List, [], ◌∷◌, ◌++◌, length, take, drop, slice_index, slice_index_or, slice_set, refl, ap, sym, subst, ◌∙◌, arith, ◌⊎◌, inl, inr}
use Rattle.std.specs.List.{swap}
use Rattle.std.proofs.Math.Seq.{drop-cons}
use Rattle.std.proofs.lemmas.List.{take-append-drop, length-take-le, length-append, length-set, get_or-take, get_or-set_same, get_or-set_other, ext_get_or}
use Rattle.std.proofs.lemmas.List.Sums.{prefix_len_is, prefix_len_passes, prefix_len_stops}
use Rattle.std.proofs.lemmas.List.Edits.{length-insert, get_or-insert_at, get_or-insert_below, get_or-insert_above, swapped_from_swap}
use Rattle.std.proofs.lemmas.List.FromFn.{get_or-range_with_len}
use Rattle.std.proofs.lemmas.Bool.Decides.{nat_tests}
use Rattle.crush_types.specs.declared.ItemId.{ItemId}
use Rattle.crush_hash.specs.Permutation.{differing, after_swaps, partner}
use Rattle.crush_hash.specs.Private.Pairs.{Pair, no_pair, IsMovedRight, index, is_there, member_at, others, pair_of, put, exchanged}
use Rattle.crush_hash.proofs.Members.{after_swaps_more, length-after_swaps, partner_within}
use Rattle.crush_hash.proofs.Differing.{exchanged_down, length-differing, member_of_list, is_same, is_other, is_lower, is_not_lower, either_way, differing_range, put_in_list, put_new, set_splits, swap_puts}

-- ---- what stands at a place

-- at a place that no exchange was of stands its own number or one below the number of exchanges
pub own_or_lower : (id : ItemId) (size x n p : ℕ) → n ≤ p → p < size → (slice_index (after_swaps id size x n) p ≡ p) ⊎ (slice_index (after_swaps id size x n) p < n)
own_or_lower id size x zero p above within = inl (get_or-range_with_len 0 size p 0 within ∙ omega arith)
own_or_lower id size x (suc n) p above within =
    let xs = after_swaps id size x n in
    let q = partner id size x n in
    let len = length-after_swaps id size x n in
    let w = partner_within id size x n (omega arith) in
    let swapped = swapped_from_swap xs (swap xs n q) n q 0 (omega (arith, len)) (omega (arith, len, w)) refl in
    let at_n = own_or_lower id size x n n (omega arith) (omega arith) in
    let at_p = own_or_lower id size x n p (omega arith) within in
    elim (either_way p q) [
      | inl same ↦ (let is : slice_index (swap xs n q) p ≡ slice_index xs n = rw same swapped.1 in elim at_n [ inl e ↦ inr (omega (arith, is, e)) | inr e ↦ inr (omega (arith, is, e)) ])
      | inr other ↦ (let is : slice_index (swap xs n q) p ≡ slice_index xs p = swapped.2 p (λ e. omega arith) other in elim at_p [ inl e ↦ inl (is ∙ e) | inr e ↦ inr (omega (arith, is, e)) ])
    ]

-- so of the place n and a higher place neither has the other's number
pub own_differs : (id : ItemId) (size x n q : ℕ) → n < q → q < size → (slice_index (after_swaps id size x n) n ≢ q) × (slice_index (after_swaps id size x n) q ≢ n)
own_differs id size x n q less within =
    let at_n = own_or_lower id size x n n (omega arith) (omega arith) in
    let at_q = own_or_lower id size x n q (omega arith) within in (
      λ e. (elim at_n [ inl own ↦ omega (arith, own, e) | inr low ↦ omega (arith, low, e) ]),
      λ e. (elim at_q [ inl own ↦ omega (arith, own, e) | inr low ↦ omega (arith, low, e) ]),
    )

-- ---- how many pairs there are

others_few : (rest : List Pair) (place : ℕ) → length (others rest place) ≤ length rest
others_few [] place = omega arith
others_few (pair ∷ rest) place = elim (either_way pair.0 place) [
  | inl same ↦ rw (is_same pair.0 place same) (omega arith)
  | inr other ↦ rw (is_other pair.0 place other) (omega arith)
]

pair_few : (place member : ℕ) → length (pair_of place member) ≤ 1
pair_few place member = elim (either_way member place) [
  | inl same ↦ rw (is_same member place same) (omega arith)
  | inr other ↦ rw (is_other member place other) (omega arith)
]

put_few : (pairs : List Pair) (place member : ℕ) → length (put pairs place member) ≤ length pairs + 1
put_few pairs place member =
    let at = index pairs place in
    let rest = drop at pairs in
    let all : length (take at pairs) + length rest ≡ length pairs = sym (length-append (take at pairs) rest) ∙ ap (λ (ps : List Pair). length ps) (take-append-drop at pairs) in
    let parts = length-append (take at pairs) (pair_of place member ++ others rest place) in
    let part = length-append (pair_of place member) (others rest place) in
    omega (arith, all, parts, part, others_few rest place, pair_few place member)

-- after n exchanges at most twice as many places differ
pub few_after : (id : ItemId) (size x n : ℕ) → n ≤ size → length (differing 0 (after_swaps id size x n)) ≤ 2 * n
few_after id size x zero low = rw (differing_range 0 size) (omega arith)
few_after id size x (suc n) low =
    let xs = after_swaps id size x n in
    let q = partner id size x n in
    let len = length-after_swaps id size x n in
    let w = partner_within id size x n (omega arith) in
    let set = slice_set xs n (slice_index xs q) in
    let set_len = length-set xs n (slice_index xs q) in
    let once = put_in_list xs 0 n n (slice_index xs q) (omega arith) (omega (arith, len)) in
    let twice = put_in_list set 0 q q (slice_index xs n) (omega arith) (omega (arith, w, len, set_len)) in
    let before = few_after id size x n (omega arith) in
    let one : length (differing 0 set) ≤ length (differing 0 xs) + 1 = rw (← once) (put_few (differing 0 xs) n (slice_index xs q)) in
    let two : length (differing 0 (slice_set set q (slice_index xs n))) ≤ length (differing 0 set) + 1 = rw (← twice) (put_few (differing 0 set) q (slice_index xs n)) in
    rw (swap_puts xs n q (omega (arith, len)) (omega (arith, w, len))) (omega (arith, before, one, two))

-- ---- a pair that is written over another, or inserted

-- by how much the pairs behind a place's index move: none where the place has a pair, else by one
abbrev pub IsShift : List Pair → ℕ → ℕ → ℕ → Type 0
IsShift pairs at place shift =
    ((shift ≡ 0) × (at < length pairs) × ((slice_index_or pairs at no_pair).0 ≡ place)) ⊎ ((shift ≡ 1) × (at < length pairs → (slice_index_or pairs at no_pair).0 ≢ place))

pub shift_of : (pairs : List Pair) (at place shift : ℕ) (there : Bool) → there ≡ is_there pairs at place → (there ≡ true → shift ≡ 0) → (there ≡ false → shift ≡ 1) → IsShift pairs at place shift
shift_of pairs at place shift there is none one =
    let q = (slice_index_or pairs at no_pair).0 in
    let either : (at < length pairs) ⊎ (length pairs ≤ at) = grind arith in
    elim either [
      | inl low ↦ elim (either_way q place) [
        | inl same ↦ inl (none (is ∙ rw (is_lower at (length pairs) low, is_same q place same) refl), low, same)
        | inr other ↦ inr (one (is ∙ rw (is_lower at (length pairs) low, is_other q place other) refl), λ h. other)
      ]
      | inr high ↦ inr (one (is ∙ rw (is_not_lower at (length pairs) high) refl), λ h. absurd (omega arith))
    ]

pub shift_room : (pairs : List Pair) (at place shift : ℕ) → at ≤ length pairs → IsShift pairs at place shift → at < length pairs + shift
shift_room pairs at place shift within by = elim by [ inl h ↦ omega (arith, h.0, h.1) | inr h ↦ omega (arith, h.0, within) ]

pub shift_few : (there : Bool) (shift : ℕ) → (there ≡ true → shift ≡ 0) → (there ≡ false → shift ≡ 1) → shift ≤ 1
shift_few true shift none one = let e = none refl in omega (arith, e)
shift_few false shift none one = let e = one refl in omega (arith, e)

-- a pair stands at an index, those behind it moved
pub record IsPlaced (before after : List Pair) (at shift : ℕ) (pair : Pair) : Type 0 where
  size : length after ≡ length before + shift
  first : (k : ℕ) → k < at → slice_index_or after k no_pair ≡ slice_index_or before k no_pair
  here : slice_index_or after at no_pair ≡ pair
  rest : (k : ℕ) → at < k + shift → slice_index_or after (k + shift) no_pair ≡ slice_index_or before k no_pair

put_over : (pairs : List Pair) (at place member : ℕ) → at ≡ index pairs place → at < length pairs → (slice_index_or pairs at no_pair).0 ≡ place → member ≢ place → slice_set pairs at (place, member) ≡ put pairs place member
put_over pairs at place member is low own other =
    let front = drop-cons pairs at no_pair low in
    set_splits pairs at (place, member) low ∙ rw (← is, front, is_same (slice_index_or pairs at no_pair).0 place own, is_other member place other) refl

-- a number that is put at a place, other than the place's own
pub placed : (pairs : List Pair) (at place member shift : ℕ) → at ≡ index pairs place → at ≤ length pairs → IsShift pairs at place shift → member ≢ place → IsPlaced pairs (put pairs place member) at shift (place, member)
placed pairs at place member shift is low by other = elim by [
  | inl h ↦
      subst (λ (n : ℕ). IsPlaced pairs (put pairs place member) at n (place, member)) (sym h.0)
      (subst (λ (ps : List Pair). IsPlaced pairs ps at 0 (place, member)) (put_over pairs at place member is h.1 h.2 other) (record {
        size = length-set pairs at (place, member) ∙ omega arith;
        first = λ k less. get_or-set_other pairs at k (place, member) no_pair (λ e. omega arith);
        here = get_or-set_same pairs at (place, member) no_pair h.1;
        rest = λ k more. (let e : k + 0 ≡ k = omega arith in rw e (get_or-set_other pairs at k (place, member) no_pair (λ e. omega arith)));
      }))
  | inr h ↦
      subst (λ (n : ℕ). IsPlaced pairs (put pairs place member) at n (place, member)) (sym h.0)
      (subst (λ (ps : List Pair). IsPlaced pairs ps at 1 (place, member)) (put_new pairs at place member is h.1 other) (record {
        size = length-insert pairs at (place, member) low;
        first = λ k less. get_or-insert_below pairs at (place, member) no_pair k less low;
        here = get_or-insert_at pairs at (place, member) no_pair low;
        rest = λ k more. get_or-insert_above pairs at (place, member) no_pair k (omega arith) low;
      }))
]

-- the higher place's pair moves no index of a lower one
record IsSameBelow (pairs one : List Pair) (at low up : ℕ) : Type 0 where
  is : at ≡ index one low
  within : at ≤ length one
  shift : IsShift one at low up

same_below : (pairs one : List Pair) (at to low high own up more : ℕ) → at ≡ index pairs low → at ≤ to → to ≤ length pairs → low < high → (to < length pairs → high ≤ (slice_index_or pairs to no_pair).0) → IsShift pairs at low up → IsPlaced pairs one to more (high, own) → IsSameBelow pairs one at low up
same_below pairs one at to low high own up more is le within less above by placed =
    let passes : (k : ℕ) → k < at → nat_lt (slice_index_or one k no_pair).0 low ≡ true = λ k h.
    (let same = placed.first k (omega arith) in
    let lower = prefix_len_passes (λ (pair : Pair). nat_lt pair.0 low) pairs k no_pair (omega (arith, is, h)) in
    ap (λ (pair : Pair). nat_lt pair.0 low) same ∙ lower) in
    let either : (at < to) ⊎ (at ≡ to) = grind arith in
    elim either [
      | inl before ↦
          let same = placed.first at before in
          let at_same : (slice_index_or one at no_pair).0 ≡ (slice_index_or pairs at no_pair).0 = ap (λ (pair : Pair). pair.0) same in
          let stops : nat_lt (slice_index_or pairs at no_pair).0 low ≡ false =
          subst (λ (n : ℕ). nat_lt (slice_index_or pairs n no_pair).0 low ≡ false) (sym is) (prefix_len_stops (λ (pair : Pair). nat_lt pair.0 low) pairs no_pair (omega (arith, is, before, within))) in
          let stops_one : nat_lt (slice_index_or one at no_pair).0 low ≡ false = ap (λ (pair : Pair). nat_lt pair.0 low) same ∙ stops in
          let low_one : at < length one = omega (arith, placed.size, before, within) in
          record {
            is = sym (prefix_len_is (λ (pair : Pair). nat_lt pair.0 low) one at no_pair (omega (arith, low_one)) passes (λ h. stops_one));
            within = omega (arith, low_one);
            shift = elim by [ inl h ↦ inl (h.0, low_one, at_same ∙ h.2) | inr h ↦ inr (h.0, λ l e. h.1 (omega (arith, before, within)) (sym at_same ∙ e)) ];
          }
      | inr same ↦
          let at_same : (slice_index_or one at no_pair).0 ≡ high = rw same (ap (λ (pair : Pair). pair.0) placed.here) in
          let stops_one : nat_lt (slice_index_or one at no_pair).0 low ≡ false = is_not_lower (slice_index_or one at no_pair).0 low (omega (arith, at_same, less)) in
          record {
            is = sym (prefix_len_is (λ (pair : Pair). nat_lt pair.0 low) one at no_pair (omega (arith, same, within, placed.size)) passes (λ h. stops_one));
            within = omega (arith, same, within, placed.size);
            shift = elim by [
              | inl h ↦ absurd (let up_high : high ≤ (slice_index_or pairs to no_pair).0 = above (omega (arith, same, h.1)) in let own : (slice_index_or pairs to no_pair).0 ≡ low = rw (← same) h.2 in omega (arith, up_high, own, less))
              | inr h ↦ inr (h.0, λ l e. omega (arith, at_same, e, less))
            ];
          }
    ]

-- an exchange of two places of which neither has the other's number: the higher place's pair, then
-- the lower one's
pub record IsExchanged (pairs : List Pair) (at to low high own member up more : ℕ) : Type 0 where
  pub one : IsPlaced pairs (put pairs high own) to more (high, own)
  pub two : IsPlaced (put pairs high own) (put (put pairs high own) low member) at up (low, member)

pub exchange_is : (pairs : List Pair) (at to low high own member up more : ℕ) → at ≡ index pairs low → to ≡ index pairs high → at ≤ to → to ≤ length pairs → low < high → own ≢ high → member ≢ low → IsShift pairs at low up → IsShift pairs to high more → IsExchanged pairs at to low high own member up more
exchange_is pairs at to low high own member up more is_low is_high le within less own_other member_other by_low by_high =
    let one = placed pairs to high own more is_high within by_high own_other in
    let above : to < length pairs → high ≤ (slice_index_or pairs to no_pair).0 = λ h.
    (let stops : nat_lt (slice_index_or pairs to no_pair).0 high ≡ false =
    subst (λ (n : ℕ). nat_lt (slice_index_or pairs n no_pair).0 high ≡ false) (sym is_high) (prefix_len_stops (λ (pair : Pair). nat_lt pair.0 high) pairs no_pair (omega (arith, is_high, h))) in
    grind (arith, nat_tests, stops)) in
    let below = same_below pairs (put pairs high own) at to low high own up more is_low le within less above by_low one in
    record { one = one; two = placed (put pairs high own) at low member up below.is below.within below.shift member_other }

-- the same, by what the searches find
pub exchange_of : (pairs : List Pair) (at to low high own member up more : ℕ) (there found : Bool) → at ≡ index pairs low → to ≡ index pairs high → at ≤ to → to ≤ length pairs → low < high → own ≡ member_at pairs low → member ≡ member_at pairs high → member_at pairs low ≢ high → member_at pairs high ≢ low
    → there ≡ is_there pairs at low → found ≡ is_there pairs to high → (there ≡ true → up ≡ 0) → (there ≡ false → up ≡ 1) → (found ≡ true → more ≡ 0) → (found ≡ false → more ≡ 1) → IsExchanged pairs at to low high own member up more
exchange_of pairs at to low high own member up more there found is_low is_high le within less is_own is_member own_other member_other is_there is_found up_none up_one more_none more_one =
    exchange_is pairs at to low high own member up more is_low is_high le within less (λ e. own_other (sym is_own ∙ e)) (λ e. member_other (sym is_member ∙ e)) (shift_of pairs at low up there is_there up_none up_one) (shift_of pairs to high more found is_found more_none more_one)

-- how many pairs there are then
pub exchanged_size : (pairs : List Pair) (at to low high own member up more : ℕ) → IsExchanged pairs at to low high own member up more → length (put (put pairs high own) low member) ≡ length pairs + up + more
exchanged_size pairs at to low high own member up more is = omega (arith, is.one.size, is.two.size)

-- the row in which the pairs were moved and both pairs written
pub exchanged_row : (row moved : List Pair) (len at to low high own member up more : ℕ) → len ≤ length row → at ≤ to → to ≤ len → up ≤ 1 → more ≤ 1 → len + up + more ≤ length row → IsMovedRight row moved at to len up more → IsExchanged (take len row) at to low high own member up more
    → take (len + up + more) (slice_set (slice_set moved (to + up) (high, own)) at (low, member)) ≡ put (put (take len row) high own) low member
exchanged_row row moved len at to low high own member up more within le le_len up_few more_few room shifted is =
    let pairs = take len row in
    let one = put pairs high own in
    let two = put one low member in
    let once = slice_set moved (to + up) (high, own) in
    let twice = slice_set once at (low, member) in
    let new_len = len + up + more in
    let once_len : length once ≡ length row = length-set moved (to + up) (high, own) ∙ shifted.size in
    let twice_len : length twice ≡ length row = length-set once at (low, member) ∙ once_len in
    let pairs_len : length pairs ≡ len = length-take-le len row within in
    let two_len = exchanged_size pairs at to low high own member up more is in
    let left_len : length (take new_len twice) ≡ new_len = length-take-le new_len twice (omega (arith, twice_len, room)) in
    ext_get_or no_pair (take new_len twice) two (omega (arith, left_len, two_len, pairs_len)) (λ k h.
    (let low_k : k < new_len = omega (arith, left_len, h) in
    let either : ((k < at) ⊎ (k ≡ at)) ⊎ (at < k) = grind arith in
    get_or-take new_len twice k no_pair low_k ∙ (elim either [
      | inl (inl before) ↦
          get_or-set_other once at k (low, member) no_pair (λ e. omega arith)
          ∙ get_or-set_other moved (to + up) k (high, own) no_pair (λ e. omega arith)
          ∙ shifted.first k before
          ∙ sym (is.two.first k before ∙ is.one.first k (omega arith) ∙ get_or-take len row k no_pair (omega arith))
      | inl (inr same) ↦ rw same (get_or-set_same once at (low, member) no_pair (omega (arith, once_len, same, low_k, room)) ∙ sym is.two.here)
      | inr after ↦
          let j = k - up in
          let e : k ≡ j + up = omega arith in
          let from_one : slice_index_or two k no_pair ≡ slice_index_or one j no_pair = ap (λ (n : ℕ). slice_index_or two n no_pair) e ∙ is.two.rest j (omega arith) in
          let outer : slice_index_or twice k no_pair ≡ slice_index_or once k no_pair = get_or-set_other once at k (low, member) no_pair (λ e. omega arith) in
          let side : ((j < to) ⊎ (j ≡ to)) ⊎ (to < j) = grind arith in
          outer ∙ (elim side [
            | inl (inl before) ↦
                get_or-set_other moved (to + up) k (high, own) no_pair (λ e. omega arith)
                ∙ ap (λ (n : ℕ). slice_index_or moved n no_pair) e
                ∙ shifted.lower j (omega arith) (omega arith) before
                ∙ sym (from_one ∙ is.one.first j before ∙ get_or-take len row j no_pair (omega arith))
            | inl (inr there) ↦
                let f : k ≡ to + up = omega arith in
                ap (λ (n : ℕ). slice_index_or once n no_pair) f
                ∙ get_or-set_same moved (to + up) (high, own) no_pair (omega (arith, shifted.size, room, low_k, f))
                ∙ sym (from_one ∙ ap (λ (n : ℕ). slice_index_or one n no_pair) there ∙ is.one.here)
            | inr behind ↦
                let i = j - more in
                let f : k ≡ i + up + more = omega arith in
                let g : j ≡ i + more = omega arith in
                get_or-set_other moved (to + up) k (high, own) no_pair (λ e. omega arith)
                ∙ ap (λ (n : ℕ). slice_index_or moved n no_pair) f
                ∙ shifted.higher i (omega arith) (omega arith) (omega arith)
                ∙ sym (from_one ∙ ap (λ (n : ℕ). slice_index_or one n no_pair) g ∙ is.one.rest i (omega arith) ∙ get_or-take len row i no_pair (omega arith))
          ])
    ])))

-- the pairs of a list after one exchange more
pub exchanged_list : (id : ItemId) (size x n q : ℕ) (pairs : List Pair) → n < q → q < size → q ≡ partner id size x n → pairs ≡ differing 0 (after_swaps id size x n) → exchanged pairs n q ≡ differing 0 (after_swaps id size x (n + 1))
exchanged_list id size x n q pairs less low is has =
    let xs = after_swaps id size x n in
    let len = length-after_swaps id size x n in
    let done = exchanged_down xs pairs (put pairs q (member_at pairs n)) (exchanged pairs n q) n q less (omega (arith, len)) has refl refl in
    let more : swap xs n q ≡ after_swaps id size x (n + 1) = rw is (after_swaps_more id size x n) in
    done.1 ∙ ap (λ (ys : List ℕ). differing 0 ys) more

-- there is room for them
pub exchanged_few : (id : ItemId) (size x n q room : ℕ) (pairs : List Pair) → n < q → q < size → q ≡ partner id size x n → pairs ≡ differing 0 (after_swaps id size x n) → size ≤ room → length (exchanged pairs n q) ≤ room
exchanged_few id size x n q room pairs less low is has within =
    let few = length-differing (after_swaps id size x (n + 1)) 0 in
    let len = length-after_swaps id size x (n + 1) in
    let e = ap (λ (ps : List Pair). length ps) (exchanged_list id size x n q pairs less low is has) in
    omega (arith, few, len, e, within)

-- the member that comes to the lower place
pub exchanged_member : (id : ItemId) (size x n q : ℕ) (pairs : List Pair) → n ≤ q → q < size → q ≡ partner id size x n → pairs ≡ differing 0 (after_swaps id size x n) → member_at pairs q ≡ slice_index (after_swaps id size x (n + 1)) n
exchanged_member id size x n q pairs less low is has =
    let xs = after_swaps id size x n in
    let len = length-after_swaps id size x n in
    let more : swap xs n q ≡ after_swaps id size x (n + 1) = rw is (after_swaps_more id size x n) in
    let swapped = swapped_from_swap xs (swap xs n q) n q 0 (omega (arith, len)) (omega (arith, len)) refl in
    rw has (member_of_list xs 0 q q (omega arith) (omega (arith, len))) ∙ sym swapped.0 ∙ ap (λ (ys : List ℕ). slice_index ys n) more
