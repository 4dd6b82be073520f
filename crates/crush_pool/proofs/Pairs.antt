-- Pairs of a group: the tables by which they are found, and what they do to a list.
use Rattle.std.proofs.Common.{◌≡◌, ◌<◌, ◌≤◌, ◌-◌, ◌+◌, ◌==◌, ◌&&◌, ◌||◌, ℕ, zero, suc, Bool, true, false, not, nat_lt, nat_le, cond, List, [], ◌∷◌, length, drop, map, set, slice_index_or, Option, Some, None, refl, ap, sym, ◌∙◌, arith, inl, inr}
use Rattle.std.specs.List.{list_all, list_any, position, position_or_len}
use Rattle.std.proofs.Math.ListN.{drop_of_length-le}
use Rattle.std.proofs.Math.Nat.{le_refl}
use Rattle.std.proofs.lemmas.Bool.{and_from, and_parts, cases_eq, cases_lt, false≢true}
use Rattle.std.proofs.lemmas.Bool.Decides.{nat_tests}
use Rattle.std.proofs.lemmas.List.{drop-drop, drop_more, get_or-drop, get_or-set_other, get_or-set_same, length-drop}
use Rattle.std.proofs.lemmas.List.Folds.{list_all_at}
use Rattle.std.proofs.lemmas.List.Sums.{passes_at_first}
use Rattle.crush_map.specs.Faults.{has_number}
use Rattle.crush_map.specs.declared.limits.TheConstants.{NUMBER_LIMIT}
use Rattle.crush_map.specs.crush_types.specs.declared.ItemId.{ItemId}
use Rattle.crush_bucket.specs.Tables.{TablesView}
use Rattle.crush_choose.specs.Firstn.{slot_has}
use Rattle.crush_choose.specs.Marks.{Slot}
use Rattle.crush_map.specs.crush_types.specs.DeviceValues.{Values, all, first_given, value_at, values_of, with_value}
use Rattle.crush_map.specs.crush_types.specs.declared.limits.TheConstants.{ID_COUNT}
use Rattle.crush_map.specs.crush_types.proofs.DeviceValues.{nothing_given, pair_before, value-values_of}
use Rattle.crush_pool.specs.Exceptions.{after_pair, after_pairs, are_pairs, excepted, exchanged, is_of_group, is_pair, pairs_of, targets_of}
use Rattle.crush_pool.specs.Private.Pairs.{first_from, no_pair}
use Rattle.crush_pool.specs.declared.exceptions.Pair.{Pair}
use Rattle.crush_pool.specs.declared.limits.TheConstants.{GROUP_LIMIT, PAIR_LIMIT}

-- ---- pairs of more groups

pair_more : (few more : ℕ) (p : Pair) → few ≤ more → is_pair few p ≡ true → is_pair more p ≡ true
pair_more few more p le is =
    let parts = and_parts (nat_lt p.group few && nat_le p.from NUMBER_LIMIT && nat_le p.to NUMBER_LIMIT) (not (p.from == p.to)) is in
    let ids = and_parts (nat_lt p.group few && nat_le p.from NUMBER_LIMIT) (nat_le p.to NUMBER_LIMIT) parts.0 in
    let first = and_parts (nat_lt p.group few) (nat_le p.from NUMBER_LIMIT) ids.0 in
    let below : nat_lt p.group more ≡ true = grind (arith, nat_tests, first.0, le) in
    and_from _ _ (and_from _ _ (and_from (nat_lt p.group more) (nat_le p.from NUMBER_LIMIT) below first.1) ids.1) parts.1

all_more : (few more : ℕ) (pairs : List Pair) → few ≤ more → list_all (is_pair few) pairs ≡ true → list_all (is_pair more) pairs ≡ true
all_more few more [] le valid = refl
all_more few more (p ∷ pairs) le valid =
    let parts = and_parts (is_pair few p) (list_all (is_pair few) pairs) valid in
    and_from _ _ (pair_more few more p le parts.0) (all_more few more pairs le parts.1)

-- pairs of `few` groups are pairs of `more` groups
pub pairs_more : (few more : ℕ) (pairs : List Pair) → few ≤ more → are_pairs few pairs ≡ true → are_pairs more pairs ≡ true
pairs_more few more pairs le valid =
    let parts = and_parts (nat_le (length pairs) PAIR_LIMIT) (list_all (is_pair few) pairs) valid in
    and_from _ _ parts.0 (all_more few more pairs le parts.1)

-- ---- the pair at a place

each_is : (groups : ℕ) (pairs : List Pair) (place : ℕ) (d : Pair) → list_all (is_pair groups) pairs ≡ true → place < length pairs
    → is_pair groups (slice_index_or pairs place d) ≡ true
each_is groups pairs place d valid low = by (is_pair groups (slice_index_or pairs place d)) refl
  where
    by : (b : Bool) → is_pair groups (slice_index_or pairs place d) ≡ b → b ≡ true
    by true e = refl
    by false e = absurd (false≢true (sym (list_all_at (is_pair groups) pairs place d low e) ∙ valid))

pub few_pairs : (groups : ℕ) (pairs : List Pair) → are_pairs groups pairs ≡ true → length pairs ≤ PAIR_LIMIT
few_pairs groups pairs valid =
    let few = (and_parts (nat_le (length pairs) PAIR_LIMIT) (list_all (is_pair groups) pairs) valid).0 in
    grind (arith, nat_tests, few)

-- ---- the table of groups, while the pairs from a place on are in it

-- the groups of pairs, each with the place of its pair: the first has the place `place`
abbrev pub marks : ℕ → List Pair → List (ℕ × ℕ)
marks place [] = []
marks place (p ∷ pairs) = (p.group, place) ∷ marks (place + 1) pairs

-- a table by group has the place of each group's first pair from a place on
abbrev pub HasFrom : Values ℕ → List Pair → ℕ → Type 0
HasFrom table pairs place = table ≡ values_of (length pairs) (marks place (drop place pairs))

-- no pair so far
pub none_yet : (pairs : List Pair) (table : Values ℕ) (none : ℕ) → none ≡ length pairs → table ≡ all none → HasFrom table pairs (length pairs)
none_yet pairs table none all_pairs e =
    let past : drop (length pairs) pairs ≡ [] = drop_of_length-le pairs (le_refl (length pairs)) in
    rw (past, ← all_pairs) (e ∙ nothing_given none)

-- the pair before a place is put into the table of those from the place on
pub mark_put : (pairs : List Pair) (table new : Values ℕ) (place : ℕ) → 0 < place → place ≤ length pairs
    → HasFrom table pairs place → new ≡ with_value table (slice_index_or pairs (place - 1) no_pair).group (place - 1)
    → HasFrom new pairs (place - 1)
mark_put pairs table new place some within before is =
    let pair = slice_index_or pairs (place - 1) no_pair in
    let low : place - 1 < length pairs = omega (arith, some, within) in
    let next : (place - 1) + 1 ≡ place = omega (arith, some) in
    let more : drop (place - 1) pairs ≡ pair ∷ drop place pairs = drop_more pairs (place - 1) no_pair low ∙ ap (λ (k : ℕ). pair ∷ drop k pairs) next in
    is ∙ (ap (λ (t : Values ℕ). with_value t pair.group (place - 1)) before
    ∙ (pair_before (length pairs) (marks place (drop place pairs)) pair.group (place - 1)
    ∙ ap (λ (k : ℕ). values_of (length pairs) ((pair.group, place - 1) ∷ marks k (drop place pairs))) (sym next)
    ∙ ap (λ (ps : List Pair). values_of (length pairs) (marks (place - 1) ps)) (sym more)))

first_marked : (none place : ℕ) (pairs : List Pair) (group : ℕ) → none ≡ place + length pairs
    → first_given none (marks place pairs) group ≡ place + position_or_len (is_of_group group) pairs
first_marked none place [] group last = last
first_marked none place (p ∷ pairs) group last = by (p.group == group) (first_marked none (place + 1) pairs group (omega (arith, last)))
  where
    by : (b : Bool) → first_given none (marks (place + 1) pairs) group ≡ place + 1 + position_or_len (is_of_group group) pairs
        → cond b place (first_given none (marks (place + 1) pairs) group) ≡ place + cond (not b) (1 + position_or_len (is_of_group group) pairs) 0
    by true e = omega arith
    by false e = omega (arith, e)

-- no pair of a pool with `groups` groups is of a group past them
none_above : (groups : ℕ) (pairs : List Pair) (group : ℕ) → groups ≤ group → list_all (is_pair groups) pairs ≡ true
    → position_or_len (is_of_group group) pairs ≡ length pairs
none_above groups [] group high valid = refl
none_above groups (p ∷ pairs) group high valid =
    let parts = and_parts (is_pair groups p) (list_all (is_pair groups) pairs) valid in
    let other : (p.group == group) ≡ false = not_of p parts.0 in
    let rest = none_above groups pairs group high parts.1 in
    rw other (omega (arith, rest))
  where
    not_of : (p : Pair) → is_pair groups p ≡ true → (p.group == group) ≡ false
    not_of p is = grind (arith, nat_tests, is, high)

all_from : (groups : ℕ) (pairs : List Pair) (place : ℕ) → list_all (is_pair groups) pairs ≡ true → list_all (is_pair groups) (drop place pairs) ≡ true
all_from groups pairs zero valid = valid
all_from groups [] (suc place) valid = refl
all_from groups (p ∷ pairs) (suc place) valid = all_from groups pairs place (and_parts (is_pair groups p) (list_all (is_pair groups) pairs) valid).1

-- what the table says of a group
pub is_marked : (pairs : List Pair) (table : Values ℕ) (place group : ℕ) → are_pairs GROUP_LIMIT pairs ≡ true → place ≤ length pairs
    → HasFrom table pairs place → value_at table group ≡ first_from pairs group place
is_marked pairs table place group valid within is =
    let each : list_all (is_pair GROUP_LIMIT) pairs ≡ true = (and_parts (nat_le (length pairs) PAIR_LIMIT) (list_all (is_pair GROUP_LIMIT) pairs) valid).1 in
    let long = length-drop place pairs in
    let last : length pairs ≡ place + length (drop place pairs) = omega (arith, long, within) in
    ap (λ (t : Values ℕ). value_at t group) is ∙ (value-values_of (length pairs) (marks place (drop place pairs)) group ∙ elim (cases_lt group ID_COUNT) [
      | inl low ↦ let test : nat_lt group ID_COUNT ≡ true = grind (arith, nat_tests) in rw test (first_marked (length pairs) place (drop place pairs) group last)
      | inr high ↦ (
          let test : nat_lt group ID_COUNT ≡ false = grind (arith, nat_tests) in
          let none = none_above GROUP_LIMIT (drop place pairs) group high (all_from GROUP_LIMIT pairs place each) in
          rw test (omega (arith, none, last)))
    ])

-- ---- the next pair of each

-- the pairs from a place on have their next one
abbrev pub HasNextFrom : List ℕ → List Pair → ℕ → Type 0
HasNextFrom next pairs from =
    (place : ℕ) → from ≤ place → place < length pairs → slice_index_or next place 0 ≡ first_from pairs (slice_index_or pairs place no_pair).group (place + 1)

-- the next one of the pair before a place is put there
pub next_put : (next : List ℕ) (pairs : List Pair) (from value : ℕ) → 0 < from → length next ≡ length pairs → HasNextFrom next pairs from
    → value ≡ first_from pairs (slice_index_or pairs (from - 1) no_pair).group from → HasNextFrom (set next (from - 1) value) pairs (from - 1)
next_put next pairs from value some long before is place high low = elim (cases_eq (from - 1) place) [
  | inl same ↦ (
      let there : slice_index_or (set next (from - 1) value) (from - 1) 0 ≡ value = get_or-set_same next (from - 1) value 0 (omega (arith, same, low, long)) in
      let one : from ≡ (from - 1) + 1 = omega (arith, some) in
      rw (← same) (there ∙ (is ∙ ap (λ (k : ℕ). first_from pairs (slice_index_or pairs (from - 1) no_pair).group k) one)))
  | inr other ↦ get_or-set_other next (from - 1) place value 0 (λ e. other (sym e)) ∙ before place (omega (arith, high, other)) low
]

-- ---- from pair to pair of a group

-- whether one of the pairs is of a group
pub first_within : (pairs : List Pair) (group : ℕ) → nat_lt (first_from pairs group 0) (length pairs) ≡ list_any (is_of_group group) pairs
first_within pairs group =
    let none : first_from pairs group 0 ≡ position_or_len (is_of_group group) pairs = omega arith in
    rw none (within pairs)
  where
    within : (ps : List Pair) → nat_lt (position_or_len (is_of_group group) ps) (length ps) ≡ list_any (is_of_group group) ps
    within [] = grind (arith, nat_tests)
    within (p ∷ ps) = by (p.group == group) (within ps)
      where
        by : (b : Bool) → nat_lt (position_or_len (is_of_group group) ps) (length ps) ≡ list_any (is_of_group group) ps
            → nat_lt (cond (not b) (1 + position_or_len (is_of_group group) ps) 0) (suc (length ps)) ≡ (b || list_any (is_of_group group) ps)
        by true e = grind (arith, nat_tests)
        by false e =
            let next : 1 + position_or_len (is_of_group group) ps ≡ suc (position_or_len (is_of_group group) ps) = omega arith in
            let same : nat_lt (suc (position_or_len (is_of_group group) ps)) (suc (length ps)) ≡ nat_lt (position_or_len (is_of_group group) ps) (length ps) = grind (arith, nat_tests) in
            rw next (same ∙ e)

-- the pair at the first place of a group from a place on is of the group
pub first_is : (pairs : List Pair) (group from place : ℕ) → place ≡ first_from pairs group from → place < length pairs
    → (slice_index_or pairs place no_pair).group ≡ group
first_is pairs group from place is low =
    let long = length-drop from pairs in
    let inside : position_or_len (is_of_group group) (drop from pairs) < length (drop from pairs) = omega (arith, is, low, long) in
    let test = passes_at_first (is_of_group group) (drop from pairs) no_pair inside in
    let at : slice_index_or (drop from pairs) (position_or_len (is_of_group group) (drop from pairs)) no_pair ≡ slice_index_or pairs place no_pair =
    get_or-drop from pairs (position_or_len (is_of_group group) (drop from pairs)) no_pair ∙ ap (λ (k : ℕ). slice_index_or pairs k no_pair) (sym is) in
    let own : ((slice_index_or pairs place no_pair).group == group) ≡ true = rw at at test in
    grind (arith, nat_tests, own)

-- before it the group has no pair
pub none_skipped : (pairs : List Pair) (group from place : ℕ) → place ≡ first_from pairs group from → pairs_of (drop place pairs) group ≡ pairs_of (drop from pairs) group
none_skipped pairs group from place is =
    ap (λ (k : ℕ). pairs_of (drop k pairs) group) is
    ∙ (ap (λ (ps : List Pair). pairs_of ps group) (sym (drop-drop (position_or_len (is_of_group group) (drop from pairs)) from pairs)) ∙ skipped (drop from pairs))
  where
    skipped : (ps : List Pair) → pairs_of (drop (position_or_len (is_of_group group) ps) ps) group ≡ pairs_of ps group
    skipped [] = refl
    skipped (p ∷ ps) = by (p.group == group) refl (skipped ps)
      where
        by : (b : Bool) → (p.group == group) ≡ b → pairs_of (drop (position_or_len (is_of_group group) ps) ps) group ≡ pairs_of ps group
            → pairs_of (drop (cond (not b) (1 + position_or_len (is_of_group group) ps) 0) (p ∷ ps)) group ≡ cond b (p ∷ pairs_of ps group) (pairs_of ps group)
        by true own e = rw own refl
        by false own e =
            let next : 1 + position_or_len (is_of_group group) ps ≡ suc (position_or_len (is_of_group group) ps) = omega arith in
            rw next e

-- the pairs of a group from one of them on are that one, and those from the next one on
pub pair_and_rest : (pairs : List Pair) (group place next : ℕ) → place < length pairs → (slice_index_or pairs place no_pair).group ≡ group
    → next ≡ first_from pairs (slice_index_or pairs place no_pair).group (place + 1)
    → pairs_of (drop place pairs) group ≡ slice_index_or pairs place no_pair ∷ pairs_of (drop next pairs) group
pair_and_rest pairs group place next low own is =
    let pair = slice_index_or pairs place no_pair in
    let test : (pair.group == group) ≡ true = grind (arith, nat_tests, own) in
    let first : pairs_of (pair ∷ drop (place + 1) pairs) group ≡ pair ∷ pairs_of (drop (place + 1) pairs) group = rw test refl in
    let rest = none_skipped pairs group (place + 1) next (is ∙ ap (λ (g : ℕ). first_from pairs g (place + 1)) own) in
    ap (λ (ps : List Pair). pairs_of ps group) (drop_more pairs place no_pair low) ∙ (first ∙ ap (λ (ps : List Pair). pair ∷ ps) (sym rest))

pub excepted_more : (t : TablesView) (w : List ℕ) (pairs : List Pair) (group : ℕ) (slots : List Slot) (place next : ℕ) → place < length pairs
    → (slice_index_or pairs place no_pair).group ≡ group → next ≡ first_from pairs (slice_index_or pairs place no_pair).group (place + 1)
    → excepted t w (drop next pairs) group (after_pair t w (slice_index_or pairs place no_pair) slots) ≡ excepted t w (drop place pairs) group slots
excepted_more t w pairs group slots place next low own is = ap (λ (ps : List Pair). after_pairs t w ps slots) (sym (pair_and_rest pairs group place next low own is))

pub leads_more : (pairs : List Pair) (group device place next : ℕ) → place < length pairs
    → (slice_index_or pairs place no_pair).group ≡ group → next ≡ first_from pairs (slice_index_or pairs place no_pair).group (place + 1)
    → has_number (targets_of (drop place pairs) group) device ≡ ((slice_index_or pairs place no_pair).to == device || has_number (targets_of (drop next pairs) group) device)
leads_more pairs group device place next low own is = ap (λ (ps : List Pair). has_number (map (λ p. p.to) ps) device) (pair_and_rest pairs group place next low own is)

-- past the last one there is none
pub no_rest : (pairs : List Pair) (group place : ℕ) → length pairs ≤ place → pairs_of (drop place pairs) group ≡ []
no_rest pairs group place past = ap (λ (ps : List Pair). pairs_of ps group) (drop_of_length-le pairs past)

-- where no pair is of a group, it has none
pub none_of : (pairs : List Pair) (group : ℕ) → list_any (is_of_group group) pairs ≡ false → pairs_of pairs group ≡ []
none_of [] group none = refl
none_of (p ∷ pairs) group none = by (p.group == group) (none_of pairs group) none
  where
    by : (b : Bool) → (list_any (is_of_group group) pairs ≡ false → pairs_of pairs group ≡ []) → (b || list_any (is_of_group group) pairs) ≡ false
        → cond b (p ∷ pairs_of pairs group) (pairs_of pairs group) ≡ []
    by true rest e = absurd (false≢true (sym e))
    by false rest e = rest e

pub nothing_excepted : (t : TablesView) (w : List ℕ) (pairs : List Pair) (group : ℕ) (raw : List Slot) → list_any (is_of_group group) pairs ≡ false → excepted t w pairs group raw ≡ raw
nothing_excepted t w pairs group raw none = ap (λ (ps : List Pair). after_pairs t w ps raw) (none_of pairs group none)

-- ---- the first slot with an item

-- the list with an item in a slot, if there is one
abbrev pub put_at : Option ℕ → Slot → List Slot → List Slot
put_at None slot slots = slots
put_at (Some place) slot slots = set slots place slot

put_next : (found rest : ℕ) (first slot : Slot) (slots : List Slot) → put_at (cond (nat_lt (1 + found) (suc rest)) (Some (1 + found)) None) slot (first ∷ slots)
    ≡ first ∷ put_at (cond (nat_lt found rest) (Some found) None) slot slots
put_next found rest first slot slots =
    let next : 1 + found ≡ suc found = omega arith in
    let same : nat_lt (suc found) (suc rest) ≡ nat_lt found rest = grind (arith, nat_tests) in
    rw (next, same) (by (nat_lt found rest))
  where
    by : (b : Bool) → put_at (cond b (Some (suc found)) None) slot (first ∷ slots) ≡ first ∷ put_at (cond b (Some found) None) slot slots
    by true = refl
    by false = refl

pub exchanged_at : (from to : ItemId) (slots : List Slot) → exchanged from to slots ≡ put_at (position (slot_has from) slots) (Some to) slots
exchanged_at from to [] = refl
exchanged_at from to (slot ∷ slots) = by (slot_has from slot) (exchanged_at from to slots)
  where
    by : (b : Bool) → exchanged from to slots ≡ put_at (position (slot_has from) slots) (Some to) slots
        → cond b (Some to ∷ slots) (slot ∷ exchanged from to slots)
        ≡ put_at (cond (nat_lt (cond (not b) (1 + position_or_len (slot_has from) slots) 0) (suc (length slots))) (Some (cond (not b) (1 + position_or_len (slot_has from) slots) 0)) None) (Some to) (slot ∷ slots)
    by true e = let some : nat_lt 0 (suc (length slots)) ≡ true = grind (arith, nat_tests) in rw some refl
    by false e = ap (λ (rest : List Slot). slot ∷ rest) e ∙ sym (put_next (position_or_len (slot_has from) slots) (length slots) slot (Some to) slots)
