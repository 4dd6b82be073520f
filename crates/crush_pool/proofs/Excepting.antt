-- What exceptions do to the placement of a group.
use Rattle.std.proofs.Common.{◌≡◌, ◌≤◌, ◌+◌, ◌&&◌, ◌||◌, ◌==◌, ℕ, pos, Bool, true, false, not, nat_lt, cond, List, [], ◌∷◌, map, filter, Option, Some, None, option_map, refl, ap, sym, ◌∙◌, arith, inl, inr}
use Rattle.std.specs.List.{count_by, list_any}
use Rattle.std.specs.Ordering.{int_eq}
use Rattle.std.proofs.lemmas.Bool.{and_parts, cases_eq, false≢true}
use Rattle.std.proofs.lemmas.Bool.Decides.{Decides-int_eq, nat_tests}
use Rattle.std.proofs.lemmas.List.Sums.{sum_by-cons}
use Rattle.crush_map.specs.Faults.{has_number}
use Rattle.crush_map.specs.Map.{Map}
use Rattle.crush_map.specs.declared.draft.Rule.{Rule}
use Rattle.crush_map.specs.declared.draft.Step.{Step}
use Rattle.crush_map.specs.crush_types.specs.declared.ItemId.{ItemId}
use Rattle.crush_bucket.specs.Tables.{TablesView, has_device, tables_of}
use Rattle.crush_choose.specs.Firstn.{has, slot_has}
use Rattle.crush_choose.specs.Marks.{Slot}
use Rattle.crush_choose.specs.Weights.{weight_at, weights_of}
use Rattle.crush_choose.specs.Rules.{rule_answer}
use Rattle.crush_pool.specs.Exceptions.{HasNoDeviceTwice, after_pair, after_pairs, device_item, exchanged, is_of_group, pairs_of, takes_effect, targets_of}
use Rattle.crush_pool.specs.Placements.{if_up, is_up_slot, placed, placement, primary_of, rule_numbered, up_of}
use Rattle.crush_pool.specs.Pools.{seed_of}
use Rattle.crush_pool.specs.States.{flags_of, reweights}
use Rattle.crush_pool.specs.declared.exceptions.Pair.{Pair}
use Rattle.crush_pool.specs.declared.placing.Placement.{Placement}
use Rattle.crush_pool.specs.declared.pool.PoolParts.{PoolParts}
use Rattle.crush_pool.specs.declared.states.DeviceState.{DeviceState}
use Rattle.crush_pool.proofs.Pairs.{none_of}

-- ---- how often an item stands in a list

abbrev times : ItemId → List Slot → ℕ
times item slots = count_by (slot_has item) slots

abbrev once_if : Bool → ℕ
once_if b = cond b 1 0

times-cons : (item : ItemId) (slot : Slot) (slots : List Slot) → times item (slot ∷ slots) ≡ once_if (slot_has item slot) + times item slots
times-cons item slot slots = sum_by-cons (λ (one : Slot). once_if (slot_has item one)) slot slots

absent : (item : ItemId) (slots : List Slot) → has slots item ≡ false → times item slots ≡ 0
absent item [] none = refl
absent item (slot ∷ slots) none = times-cons item slot slots ∙ by (slot_has item slot) none (absent item slots)
  where
    by : (b : Bool) → (b || has slots item) ≡ false → (has slots item ≡ false → times item slots ≡ 0) → once_if b + times item slots ≡ 0
    by true e rest = absurd (false≢true (sym e))
    by false e rest = let none = rest e in omega (arith, none)

-- an exchange adds at most one, the item that it puts there
times-exchanged : (from to item : ItemId) (slots : List Slot) → times item (exchanged from to slots) ≤ times item slots + once_if (slot_has item (Some to))
times-exchanged from to item [] = omega arith
times-exchanged from to item (slot ∷ slots) = by (slot_has from slot) (times-exchanged from to item slots)
  where
    by : (b : Bool) → times item (exchanged from to slots) ≤ times item slots + once_if (slot_has item (Some to))
        → times item (cond b (Some to ∷ slots) (slot ∷ exchanged from to slots)) ≤ times item (slot ∷ slots) + once_if (slot_has item (Some to))
    by true rest = let new = times-cons item (Some to) slots in let old = times-cons item slot slots in omega (arith, new, old)
    by false rest = let new = times-cons item slot (exchanged from to slots) in let old = times-cons item slot slots in omega (arith, new, old, rest)

-- ---- no device comes twice

after_effect : (t : TablesView) (w : List ℕ) (p : Pair) (slots : List Slot) → takes_effect t w p slots ≡ true → HasNoDeviceTwice slots
    → HasNoDeviceTwice (exchanged (device_item p.from) (device_item p.to) slots)
after_effect t w p slots takes once device =
    let front = (and_parts _ (has_device t p.to) takes).0 in
    let parts = and_parts (has slots (device_item p.from)) (not (has slots (device_item p.to))) (and_parts _ (nat_lt 0 (weight_at w p.to)) front).0 in
    let lacks : has slots (device_item p.to) ≡ false = not_true (has slots (device_item p.to)) parts.1 in
    let most = times-exchanged (device_item p.from) (device_item p.to) (device_item device) slots in
    elim (cases_eq p.to device) [
      | inl same ↦ (
          let none : times (device_item device) slots ≡ 0 = absent (device_item device) slots (rw same at lacks) in
          let one = at_most (slot_has (device_item device) (Some (device_item p.to))) in
          omega (arith, most, none, one))
      | inr other ↦ (
          let differs : slot_has (device_item device) (Some (device_item p.to)) ≡ false = not_same p.to device other in
          let few : times (device_item device) (exchanged (device_item p.from) (device_item p.to) slots) ≤ times (device_item device) slots + 0 = rw differs at most in
          omega (arith, few, once device))
    ]
  where
    not_true : (b : Bool) → not b ≡ true → b ≡ false
    not_true true e = sym e
    not_true false e = refl

    at_most : (b : Bool) → once_if b ≤ 1
    at_most true = omega arith
    at_most false = omega arith

    not_same : (a b : ℕ) → (a ≡ b → ⊥) → int_eq (pos a) (pos b) ≡ false
    not_same a b other = of_test (int_eq (pos a) (pos b)) refl
      where
        of_test : (t : Bool) → int_eq (pos a) (pos b) ≡ t → t ≡ false
        of_test true e = let same : pos a ≡ pos b = (Decides-int_eq (pos a) (pos b)).0 e in absurd (other cc)
        of_test false e = refl

once_after : (t : TablesView) (w : List ℕ) (p : Pair) (slots : List Slot) (b : Bool) → takes_effect t w p slots ≡ b → HasNoDeviceTwice slots
    → HasNoDeviceTwice (cond b (exchanged (device_item p.from) (device_item p.to) slots) slots)
once_after t w p slots true takes once = after_effect t w p slots takes once
once_after t w p slots false takes once = once

once_after_all : (t : TablesView) (w : List ℕ) (pairs : List Pair) (slots : List Slot) → HasNoDeviceTwice slots → HasNoDeviceTwice (after_pairs t w pairs slots)
once_after_all t w [] slots once = once
once_after_all t w (p ∷ pairs) slots once = once_after_all t w pairs (after_pair t w p slots) (once_after t w p slots (takes_effect t w p slots) refl once)

times-filter : (item : ItemId) (test : Slot → Bool) (slots : List Slot) → times item (filter test slots) ≤ times item slots
times-filter item test [] = omega arith
times-filter item test (slot ∷ slots) = by (test slot) (times-filter item test slots)
  where
    by : (b : Bool) → times item (filter test slots) ≤ times item slots → times item (cond b (slot ∷ filter test slots) (filter test slots)) ≤ times item (slot ∷ slots)
    by true rest = let new = times-cons item slot (filter test slots) in let old = times-cons item slot slots in omega (arith, new, old, rest)
    by false rest = let old = times-cons item slot slots in omega (arith, old, rest)

times-if_up : (item : ItemId) (flags : List Bool) (slots : List Slot) → times item (map (if_up flags) slots) ≤ times item slots
times-if_up item flags [] = omega arith
times-if_up item flags (slot ∷ slots) = by (is_up_slot flags slot) (times-if_up item flags slots)
  where
    by : (b : Bool) → times item (map (if_up flags) slots) ≤ times item slots → times item (cond b slot None ∷ map (if_up flags) slots) ≤ times item (slot ∷ slots)
    by true rest = let new = times-cons item slot (map (if_up flags) slots) in let old = times-cons item slot slots in omega (arith, new, old, rest)
    by false rest = let new = times-cons item None (map (if_up flags) slots) in let old = times-cons item slot slots in omega (arith, new, old, rest)

once_up : (erasure : Bool) (flags : List Bool) (slots : List Slot) → HasNoDeviceTwice slots → HasNoDeviceTwice (up_of erasure flags slots)
once_up false flags slots once device = let few = times-filter (device_item device) (is_up_slot flags) slots in omega (arith, few, once device)
once_up true flags slots once device = let few = times-if_up (device_item device) flags slots in omega (arith, few, once device)

pub placed_once : (t : TablesView) (w : List ℕ) (flags : List Bool) (steps : List Step) (p : PoolParts) (pairs : List Pair) (group : ℕ)
    → HasNoDeviceTwice (placed t w flags steps p pairs group).raw → HasNoDeviceTwice (placed t w flags steps p pairs group).up
unfolding placed
placed_once t w flags steps p pairs group once = once_up p.erasure flags _ (once_after_all t w (pairs_of pairs group) _ once)

-- ---- what a placement depends on

pub raw_same : (t : TablesView) (w : List ℕ) (flags : List Bool) (steps : List Step) (p : PoolParts) (first second : List Pair) (group : ℕ)
    → (placed t w flags steps p first group).raw ≡ (placed t w flags steps p second group).raw
unfolding placed
raw_same t w flags steps p first second group = refl

pub seed_same : (t : TablesView) (w : List ℕ) (flags : List Bool) (steps : List Step) (p : PoolParts) (first second : List Pair) (group : ℕ)
    → (placed t w flags steps p first group).seed ≡ (placed t w flags steps p second group).seed
unfolding placed
seed_same t w flags steps p first second group = refl

pub placed_same : (t : TablesView) (w : List ℕ) (flags : List Bool) (steps : List Step) (p : PoolParts) (first second : List Pair) (group : ℕ)
    → pairs_of first group ≡ pairs_of second group → placed t w flags steps p first group ≡ placed t w flags steps p second group
unfolding placed
placed_same t w flags steps p first second group same =
    ap (λ (pairs : List Pair). made (after_pairs t w pairs (rule_answer t w steps (seed_of p group) p.size))) same
  where
    made : List Slot → Placement
    made slots =
        let raw = rule_answer t w steps (seed_of p group) p.size in
        record { seed = seed_of p group; raw = raw; up = up_of p.erasure flags slots; primary = primary_of (up_of p.erasure flags slots) }

pub up_alone : (t : TablesView) (w : List ℕ) (flags : List Bool) (steps : List Step) (p : PoolParts) (group : ℕ)
    → (placed t w flags steps p [] group).up ≡ up_of p.erasure flags (placed t w flags steps p [] group).raw
unfolding placed
up_alone t w flags steps p group = refl

-- ---- lowered reweights

pair_stays : (t : TablesView) (w lowered : List ℕ) (p : Pair) (slots : List Slot) → weight_at lowered p.to ≡ weight_at w p.to → after_pair t lowered p slots ≡ after_pair t w p slots
pair_stays t w lowered p slots same =
    ap (λ (weight : ℕ). cond (has slots (device_item p.from) && not (has slots (device_item p.to)) && nat_lt 0 weight && has_device t p.to)
    (exchanged (device_item p.from) (device_item p.to) slots) slots) same

first_has : (n : ℕ) (ns : List ℕ) → has_number (n ∷ ns) n ≡ true
first_has n ns = let same : (n == n) ≡ true = grind (arith, nat_tests) in rw same refl

later_has : (n m : ℕ) (ns : List ℕ) → has_number ns m ≡ true → has_number (n ∷ ns) m ≡ true
later_has n m ns there = by (n == m)
  where
    by : (b : Bool) → (b || has_number ns m) ≡ true
    by true = refl
    by false = there

pairs_stay : (t : TablesView) (w lowered : List ℕ) (pairs : List Pair) (slots : List Slot)
    → ((device : ℕ) → has_number (map (λ p. p.to) pairs) device ≡ true → weight_at lowered device ≡ weight_at w device)
    → after_pairs t lowered pairs slots ≡ after_pairs t w pairs slots
pairs_stay t w lowered [] slots same = refl
pairs_stay t w lowered (p ∷ pairs) slots same =
    ap (λ (now : List Slot). after_pairs t lowered pairs now) (pair_stays t w lowered p slots (same p.to (first_has p.to (map (λ q. q.to) pairs))))
    ∙ pairs_stay t w lowered pairs (after_pair t w p slots) (λ device there. same device (later_has p.to device (map (λ q. q.to) pairs) there))

pub placed_stays : (t : TablesView) (w lowered : List ℕ) (flags : List Bool) (steps : List Step) (p : PoolParts) (pairs : List Pair) (group : ℕ)
    → rule_answer t lowered steps (seed_of p group) p.size ≡ rule_answer t w steps (seed_of p group) p.size
    → ((device : ℕ) → has_number (targets_of pairs group) device ≡ true → weight_at lowered device ≡ weight_at w device)
    → placed t lowered flags steps p pairs group ≡ placed t w flags steps p pairs group
unfolding placed
placed_stays t w lowered flags steps p pairs group answer same =
    let raw = rule_answer t w steps (seed_of p group) p.size in
    ap (λ (raw : List Slot). made raw (after_pairs t lowered (pairs_of pairs group) raw)) answer
    ∙ ap (λ (slots : List Slot). made raw slots) (pairs_stay t w lowered (pairs_of pairs group) raw same)
  where
    made : List Slot → List Slot → Placement
    made raw slots = record { seed = seed_of p group; raw = raw; up = up_of p.erasure flags slots; primary = primary_of (up_of p.erasure flags slots) }

-- ---- on a map

on_map : (m : Map) (states : List DeviceState) (p : PoolParts) (first second : List Pair) (group : ℕ) (found : Option Rule)
    → ((r : Rule) → placed (tables_of m) (weights_of (reweights states)) (flags_of states) r.steps p first group ≡ placed (tables_of m) (weights_of (reweights states)) (flags_of states) r.steps p second group)
    → option_map (λ r. placed (tables_of m) (weights_of (reweights states)) (flags_of states) r.steps p first group) found
    ≡ option_map (λ r. placed (tables_of m) (weights_of (reweights states)) (flags_of states) r.steps p second group) found
on_map m states p first second group None same = refl
on_map m states p first second group (Some rule) same = ap (λ (q : Placement). Some q) (same rule)

pub placement_same : (m : Map) (states : List DeviceState) (p : PoolParts) (first second : List Pair) (group : ℕ)
    → pairs_of first group ≡ pairs_of second group → placement m states p first group ≡ placement m states p second group
placement_same m states p first second group same =
    on_map m states p first second group (rule_numbered m p.rule) (λ r. placed_same (tables_of m) (weights_of (reweights states)) (flags_of states) r.steps p first second group same)

pub placement_alone : (m : Map) (states : List DeviceState) (p : PoolParts) (pairs : List Pair) (group : ℕ)
    → list_any (is_of_group group) pairs ≡ false → placement m states p pairs group ≡ placement m states p [] group
placement_alone m states p pairs group none = placement_same m states p pairs [] group (none_of pairs group none)
