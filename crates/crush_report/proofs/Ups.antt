-- Up lists of a map have devices of the map alone, and the rows of usage sum up.
use Rattle.std.proofs.Common.{◌≡◌, ℕ, ℤ, pos, negsuc, ◌==◌, List, [], ◌∷◌, length, map, filter, Bool, true, false, if◌then◌else◌, is_some, Some, None, IfSome, slice_index_or, sum_by, refl, ◌∙◌, sym, ◌&&◌, not, nat_lt}
use Rattle.std.specs.List.{All, list_any}
use Rattle.std.proofs.lemmas.Bool.{and_parts}
use Rattle.std.proofs.lemmas.List.Elements.{All-nil, All-cons, All-head, All-tail, All-append, All-filter, All-map, All-weaker, filter_passes}
use Rattle.std.proofs.lemmas.List.Kept.{AllPairs-from_increasing}
use Rattle.crush_map.specs.Map.{Map, IsMap}
use Rattle.crush_map.specs.Sound.{has_item}
use Rattle.crush_map.specs.declared.draft.Device.{Device}
use Rattle.crush_map.specs.declared.draft.Rule.{Rule}
use Rattle.crush_bucket.specs.Tables.{tables_of}
use Rattle.crush_choose.specs.Marks.{Slot}
use Rattle.crush_choose.specs.Rules.{rule_answer}
use Rattle.crush_choose.specs.Weights.{weights_of}
use Rattle.crush_choose.specs.Firstn.{has, slot_has}
use Rattle.crush_choose.specs.Weights.{weight_at}
use Rattle.crush_bucket.specs.Tables.{has_device}
use Rattle.crush_map.specs.crush_types.specs.declared.ItemId.{ItemId}
use Rattle.crush_pool.specs.Exceptions.{after_pair, after_pairs, device_item, excepted, exchanged, pairs_of, takes_effect}
use Rattle.crush_pool.specs.declared.exceptions.Pair.{Pair}
use Rattle.crush_pool.specs.Placements.{id_is_up, if_up, is_up_slot, placed, primary_of, up_of}
use Rattle.crush_pool.specs.Pools.{seed_of}
use Rattle.crush_pool.specs.States.{flags_of, reweights}
use Rattle.crush_pool.specs.declared.pool.PoolParts.{PoolParts}
use Rattle.crush_pool.specs.declared.states.DeviceState.{DeviceState}
use Rattle.crush_report.specs.Reports.{groups, up_by, usage_by}
use Rattle.crush_report.specs.Usage.{all_entries, entries_of, entry_count, primaries_of}
use Rattle.crush_choose.proofs.Items.{AreSlots}
use Rattle.crush_choose.proofs.OfMap.{IsOf, same_devices}
use Rattle.crush_report.proofs.Sums.{AreAscending, IsAmong, each_counted, sum_rows}

abbrev ids_of : Map → List ℕ
ids_of m = map (λ (d : Device). d.id) m.devices

-- each slot of an up list is none, or a device of the map
abbrev AreAmong : List ℕ → List Slot → Type 0
AreAmong ids up = All (IsAmong ids) up

-- ---- exceptions

slots_exchanged : (m : Map) (from to : ItemId) (slots : List Slot) → IsOf m to → AreSlots (IsOf m) slots → AreSlots (IsOf m) (exchanged from to slots)
slots_exchanged m from to [] is are = are
slots_exchanged m from to (slot ∷ slots) is are =
    by (slot_has from slot) (slots_exchanged m from to slots is (All-tail (λ (one : Slot). IfSome one (IsOf m)) slot slots are))
  where
    by : (b : Bool) → AreSlots (IsOf m) (exchanged from to slots) → AreSlots (IsOf m) (if b then Some to ∷ slots else slot ∷ exchanged from to slots)
    by true rest = All-cons (λ (one : Slot). IfSome one (IsOf m)) (Some to) slots is (All-tail (λ (one : Slot). IfSome one (IsOf m)) slot slots are)
    by false rest = All-cons (λ (one : Slot). IfSome one (IsOf m)) slot (exchanged from to slots) (All-head (λ (one : Slot). IfSome one (IsOf m)) slot slots are) rest

-- a pair that takes effect leads to a device of the map
slots_if : (m : Map) (w : List ℕ) (p : Pair) (slots : List Slot) (b : Bool) → takes_effect (tables_of m) w p slots ≡ b → AreSlots (IsOf m) slots
    → AreSlots (IsOf m) (if b then exchanged (device_item p.from) (device_item p.to) slots else slots)
slots_if m w p slots true takes are =
    let there : has_device (tables_of m) p.to ≡ true =
    (and_parts (has slots (device_item p.from) && not (has slots (device_item p.to)) && nat_lt 0 (weight_at w p.to)) (has_device (tables_of m) p.to) takes).1 in
    let is : IsOf m (device_item p.to) = sym (same_devices m.devices p.to) ∙ there in
    slots_exchanged m (device_item p.from) (device_item p.to) slots is are
slots_if m w p slots false takes are = are

slots_after : (m : Map) (w : List ℕ) (pairs : List Pair) (slots : List Slot) → AreSlots (IsOf m) slots → AreSlots (IsOf m) (after_pairs (tables_of m) w pairs slots)
slots_after m w [] slots are = are
slots_after m w (p ∷ pairs) slots are =
    slots_after m w pairs (after_pair (tables_of m) w p slots) (slots_if m w p slots (takes_effect (tables_of m) w p slots) refl are)

excepted_are : (m : Map) (w : List ℕ) (pairs : List Pair) (group : ℕ) (raw : List Slot) → AreSlots (IsOf m) raw → AreSlots (IsOf m) (excepted (tables_of m) w pairs group raw)
excepted_are m w pairs group raw are = slots_after m w (pairs_of pairs group) raw are

-- ---- what is up

up_id : (m : Map) (flags : List Bool) (id : ℤ) → id_is_up flags id ≡ true → has_item m.devices m.buckets id ≡ true → (k : ℕ) × (id ≡ pos k) × (list_any (λ n. n == k) (ids_of m) ≡ true)
up_id m flags (pos n) up has = (n, refl, same_devices m.devices n ∙ has)
up_id m flags (negsuc n) up has = absurd cc

-- an item of the map that is up is a device of it
up_slot : (m : Map) (flags : List Bool) (slot : Slot) → is_up_slot flags slot ≡ true → IfSome slot (IsOf m) → IsAmong (ids_of m) slot
up_slot m flags None up is = tt
up_slot m flags (Some item) up is = up_id m flags item.0 up is

up_or_none : (m : Map) (flags : List Bool) (slot : Slot) (up : Bool) → is_up_slot flags slot ≡ up → IfSome slot (IsOf m) → IsAmong (ids_of m) (if up then slot else None)
up_or_none m flags slot true e is = up_slot m flags slot e is
up_or_none m flags slot false e is = tt

up_among : (m : Map) (flags : List Bool) (erasure : Bool) (raw : List Slot) → AreSlots (IsOf m) raw → AreAmong (ids_of m) (up_of erasure flags raw)
up_among m flags false raw are = λ j d lt.
    up_slot m flags (slice_index_or (filter (is_up_slot flags) raw) j d) (filter_passes (is_up_slot flags) raw j d lt)
    (All-filter (is_up_slot flags) (λ (slot : Slot). IfSome slot (IsOf m)) raw are j d lt)
up_among m flags true raw are =
    All-map (IsAmong (ids_of m)) (if_up flags) raw
    (All-weaker (λ (slot : Slot). IfSome slot (IsOf m)) (λ slot. IsAmong (ids_of m) (if_up flags slot)) (λ slot is. up_or_none m flags slot (is_up_slot flags slot) refl is) raw are)

-- ---- entries and primaries of up lists

entries_among : (ids : List ℕ) (ups : List (List Slot)) → All (AreAmong ids) ups → AreAmong ids (all_entries ups)
entries_among ids [] are = All-nil (IsAmong ids)
entries_among ids (up ∷ ups) are =
    All-append (IsAmong ids) up (all_entries ups) (All-head (AreAmong ids) up ups are) (entries_among ids ups (All-tail (AreAmong ids) up ups are))

primary_among : (ids : List ℕ) (up : List Slot) → AreAmong ids up → IsAmong ids (primary_of up)
primary_among ids [] are = tt
primary_among ids (None ∷ up) are = primary_among ids up (All-tail (IsAmong ids) None up are)
primary_among ids (Some item ∷ up) are = All-head (IsAmong ids) (Some item) up are

ascending : (m : Map) → IsMap m → AreAscending (ids_of m)
ascending m is = AllPairs-from_increasing (ids_of m) is.devices

-- ---- usage

-- the law of answers, of this map and rule
abbrev pub AnswersAreOf : Map → Rule → Type 0
AnswersAreOf m rule = (w : List ℕ) (x size : ℕ) → AreSlots (IsOf m) (rule_answer (tables_of m) w rule.steps x size)

ups_among : (m : Map) (states : List DeviceState) (p : PoolParts) (pairs : List Pair) (rule : Rule) → AnswersAreOf m rule → (gs : List ℕ)
    → All (AreAmong (ids_of m)) (map (up_by m states p pairs rule) gs)
unfolding placed
ups_among m states p pairs rule are gs =
    All-map (AreAmong (ids_of m)) (up_by m states p pairs rule) gs (λ j d lt.
    let group = slice_index_or gs j d in
    let w = weights_of (reweights states) in
    let raw = rule_answer (tables_of m) w rule.steps (seed_of p group) p.size in
    up_among m (flags_of states) p.erasure (excepted (tables_of m) w pairs group raw) (excepted_are m w pairs group raw (are w (seed_of p group) p.size)))

pub entries_sum : (m : Map) (states : List DeviceState) (p : PoolParts) (pairs : List Pair) (rule : Rule) → IsMap m → AnswersAreOf m rule
    → sum_by (λ r. r.entries) (usage_by m states p pairs rule) ≡ entry_count (map (up_by m states p pairs rule) (groups p))
entries_sum m states p pairs rule is are =
    let ups = map (up_by m states p pairs rule) (groups p) in
    let among = entries_among (ids_of m) ups (ups_among m states p pairs rule are (groups p)) in
    sum_rows ups (λ r. r.entries) (λ id. entries_of id ups) m.devices (λ id. refl)
    ∙ each_counted (λ (slot : Slot). slot) (ids_of m) (ascending m is) (all_entries ups) among

pub primaries_sum : (m : Map) (states : List DeviceState) (p : PoolParts) (pairs : List Pair) (rule : Rule) → IsMap m → AnswersAreOf m rule
    → sum_by (λ r. r.primaries) (usage_by m states p pairs rule) ≡ length (filter (λ up. is_some (primary_of up)) (map (up_by m states p pairs rule) (groups p)))
primaries_sum m states p pairs rule is are =
    let ups = map (up_by m states p pairs rule) (groups p) in
    let among = All-weaker (AreAmong (ids_of m)) (λ up. IsAmong (ids_of m) (primary_of up)) (λ up. primary_among (ids_of m) up) ups (ups_among m states p pairs rule are (groups p)) in
    sum_rows ups (λ r. r.primaries) (λ id. primaries_of id ups) m.devices (λ id. refl)
    ∙ each_counted (λ (up : List Slot). primary_of up) (ids_of m) (ascending m is) ups among
