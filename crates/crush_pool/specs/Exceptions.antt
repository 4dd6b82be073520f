-- Placement exceptions of a pool: pairs of devices, by which a group has another device than its
-- rule answered. They are this project's own form of the upmap items of Ceph (`_apply_upmap` of
-- `osd/OSDMap.cc`).
use Rattle.std.specs.Prelude.{ℕ, pos, ◌==◌, ◌&&◌, ◌≤◌, nat_lt, nat_le, Bool, not, List, [], ◌∷◌, length, map, filter, count_by, Some, if◌then◌else◌}
use Rattle.std.specs.List.{list_all}
use Rattle.crush_map.specs.crush_types.specs.declared.ItemId.{ItemId}
use Rattle.crush_map.specs.declared.limits.TheConstants.{NUMBER_LIMIT}
use Rattle.crush_bucket.specs.Tables.{TablesView, has_device}
use Rattle.crush_choose.specs.Firstn.{has, slot_has}
use Rattle.crush_choose.specs.Marks.{Slot}
use Rattle.crush_choose.specs.Weights.{weight_at}
use Rattle.crush_pool.specs.declared.exceptions.Pair.{Pair}
use Rattle.crush_pool.specs.declared.limits.TheConstants.{PAIR_LIMIT}

-- ---- lists of pairs

-- the group is below `groups`, and the ids are two different ones that devices can have
abbrev pub is_pair : ℕ → Pair → Bool
is_pair groups p = nat_lt p.group groups && nat_le p.from NUMBER_LIMIT && nat_le p.to NUMBER_LIMIT && not (p.from == p.to)

-- at most PAIR_LIMIT pairs, of a pool with `groups` groups
abbrev pub are_pairs : ℕ → List Pair → Bool
are_pairs groups pairs = nat_le (length pairs) PAIR_LIMIT && list_all (is_pair groups) pairs

abbrev pub is_of_group : ℕ → Pair → Bool
is_of_group group p = p.group == group

-- the pairs of a group, in their order
abbrev pub pairs_of : List Pair → ℕ → List Pair
pairs_of pairs group = filter (is_of_group group) pairs

-- the devices that the pairs of a group lead to
abbrev pub targets_of : List Pair → ℕ → List ℕ
targets_of pairs group = map (λ p. p.to) (pairs_of pairs group)

-- ---- what pairs do to the answer of a rule

-- the item that is the device with an id
abbrev pub device_item : ℕ → ItemId
device_item device = record { 0 = pos device }

-- whether a pair takes effect: `from` stands in the list and `to` doesn't, and `to` is a device of
-- the map whose reweight isn't 0
abbrev pub takes_effect : TablesView → List ℕ → Pair → List Slot → Bool
takes_effect t w p slots =
    has slots (device_item p.from) && not (has slots (device_item p.to)) && nat_lt 0 (weight_at w p.to) && has_device t p.to

-- the list with another item in the first slot that has an item
abbrev pub exchanged : ItemId → ItemId → List Slot → List Slot
exchanged from to [] = []
exchanged from to (slot ∷ slots) = if slot_has from slot then Some to ∷ slots else slot ∷ exchanged from to slots

abbrev pub after_pair : TablesView → List ℕ → Pair → List Slot → List Slot
after_pair t w p slots = if takes_effect t w p slots then exchanged (device_item p.from) (device_item p.to) slots else slots

-- one pair after the other
abbrev pub after_pairs : TablesView → List ℕ → List Pair → List Slot → List Slot
after_pairs t w [] slots = slots
after_pairs t w (p ∷ pairs) slots = after_pairs t w pairs (after_pair t w p slots)

-- the answer of the rule for a group, with the pairs of that group
abbrev pub excepted : TablesView → List ℕ → List Pair → ℕ → List Slot → List Slot
excepted t w pairs group raw = after_pairs t w (pairs_of pairs group) raw

-- ---- lists of devices

-- each device stands in at most one slot; none, and a bucket, may stand in several
abbrev pub HasNoDeviceTwice : List Slot → Type 0
HasNoDeviceTwice slots = (device : ℕ) → count_by (slot_has (device_item device)) slots ≤ 1
