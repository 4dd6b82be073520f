-- The devices of a group (`OSDMap::_pg_to_raw_osds`, `_raw_to_up_osds` and `_pick_primary` of
-- Ceph's `osd/OSDMap.cc`).
use Rattle.std.specs.Prelude.{ℕ, ℤ, pos, negsuc, ◌==◌, Bool, true, false, List, [], ◌∷◌, map, filter, find, Option, Some, None, option_map, if◌then◌else◌}
use Rattle.crush_map.specs.declared.draft.Rule.{Rule}
use Rattle.crush_map.specs.declared.draft.Step.{Step}
use Rattle.crush_map.specs.Map.{Map}
use Rattle.crush_bucket.specs.Tables.{TablesView, tables_of}
use Rattle.crush_choose.specs.Marks.{Slot}
use Rattle.crush_choose.specs.Rules.{rule_answer}
use Rattle.crush_choose.specs.Weights.{weights_of}
use Rattle.crush_pool.specs.Exceptions.{excepted}
use Rattle.crush_pool.specs.Pools.{seed_of}
use Rattle.crush_pool.specs.States.{flags_of, up_at, reweights}
use Rattle.crush_pool.specs.declared.exceptions.Pair.{Pair}
use Rattle.crush_pool.specs.declared.placing.Placement.{Placement}
use Rattle.crush_pool.specs.declared.pool.PoolParts.{PoolParts}
use Rattle.crush_pool.specs.declared.states.DeviceState.{DeviceState}

-- ---- from the rule's answer, with its exceptions, to the devices that are up

abbrev pub id_is_up : List Bool → ℤ → Bool
id_is_up flags (pos device) = up_at flags device
id_is_up flags (negsuc n) = false

-- whether a slot has a device that is up
abbrev pub is_up_slot : List Bool → Slot → Bool
is_up_slot flags None = false
is_up_slot flags (Some item) = id_is_up flags item.0

abbrev pub if_up : List Bool → Slot → Slot
if_up flags slot = if is_up_slot flags slot then slot else None

-- in a replicated pool what is no device that is up is left out; in an erasure pool it becomes
-- none, since each place has its own part of the data
abbrev pub up_of : Bool → List Bool → List Slot → List Slot
up_of false flags raw = filter (is_up_slot flags) raw
up_of true flags raw = map (if_up flags) raw

-- the first that is not none
abbrev pub primary_of : List Slot → Slot
primary_of [] = None
primary_of (None ∷ slots) = primary_of slots
primary_of (Some item ∷ slots) = Some item

-- ---- placements

-- the placement of a group by the steps of its pool's rule: raw is the rule's answer, and the
-- pairs of the pool change what up is made of
unfoldable pub placed : TablesView → List ℕ → List Bool → List Step → PoolParts → List Pair → ℕ → Placement
placed t w flags steps p pairs group =
    let raw = rule_answer t w steps (seed_of p group) p.size in
    let up = up_of p.erasure flags (excepted t w pairs group raw) in
    record { seed = seed_of p group; raw = raw; up = up; primary = primary_of up }

-- the rule of a map with an id
abbrev pub rule_numbered : Map → ℕ → Option Rule
rule_numbered m id = find (λ r. r.id == id) m.rules

-- the placement of a group of a pool on a map, with pairs of the pool and states of devices; none
-- where the map lacks the pool's rule
abbrev pub placement : Map → List DeviceState → PoolParts → List Pair → ℕ → Option Placement
placement m states p pairs group =
    option_map (λ r. placed (tables_of m) (weights_of (reweights states)) (flags_of states) r.steps p pairs group) (rule_numbered m p.rule)
