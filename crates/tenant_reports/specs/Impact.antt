-- Which groups of a pool a device can touch: at `/t/{t}/pools/{p}/impact/{d}` GET reads those in
-- whose trace it is, or which have a pair that leads to it, on the newest version.
use Rattle.std.specs.Prelude.{ℕ, ◌==◌, List, [], ◌∷◌, map, Option, Some, None, Result, Ok, Err, codes, if◌then◌else◌}
use Rattle.std.specs.Option.{ok_or}
use Rattle.serde_json.specs.Data.{Data, object}
use Rattle.crush_map.specs.declared.draft.Device.{Device}
use Rattle.crush_pool.specs.Placers.{PoolOnMap}
use Rattle.crush_report.specs.Reports.{impact}
use Rattle.tenant_messages.specs.Refusals.{answer_with}
use Rattle.tenant_messages.specs.Reply.{Answer, refused, members_of, natural}
use Rattle.tenant_messages.specs.Slots.{list_json}
use Rattle.tenant_messages.specs.declared.reply.Problem.{Problem}
use Rattle.tenant_messages.specs.declared.reply.Problem.TheVariants.{NoPool, NoDevice, NoRule}
use Rattle.tenant_state.specs.State.{Inventory, TenantPool, newest, on_newest, pool}

-- ---- the answer

-- {"device": d, "epoch": E, "groups": [..], "pool": p, "version": V}
abbrev pub impact_reply : Inventory → ℕ → ℕ → List ℕ → Data
impact_reply inventory id device groups =
    object (members_of ((codes "device", natural device) ∷ (codes "epoch", natural inventory.epoch) ∷ (codes "groups", list_json (map natural groups))
    ∷ (codes "pool", natural id) ∷ (codes "version", natural (newest inventory)) ∷ []))

-- the id of the device with a number, if there is one
abbrev pub id_of : List Device → ℕ → Option ℕ
id_of [] number = None
id_of (d ∷ devices) number = if d.id == number then Some d.id else id_of devices number

-- the groups that a device can touch, which has to be one of the map
abbrev pub on_device : PoolOnMap → Option ℕ → Result (List ℕ) Problem
on_device p None = Err NoDevice
on_device p (Some device) = ok_or (impact p.map p.states p.pool p.pairs device) NoRule

-- the same on a map with the pool's rule, by the device's number
abbrev pub on_map : ℕ → Result PoolOnMap Problem → Result (List ℕ) Problem
on_map number (Err problem) = Err problem
on_map number (Ok p) = on_device p (id_of p.map.devices number)

-- the same on the newest version
abbrev pub groups_of : Inventory → TenantPool → ℕ → Result (List ℕ) Problem
groups_of inventory p number = on_map number (on_newest inventory p)

abbrev pub impact_on : Inventory → ℕ → Option TenantPool → Answer
impact_on inventory device None = refused NoPool
impact_on inventory device (Some p) = answer_with (impact_reply inventory p.parts.id device) (groups_of inventory p device)

-- the groups of the pool with an id that a device can touch
abbrev pub impact_answer : ℕ → ℕ → Inventory → Answer
impact_answer id device inventory = impact_on inventory device (pool id inventory)
