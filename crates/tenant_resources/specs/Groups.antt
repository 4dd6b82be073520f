-- Groups of pools: at `/t/{t}/pools/{p}/groups/{g}` GET reads where a group lies, and at
-- `/t/{t}/pools/{p}/locate` POST asks where an object lies.
use Rattle.std.specs.Prelude.{ℕ, ◌≤◌, List, [], ◌∷◌, length, map, nat_lt, nat_le, if◌then◌else◌, Option, Some, None, option_and_then, ok_or, Result, Ok, Err, codes}
use Rattle.serde_json.specs.Data.{Data, object}
use Rattle.serde_json.specs.Find.{as_str}
use Rattle.crush_hash.specs.Hash.{name_hash}
use Rattle.crush_pool.specs.Placements.{placement}
use Rattle.crush_pool.specs.Placers.{PoolOnMap}
use Rattle.crush_pool.specs.Pools.{group_of}
use Rattle.crush_pool.specs.declared.placing.Placement.{Placement}
use Rattle.tenant_messages.specs.Forms.{IsText, HasExactly, IsUnder}
use Rattle.tenant_messages.specs.Json.{value_of, has_keys, under}
use Rattle.tenant_messages.specs.Refusals.{answer_with}
use Rattle.tenant_messages.specs.Reply.{Answer, refused, members_of, natural}
use Rattle.tenant_messages.specs.declared.reply.Problem.{Problem}
use Rattle.tenant_messages.specs.declared.reply.Problem.TheVariants.{NoPool, NoGroup, NoRule}
use Rattle.tenant_messages.specs.Slots.{slot_json, list_json}
use Rattle.tenant_resources.specs.declared.limits.TheConstants.{OBJECT_NAME_LIMIT}
use Rattle.tenant_state.specs.State.{Inventory, TenantPool, newest, on_newest, pool}

-- ---- the form of the body that asks for an object

-- {"name": TEXT}, of at most OBJECT_NAME_LIMIT bytes
pub record IsLocateBody (d : Data) (text : List ℕ) : Type 0 where
  pub keys : HasExactly (codes "name" ∷ []) d
  pub name : IsUnder (codes "name") IsText d text
  pub few : length text ≤ OBJECT_NAME_LIMIT

-- ---- reading it

-- a name is read exactly where the body has that form (law `object_names_are_of_the_form`)

abbrev pub if_short : List ℕ → Option (List ℕ)
if_short name = if nat_le (length name) OBJECT_NAME_LIMIT then Some name else None

abbrev pub name_of : Data → Option (List ℕ)
name_of d = if has_keys 1 d then option_and_then if_short (under (codes "name") as_str d) else None

abbrev pub locate_request_of : List ℕ → Option (List ℕ)
locate_request_of body = option_and_then name_of (value_of body)

-- ---- the answer

-- {"epoch": E, "group": g, "primary": .., "raw": [..], "seed": .., "up": [..], "version": V}; for
-- an object with "hash" after "group"
abbrev pub group_reply : Inventory → ℕ → Placement → Data
group_reply inventory group p =
    object (members_of ((codes "epoch", natural inventory.epoch) ∷ (codes "group", natural group) ∷ (codes "primary", slot_json p.primary)
    ∷ (codes "raw", list_json (map slot_json p.raw)) ∷ (codes "seed", natural p.seed) ∷ (codes "up", list_json (map slot_json p.up))
    ∷ (codes "version", natural (newest inventory)) ∷ []))

abbrev pub object_reply : List ℕ → Inventory → ℕ → Placement → Data
object_reply name inventory group p =
    object (members_of ((codes "epoch", natural inventory.epoch) ∷ (codes "group", natural group) ∷ (codes "hash", natural (name_hash name))
    ∷ (codes "primary", slot_json p.primary) ∷ (codes "raw", list_json (map slot_json p.raw)) ∷ (codes "seed", natural p.seed)
    ∷ (codes "up", list_json (map slot_json p.up)) ∷ (codes "version", natural (newest inventory)) ∷ []))

-- a group is placed by the rule of its pool, and by the pairs of the group
abbrev pub on_map : ℕ → Result PoolOnMap Problem → Result Placement Problem
on_map group (Err problem) = Err problem
on_map group (Ok p) = ok_or (placement p.map p.states p.pool p.pairs group) NoRule

-- the placement of a group on the newest version, or why there is none
abbrev pub placed : Inventory → TenantPool → ℕ → Result Placement Problem
placed inventory p group = if nat_lt group p.parts.pg_num then on_map group (on_newest inventory p) else Err NoGroup

abbrev pub group_on : Inventory → ℕ → Option TenantPool → Answer
group_on inventory group None = refused NoPool
group_on inventory group (Some p) = answer_with (group_reply inventory group) (placed inventory p group)

-- the group with a number of the pool with an id
abbrev pub group_answer : ℕ → ℕ → Inventory → Answer
group_answer id group inventory = group_on inventory group (pool id inventory)

abbrev pub object_on : Inventory → List ℕ → Option TenantPool → Answer
object_on inventory name None = refused NoPool
object_on inventory name (Some p) = let group = group_of p.parts name in answer_with (object_reply name inventory group) (placed inventory p group)

-- the group of the object with a name, of the pool with an id
abbrev pub object_answer : ℕ → List ℕ → Inventory → Answer
object_answer id name inventory = object_on inventory name (pool id inventory)
