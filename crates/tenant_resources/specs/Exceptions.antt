-- Placement exceptions of pools: at `/t/{t}/pools/exceptions` POST sets those of a pool, and at
-- `/t/{t}/pools/{p}/exceptions` GET reads them.
use Rattle.std.specs.Prelude.{◌≡◌, ℕ, suc, ◌≤◌, ◌&&◌, List, [], ◌∷◌, length, map, Bool, true, nat_le, if◌then◌else◌, Option, Some, None, option_and_then, Result, Ok, Err, codes}
use Rattle.std.specs.List.{list_all}
use Rattle.serde_json.specs.Data.{Data, object}
use Rattle.crush_map.specs.Map.{Map}
use Rattle.crush_pool.specs.Exceptions.{are_pairs}
use Rattle.crush_pool.specs.declared.exceptions.Pair.{Pair}
use Rattle.crush_pool.specs.declared.limits.TheConstants.{GROUP_LIMIT, POOL_ID_LIMIT}
use Rattle.tenant_messages.specs.Forms.{IsNatural, IsListOf, HasExactly, IsUnder}
use Rattle.tenant_messages.specs.Json.{value_of, natural_of, all_three, list_of, has_keys, under}
use Rattle.tenant_messages.specs.Numbers.{IsRequestNumber, request_number_of}
use Rattle.tenant_messages.specs.Reply.{Answer, refused, success, members_of, natural}
use Rattle.tenant_messages.specs.Slots.{list_json}
use Rattle.tenant_messages.specs.declared.reply.Problem.{Problem}
use Rattle.tenant_messages.specs.declared.reply.Problem.TheVariants.{NoVersion, NoPool, NoGroup, NoDevice}
use Rattle.tenant_messages.specs.declared.reply.SuccessStatus.TheVariants.{Done}
use Rattle.tenant_resources.specs.Devices.{has_device}
use Rattle.tenant_resources.specs.Orders.{Acceptance}
use Rattle.tenant_state.specs.State.{Inventory, NewExceptions, TenantPool, newest, pool, version}

-- ---- the form of a body, and the pairs that it says

-- {"from": .., "group": .., "to": ..}
pub record IsPairForm (d : Data) (p : Pair) : Type 0 where
  pub keys : HasExactly (codes "from" ∷ codes "group" ∷ codes "to" ∷ []) d
  pub from : IsUnder (codes "from") (IsNatural 4294967295) d p.from
  pub group : IsUnder (codes "group") (IsNatural 4294967295) d p.group
  pub to : IsUnder (codes "to") (IsNatural 4294967295) d p.to

-- {"exceptions": [PAIR, ..], "id": 1..POOL_ID_LIMIT, "request": REQUEST}: pairs that some pool can
-- have
pub record IsExceptionsBody (d : Data) (asked : List ℕ × (ℕ × List Pair)) : Type 0 where
  pub keys : HasExactly (codes "exceptions" ∷ codes "id" ∷ codes "request" ∷ []) d
  pub exceptions : IsUnder (codes "exceptions") (IsListOf IsPairForm) d asked.1.1
  pub id : IsUnder (codes "id") (IsNatural POOL_ID_LIMIT) d asked.1.0
  pub request : IsUnder (codes "request") IsRequestNumber d asked.0
  pub some : 1 ≤ asked.1.0
  pub ranges : are_pairs GROUP_LIMIT asked.1.1 ≡ true

-- ---- reading a body

-- pairs are read exactly where the body has that form (law `exceptions_are_of_the_form`)

abbrev pub number_under : List ℕ → Data → Option ℕ
number_under key d = under key (natural_of 4294967295) d

abbrev pub pair_with : ℕ → ℕ → ℕ → Pair
pair_with group from to = record { group = group; from = from; to = to }

abbrev pub pair_of : Data → Option Pair
pair_of d = if has_keys 3 d then all_three pair_with (number_under (codes "group") d) (number_under (codes "from") d) (number_under (codes "to") d) else None

abbrev pub if_in_range : List ℕ × (ℕ × List Pair) → Option (List ℕ × (ℕ × List Pair))
if_in_range asked = if nat_le 1 asked.1.0 && are_pairs GROUP_LIMIT asked.1.1 then Some asked else None

abbrev pub asked_with : List ℕ → ℕ → List Pair → List ℕ × (ℕ × List Pair)
asked_with number id pairs = (number, (id, pairs))

-- the request number, the id of the pool, and the pairs
abbrev pub exceptions_of : Data → Option (List ℕ × (ℕ × List Pair))
exceptions_of d =
    if has_keys 3 d then
    option_and_then if_in_range
    (all_three asked_with (under (codes "request") request_number_of d) (under (codes "id") (natural_of POOL_ID_LIMIT) d) (under (codes "exceptions") (list_of pair_of) d))
    else None

abbrev pub exceptions_request_of : List ℕ → Option (List ℕ × (ℕ × List Pair))
exceptions_request_of body = option_and_then exceptions_of (value_of body)

-- ---- setting the pairs of a pool

abbrev pub has_devices : Map → List Pair → Bool
has_devices m pairs = list_all (λ q. has_device m q.from && has_device m q.to) pairs

-- {"epoch": E, "exceptions": the number of pairs, "pool": id}
abbrev pub setting : ℕ → List Pair → Inventory → Data
setting id pairs inventory =
    object (members_of ((codes "epoch", natural (suc inventory.epoch)) ∷ (codes "exceptions", natural (length pairs)) ∷ (codes "pool", natural id) ∷ []))

-- each device has to be one of the newest version
abbrev pub on_version : ℕ → List Pair → Inventory → Option Map → Result Acceptance Problem
on_version id pairs inventory None = Err NoVersion
on_version id pairs inventory (Some m) =
    if has_devices m pairs then Ok (record { made = NewExceptions id pairs; status = Done; body = setting id pairs inventory }) else Err NoDevice

-- and before that, the pool has to be one that can have the pairs: since those of a body are in
-- their ranges, what it may lack is the group of a pair (law `pools_may_lack_groups`)
abbrev pub on_pool : ℕ → List Pair → Inventory → Option TenantPool → Result Acceptance Problem
on_pool id pairs inventory None = Err NoPool
on_pool id pairs inventory (Some p) =
    if are_pairs p.parts.pg_num pairs then on_version id pairs inventory (version (newest inventory) inventory) else Err NoGroup

abbrev pub exceptions_set : ℕ → List Pair → Inventory → Result Acceptance Problem
exceptions_set id pairs inventory = on_pool id pairs inventory (pool id inventory)

-- ---- the answer

abbrev pub pair_json : Pair → Data
pair_json p = object (members_of ((codes "from", natural p.from) ∷ (codes "group", natural p.group) ∷ (codes "to", natural p.to) ∷ []))

-- {"epoch": E, "exceptions": [PAIR, ..], "pool": id}
abbrev pub exceptions_reply : Inventory → TenantPool → Data
exceptions_reply inventory p =
    object (members_of ((codes "epoch", natural inventory.epoch) ∷ (codes "exceptions", list_json (map pair_json p.pairs)) ∷ (codes "pool", natural p.parts.id) ∷ []))

abbrev pub exceptions_on : Inventory → Option TenantPool → Answer
exceptions_on inventory None = refused NoPool
exceptions_on inventory (Some p) = success (exceptions_reply inventory p)

-- the pairs of the pool with an id
abbrev pub exceptions_answer : ℕ → Inventory → Answer
exceptions_answer id inventory = exceptions_on inventory (pool id inventory)
