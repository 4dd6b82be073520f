-- Pools, at `/t/{t}/pools`: POST creates one. At `/t/{t}/pools/remove` POST removes one.
use Rattle.std.specs.Prelude.{◌≡◌, ℕ, suc, ◌≤◌, List, [], ◌∷◌, length, Bool, true, false, nat_le, if◌then◌else◌, Option, Some, None, option_and_then, Result, Ok, Err, codes}
use Rattle.std.specs.List.{list_any}
use Rattle.std.specs.Str.{bytes_eq}
use Rattle.serde_json.specs.Data.{Data, object}
use Rattle.serde_json.specs.Find.{as_bool, as_str}
use Rattle.crush_map.specs.Map.{Map}
use Rattle.crush_map.specs.declared.draft.Rule.{Rule}
use Rattle.crush_pool.specs.Placements.{rule_numbered}
use Rattle.crush_pool.specs.Pools.{is_pool}
use Rattle.crush_pool.specs.declared.limits.TheConstants.{POOL_ID_LIMIT}
use Rattle.crush_pool.specs.declared.pool.PoolParts.{PoolParts}
use Rattle.tenant_messages.specs.Forms.{IsNatural, IsBoolean, IsText, HasExactly, IsUnder}
use Rattle.tenant_messages.specs.Json.{value_of, natural_of, both, has_keys, under}
use Rattle.tenant_messages.specs.Numbers.{IsRequestNumber, request_number_of}
use Rattle.tenant_messages.specs.Reply.{members_of, natural}
use Rattle.tenant_messages.specs.declared.reply.Problem.{Problem}
use Rattle.tenant_messages.specs.declared.reply.Problem.TheVariants.{NoVersion, NoPool, NoRule, Exists, TenantLimit}
use Rattle.tenant_messages.specs.declared.reply.SuccessStatus.TheVariants.{Done, Created}
use Rattle.tenant_resources.specs.declared.pools.Sizes.{Sizes}
use Rattle.tenant_resources.specs.Orders.{Acceptance}
use Rattle.tenant_state.specs.declared.limits.TheConstants.{POOL_LIMIT}
use Rattle.tenant_state.specs.State.{Inventory, NewPool, RemovedPool, TenantPool, is_like, newest, version, pool}

-- ---- the form of a body, and the pool that it says

-- a pool of erasure coded data or a replicated one
abbrev pub kind_text : Bool → List ℕ
kind_text true = codes "erasure"
kind_text false = codes "replicated"

-- {"hashpspool": true or false, "id": .., "kind": "replicated" or "erasure", "name": .., "pg_num":
-- .., "pgp_num": .., "request": REQUEST, "rule": .., "size": ..}, with the numbers and the name in
-- the ranges of a pool
pub record IsPoolBody (d : Data) (asked : List ℕ × PoolParts) : Type 0 where
  pub keys : HasExactly (codes "hashpspool" ∷ codes "id" ∷ codes "kind" ∷ codes "name" ∷ codes "pg_num" ∷ codes "pgp_num" ∷ codes "request" ∷ codes "rule" ∷ codes "size" ∷ []) d
  pub request : IsUnder (codes "request") IsRequestNumber d asked.0
  pub id : IsUnder (codes "id") (IsNatural 4294967295) d asked.1.id
  pub name : IsUnder (codes "name") IsText d asked.1.name
  pub kind : IsUnder (codes "kind") (λ v erasure. IsText v (kind_text erasure)) d asked.1.erasure
  pub size : IsUnder (codes "size") (IsNatural 4294967295) d asked.1.size
  pub rule : IsUnder (codes "rule") (IsNatural 4294967295) d asked.1.rule
  pub pg_num : IsUnder (codes "pg_num") (IsNatural 4294967295) d asked.1.pg_num
  pub pgp_num : IsUnder (codes "pgp_num") (IsNatural 4294967295) d asked.1.pgp_num
  pub hashpspool : IsUnder (codes "hashpspool") IsBoolean d asked.1.hashpspool
  pub ranges : is_pool asked.1 ≡ true

-- {"id": 1..POOL_ID_LIMIT, "request": REQUEST}
pub record IsRemovalBody (d : Data) (asked : List ℕ × ℕ) : Type 0 where
  pub keys : HasExactly (codes "id" ∷ codes "request" ∷ []) d
  pub request : IsUnder (codes "request") IsRequestNumber d asked.0
  pub id : IsUnder (codes "id") (IsNatural POOL_ID_LIMIT) d asked.1
  pub some : 1 ≤ asked.1

-- ---- reading a body

-- a pool is read exactly where the body has that form (laws `pools_are_of_the_form`,
-- `removals_are_of_the_form`)

abbrev pub kind_named : List ℕ → Option Bool
kind_named text = if bytes_eq text (codes "replicated") then Some false else (if bytes_eq text (codes "erasure") then Some true else None)

abbrev pub kind_of : Data → Option Bool
kind_of d = option_and_then kind_named (as_str d)

abbrev pub pair : {A B : Type 0} → A → B → A × B
pair a b = (a, b)

-- the parts in the order in which they are read: request and id, name and kind, size and rule,
-- pg_num and pgp_num, hashpspool
abbrev pub pool_with : (List ℕ × ℕ) × (List ℕ × Bool) → Sizes → List ℕ × PoolParts
pool_with named sizes = (
  named.0.0,
  record {
    id = named.0.1;
    name = named.1.0;
    erasure = named.1.1;
    size = sizes.size;
    rule = sizes.rule;
    pg_num = sizes.pg_num;
    pgp_num = sizes.pgp_num;
    hashpspool = sizes.hashpspool;
  },
)

abbrev pub number_under : List ℕ → Data → Option ℕ
number_under key d = under key (natural_of 4294967295) d

abbrev pub named_of : Data → Option ((List ℕ × ℕ) × (List ℕ × Bool))
named_of d =
    both pair (both pair (under (codes "request") request_number_of d) (number_under (codes "id") d))
    (both pair (under (codes "name") as_str d) (under (codes "kind") kind_of d))

abbrev pub sizes_with : (ℕ × ℕ) × (ℕ × ℕ) → Bool → Sizes
sizes_with numbers hashpspool =
    record { size = numbers.0.0; rule = numbers.0.1; pg_num = numbers.1.0; pgp_num = numbers.1.1; hashpspool = hashpspool }

abbrev pub sizes_of : Data → Option Sizes
sizes_of d =
    both sizes_with (both pair (both pair (number_under (codes "size") d) (number_under (codes "rule") d))
    (both pair (number_under (codes "pg_num") d) (number_under (codes "pgp_num") d))) (under (codes "hashpspool") as_bool d)

abbrev pub if_pool : List ℕ × PoolParts → Option (List ℕ × PoolParts)
if_pool asked = if is_pool asked.1 then Some asked else None

abbrev pub parts_of : Data → Option (List ℕ × PoolParts)
parts_of d = both pool_with (named_of d) (sizes_of d)

-- the request number, and the pool
abbrev pub pool_of : Data → Option (List ℕ × PoolParts)
pool_of d = if has_keys 9 d then option_and_then if_pool (parts_of d) else None

abbrev pub pool_request_of : List ℕ → Option (List ℕ × PoolParts)
pool_request_of body = option_and_then pool_of (value_of body)

abbrev pub if_some_id : List ℕ × ℕ → Option (List ℕ × ℕ)
if_some_id asked = if nat_le 1 asked.1 then Some asked else None

-- the request number, and the id
abbrev pub removal_of : Data → Option (List ℕ × ℕ)
removal_of d =
    if has_keys 2 d then option_and_then if_some_id (both pair (under (codes "request") request_number_of d) (under (codes "id") (natural_of POOL_ID_LIMIT) d)) else None

abbrev pub removal_request_of : List ℕ → Option (List ℕ × ℕ)
removal_request_of body = option_and_then removal_of (value_of body)

-- ---- creating a pool

-- {"epoch": E, "pool": id}
abbrev pub creation_reply : ℕ → Inventory → Data
creation_reply id inventory = object (members_of ((codes "epoch", natural (suc inventory.epoch)) ∷ (codes "pool", natural id) ∷ []))

abbrev pub on_rule : PoolParts → Inventory → Option Rule → Result Acceptance Problem
on_rule p inventory None = Err NoRule
on_rule p inventory (Some rule) =
    if list_any (is_like p) inventory.pools then Err Exists
    else (if nat_le POOL_LIMIT (length inventory.pools) then Err TenantLimit
    else Ok (record { made = NewPool p; status = Created; body = creation_reply p.id inventory }))

-- the newest version has to have the pool's rule
abbrev pub on_version : PoolParts → Inventory → Option Map → Result Acceptance Problem
on_version p inventory None = Err NoVersion
on_version p inventory (Some m) = on_rule p inventory (rule_numbered m p.rule)

abbrev pub created : PoolParts → Inventory → Result Acceptance Problem
created p inventory = on_version p inventory (version (newest inventory) inventory)

-- ---- removing a pool

-- {"epoch": E, "removed": id}
abbrev pub removal_reply : ℕ → Inventory → Data
removal_reply id inventory = object (members_of ((codes "epoch", natural (suc inventory.epoch)) ∷ (codes "removed", natural id) ∷ []))

abbrev pub on_pool : ℕ → Inventory → Option TenantPool → Result Acceptance Problem
on_pool id inventory None = Err NoPool
on_pool id inventory (Some p) = Ok (record { made = RemovedPool id; status = Done; body = removal_reply id inventory })

abbrev pub removed : ℕ → Inventory → Result Acceptance Problem
removed id inventory = on_pool id inventory (pool id inventory)
