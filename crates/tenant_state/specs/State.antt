-- The state of a tenant, and its changes.
use Rattle.std.specs.Prelude.{ℕ, ◌≡◌, ◌<◌, ◌+◌, ◌-◌, ◌==◌, ◌||◌, List, [], ◌∷◌, ◌++◌, length, slice_get, find, fold, Bool, true, false, nat_lt, if◌then◌else◌, Option, Some, None, is_some, option_map, option_and_then, ok_or, Result, Err}
use Rattle.std.specs.List.{list_all, list_any}
use Rattle.std.specs.Str.{bytes_eq}
use Rattle.crush_map.specs.Map.{Map}
use Rattle.crush_map.specs.declared.draft.Rule.{Rule}
use Rattle.crush_pool.specs.Exceptions.{are_pairs}
use Rattle.crush_pool.specs.Placements.{rule_numbered}
use Rattle.crush_pool.specs.Placers.{PoolOnMap}
use Rattle.crush_pool.specs.declared.exceptions.Pair.{Pair}
use Rattle.crush_pool.specs.declared.pool.PoolParts.{PoolParts}
use Rattle.crush_pool.specs.declared.states.DeviceState.{DeviceState}
use Rattle.tenant_messages.specs.declared.reply.Problem.{Problem}
use Rattle.tenant_messages.specs.declared.reply.Problem.TheVariants.{NoVersion, NoRule}
use Rattle.tenant_state.specs.Ordered.{with_element, without}
use Rattle.tenant_state.specs.Receipts.{Receipts, receipt_of, with_receipt}
use Rattle.tenant_state.specs.declared.limits.TheConstants.{POOL_LIMIT, RECEIPT_LIMIT, VERSION_LIMIT}
use Rattle.tenant_state.specs.declared.receipts.Receipt.{Receipt}

-- a pool of a tenant: its settings, and the pairs of its placement exceptions
pub record TenantPool : Type 0 where
  pub parts : PoolParts
  pub pairs : List Pair

-- the versions 1, 2, .. of the tenant's map; the states of devices that were stored, and the pools,
-- both in order of their ids; and the receipts of its accepted changes
pub record TenantState : Type 0 where
  pub versions : List Map
  pub devices : List DeviceState
  pub pools : List TenantPool
  pub receipts : Receipts

-- a tenant that was just created
abbrev pub fresh : TenantState
fresh = record { versions = []; devices = []; pools = []; receipts = [] }

-- the number of accepted changes, each of which left one receipt
abbrev pub epoch : TenantState → ℕ
epoch state = length state.receipts

-- what a tenant has: its state without the receipts, of which only their number remains, the epoch
pub record Inventory : Type 0 where
  pub versions : List Map
  pub devices : List DeviceState
  pub pools : List TenantPool
  pub epoch : ℕ

abbrev pub inventory_of : TenantState → Inventory
inventory_of state = record { versions = state.versions; devices = state.devices; pools = state.pools; epoch = epoch state }

-- ---- versions

-- the number of the newest version, or 0 where there is none
abbrev pub newest : Inventory → ℕ
newest inventory = length inventory.versions

-- the map of a version
abbrev pub version : ℕ → Inventory → Option Map
version number inventory = if number == 0 then None else slice_get inventory.versions (number - 1)

-- ---- devices and pools

-- the states of devices with one more, in place of that of the same device
abbrev pub with_state : List DeviceState → DeviceState → List DeviceState
with_state states new = with_element (λ s. s.device) new states

-- the states of devices with these stored, one after the other
abbrev pub with_states : List DeviceState → List DeviceState → List DeviceState
with_states changed states = fold with_state states changed

-- the orders in which states and pools are stored: by the ids of the devices, and of the pools
abbrev pub is_lower_device : DeviceState → DeviceState → Bool
is_lower_device s t = nat_lt s.device t.device

abbrev pub is_lower_pool : TenantPool → TenantPool → Bool
is_lower_pool p q = nat_lt p.parts.id q.parts.id

-- the pool with an id
abbrev pub pool : ℕ → Inventory → Option TenantPool
pool id inventory = find (λ p. p.parts.id == id) inventory.pools

-- the pools with these pairs as those of the first that has an id
abbrev pub with_pairs : ℕ → List Pair → List TenantPool → List TenantPool
with_pairs id pairs [] = []
with_pairs id pairs (p ∷ ps) = if p.parts.id == id then record p { pairs = pairs } ∷ ps else p ∷ with_pairs id pairs ps

-- whether a pool has the id or the name of another
abbrev pub is_like : PoolParts → TenantPool → Bool
is_like p other = other.parts.id == p.id || bytes_eq other.parts.name p.name

-- whether a map has the rule of each of some pools
abbrev pub has_rules_of : List TenantPool → Map → Bool
has_rules_of pools m = list_all (λ p. is_some (rule_numbered m p.parts.rule)) pools

-- the rule of a pool in the newest version
abbrev pub rule_of : Inventory → PoolParts → Option Rule
rule_of inventory p = option_and_then (λ m. rule_numbered m p.rule) (version (newest inventory) inventory)

-- whether the newest version has each pool's rule
abbrev pub have_rules : Inventory → Bool
have_rules inventory = list_all (λ p. is_some (rule_of inventory p.parts)) inventory.pools

-- ---- a pool on a version, with its pairs, and the states of devices as they are now

-- on a version, which has to have the pool's rule
abbrev pub on_version : Inventory → TenantPool → Map → Result PoolOnMap Problem
on_version inventory p m =
    ok_or (option_map (λ rule. record { map = m; states = inventory.devices; pool = p.parts; pairs = p.pairs }) (rule_numbered m p.parts.rule)) NoRule

abbrev pub if_there : Inventory → TenantPool → Option Map → Result PoolOnMap Problem
if_there inventory p None = Err NoVersion
if_there inventory p (Some m) = on_version inventory p m

-- on the newest version, which has the pool's rule (law `pools_have_their_rules`)
abbrev pub on_newest : Inventory → TenantPool → Result PoolOnMap Problem
on_newest inventory p = if_there inventory p (version (newest inventory) inventory)

-- ---- changes

-- what is made anew
pub data Product : Type 0 where
  NewVersion : Map → Product  -- one more version, with this map
  NewStates : List DeviceState → Product  -- these states of devices
  NewPool : PoolParts → Product  -- one more pool, with no pairs
  NewExceptions : ℕ → List Pair → Product  -- the pool with this id has these pairs, and no others
  RemovedPool : ℕ → Product  -- the pool with this id is removed, with its pairs

-- an accepted change: what it makes, and the receipt that it leaves under its request number
pub record Change : Type 0 where
  pub number : List ℕ
  pub receipt : Receipt
  pub made : Product

abbrev pub with_made : Product → Inventory → Inventory
with_made (NewVersion m) inventory = record inventory { versions = inventory.versions ++ m ∷ [] }
with_made (NewStates changed) inventory = record inventory { devices = with_states changed inventory.devices }
with_made (NewPool p) inventory = record inventory { pools = with_element (λ p. p.parts.id) (record { parts = p; pairs = [] }) inventory.pools }
with_made (NewExceptions id pairs) inventory = record inventory { pools = with_pairs id pairs inventory.pools }
with_made (RemovedPool id) inventory = record inventory { pools = without (λ p. p.parts.id) id inventory.pools }

-- the state of a tenant with this inventory and these receipts
abbrev pub with_receipts : Inventory → Receipts → TenantState
with_receipts inventory receipts =
    record { versions = inventory.versions; devices = inventory.devices; pools = inventory.pools; receipts = receipts }

-- the state after an accepted change
abbrev pub after : Change → TenantState → TenantState
after change state =
    with_receipts (with_made change.made (inventory_of state)) (with_receipt change.number change.receipt state.receipts)

-- what the tenant then has, where the change's request number is new
abbrev pub inventory_after : Change → Inventory → Inventory
inventory_after change inventory = record (with_made change.made inventory) { epoch = inventory.epoch + 1 }

-- ---- what a change needs of the state that it changes

-- for one more version: there is room, and its map has the rule of each pool
pub record CanTakeVersion (m : Map) (inventory : Inventory) : Type 0 where
  pub room : length inventory.versions < VERSION_LIMIT
  pub rules : has_rules_of inventory.pools m ≡ true

-- for one more pool: there is room, no pool has its id or its name, and the newest version has its
-- rule
pub record CanTakePool (p : PoolParts) (inventory : Inventory) : Type 0 where
  pub room : length inventory.pools < POOL_LIMIT
  pub new : list_any (is_like p) inventory.pools ≡ false
  pub rule : is_some (rule_of inventory p) ≡ true

-- for the pairs of a pool: the pool is there, and they are exceptions that it can have
abbrev pub can_have : List Pair → Option TenantPool → Bool
can_have pairs None = false
can_have pairs (Some p) = are_pairs p.parts.pg_num pairs

-- whether what is made suits what the tenant has: pairs suit the pool that they are for
abbrev pub suits : Product → Inventory → Bool
suits (NewVersion m) inventory = true
suits (NewStates changed) inventory = true
suits (NewPool p) inventory = true
suits (NewExceptions id pairs) inventory = can_have pairs (pool id inventory)
suits (RemovedPool id) inventory = true

-- what a tenant has can take what is made; a pool that is removed is there
abbrev pub CanTake : Product → Inventory → Type 0
CanTake (NewVersion m) inventory = CanTakeVersion m inventory
CanTake (NewStates changed) inventory = Unit {0}
CanTake (NewPool p) inventory = CanTakePool p inventory
CanTake (NewExceptions id pairs) inventory = suits (NewExceptions id pairs) inventory ≡ true
CanTake (RemovedPool id) inventory = is_some (pool id inventory) ≡ true

-- its request number is new, there is room for its receipt, and what the tenant has can take what
-- is made
pub record CanMake (change : Change) (state : TenantState) : Type 0 where
  pub new : receipt_of change.number state.receipts ≡ None
  pub room : length state.receipts < RECEIPT_LIMIT
  pub made : CanTake change.made (inventory_of state)
