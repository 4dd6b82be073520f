-- What each state of a tenant is: its limits, its orders, and the ranges of its parts.
use Rattle.std.specs.Prelude.{ℕ, ◌≡◌, ◌≤◌, ◌&&◌, List, [], ◌∷◌, length, Bool, true, not, nat_le}
use Rattle.std.specs.List.{All, list_all, list_any}
use Rattle.std.specs.Str.{bytes_eq, is_utf8}
use Rattle.crush_choose.specs.declared.weights.TheConstants.{FULL}
use Rattle.crush_map.specs.Map.{IsMap}
use Rattle.crush_map.specs.declared.limits.TheConstants.{NUMBER_LIMIT}
use Rattle.crush_pool.specs.Exceptions.{are_pairs}
use Rattle.crush_pool.specs.Pools.{is_pool}
use Rattle.crush_pool.specs.declared.limits.TheConstants.{GROUP_LIMIT}
use Rattle.crush_pool.specs.declared.states.DeviceState.{DeviceState}
use Rattle.tenant_messages.specs.Numbers.{has_length}
use Rattle.tenant_state.specs.Ordered.{is_ascending}
use Rattle.tenant_state.specs.Receipts.{is_before}
use Rattle.tenant_state.specs.State.{Change, Inventory, Product, NewExceptions, NewPool, NewStates, NewVersion, RemovedPool, TenantPool, TenantState, have_rules, inventory_of, is_lower_device, is_lower_pool}
use Rattle.tenant_state.specs.declared.limits.TheConstants.{POOL_LIMIT, RECEIPT_LIMIT, VERSION_LIMIT}
use Rattle.tenant_state.specs.declared.receipts.Receipt.{Receipt}

-- ---- parts

-- the id of a state is one that a device can have, and its reweight is at most 1.0
abbrev pub is_device_state : DeviceState → Bool
is_device_state s = nat_le s.device NUMBER_LIMIT && nat_le s.reweight FULL

-- the settings of a pool are in their ranges, and its pairs are exceptions that it can have
abbrev pub is_tenant_pool : TenantPool → Bool
is_tenant_pool p = is_pool p.parts && are_pairs p.parts.pg_num p.pairs

-- no two pools have one name
abbrev pub are_named_once : List TenantPool → Bool
are_named_once [] = true
are_named_once (p ∷ ps) = not (list_any (λ q. bytes_eq q.parts.name p.parts.name) ps) && are_named_once ps

-- a request number has its length, and it and what is stored under it are UTF-8
abbrev pub is_receipt : List ℕ × Receipt → Bool
is_receipt r = has_length r.0 && is_utf8 r.0 && is_utf8 r.1.path && is_utf8 r.1.body && is_utf8 r.1.reply

-- ---- what a tenant has

-- its maps are maps; the states of devices and the pools are in their ranges, and each list of them
-- is in strictly rising order of ids
pub record IsInventory (i : Inventory) : Type 0 where
  pub maps : All IsMap i.versions
  pub devices : list_all is_device_state i.devices ≡ true
  pub device_order : is_ascending is_lower_device i.devices ≡ true
  pub pools : list_all is_tenant_pool i.pools ≡ true
  pub pool_order : is_ascending is_lower_pool i.pools ≡ true

-- ---- states

-- also, its lists are within their limits, no two pools have one name, the newest version has the
-- rule of each pool, and its receipts are in strictly rising order of the bytes of their numbers
pub record IsState (s : TenantState) : Type 0 where
  pub has : IsInventory (inventory_of s)
  pub few_versions : length s.versions ≤ VERSION_LIMIT
  pub few_pools : length s.pools ≤ POOL_LIMIT
  pub names : are_named_once s.pools ≡ true
  pub rules : have_rules (inventory_of s) ≡ true
  pub few_receipts : length s.receipts ≤ RECEIPT_LIMIT
  pub receipts : list_all is_receipt s.receipts ≡ true
  pub receipt_order : is_ascending is_before s.receipts ≡ true

-- ---- changes

-- what is made is in its ranges
abbrev pub IsMade : Product → Type 0
IsMade (NewVersion m) = IsMap m
IsMade (NewStates changed) = list_all is_device_state changed ≡ true
IsMade (NewPool p) = is_pool p ≡ true
IsMade (NewExceptions id pairs) = are_pairs GROUP_LIMIT pairs ≡ true
IsMade (RemovedPool id) = Unit {0}

-- and so is the receipt
pub record IsChange (change : Change) : Type 0 where
  pub made : IsMade change.made
  pub receipt : is_receipt (change.number, change.receipt) ≡ true
