-- A change that a state can make leaves a state.
use Rattle.std.proofs.Common.{◌≡◌, ℕ, suc, ◌+◌, ◌≤◌, ◌-◌, ◌==◌, List, [], ◌∷◌, ◌++◌, length, true, false, Some, is_some, slice_get, refl, subst, ap, arith}
use Rattle.std.proofs.lemmas.Bool.Decides.{nat_tests}
use Rattle.std.proofs.lemmas.List.Elements.{All-nil, All-push}
use Rattle.std.specs.List.{list_all}
use Rattle.crush_map.specs.Map.{Map, IsMap}
use Rattle.crush_pool.specs.Pools.{is_pool}
use Rattle.crush_pool.specs.declared.pool.PoolParts.{PoolParts}
use Rattle.crush_pool.specs.declared.states.DeviceState.{DeviceState}
use Rattle.tenant_state.proofs.Counting.{grown}
use Rattle.tenant_state.proofs.Naming.{named_with, named_without}
use Rattle.tenant_state.proofs.Pairing.{all_paired, as_many_paired, ascending_paired, in_range_paired, named_paired}
use Rattle.tenant_state.proofs.Receiving.{all_received, ascending_received}
use Rattle.tenant_state.proofs.Staying.{all_with, all_without, ascending_with, ascending_without, both_true, fewer_without, more_with}
use Rattle.tenant_state.specs.Ordered.{is_ascending}
use Rattle.tenant_state.specs.Receipts.{Receipts, with_receipt}
use Rattle.tenant_state.specs.State.{CanMake, CanTake, Change, Inventory, Product, NewExceptions, NewPool, NewStates, NewVersion, RemovedPool, TenantPool, TenantState, after, fresh, have_rules, inventory_after, inventory_of, is_lower_device, newest, rule_of, suits, version, with_made, with_receipts, with_states, with_state}
use Rattle.tenant_state.specs.Valid.{IsChange, IsInventory, IsMade, IsState, are_named_once, is_device_state, is_receipt, is_tenant_pool}
use Rattle.tenant_state.specs.declared.limits.TheConstants.{POOL_LIMIT, VERSION_LIMIT}

-- ---- the newest version

longer : (vs : List Map) (m : Map) → length (vs ++ m ∷ []) ≡ suc (length vs)
longer [] m = refl
longer (v ∷ vs) m = ap suc (longer vs m)

at_end : (vs : List Map) (m : Map) → slice_get (vs ++ m ∷ []) (length vs) ≡ Some m
at_end [] m = refl
at_end (v ∷ vs) m = at_end vs m

not_zero : (n : ℕ) → (suc n == 0) ≡ false
not_zero n = grind (arith, nat_tests)

one_less : (n : ℕ) → suc n - 1 ≡ n
one_less n = omega arith

newest_is : (vs : List Map) (m : Map) (s : Inventory) → s.versions ≡ vs ++ m ∷ [] → version (newest s) s ≡ Some m
newest_is vs m s is = rw (is, longer vs m, not_zero (length vs), one_less (length vs)) (at_end vs m)

-- ---- ranges and orders, whatever is made

states_in_range : (changed states : List DeviceState) → list_all is_device_state changed ≡ true → list_all is_device_state states ≡ true
    → list_all is_device_state (with_states changed states) ≡ true
states_in_range [] states new old = old
states_in_range (c ∷ cs) states new old =
    let are = both_true (is_device_state c) (list_all is_device_state cs) new in
    states_in_range cs (with_state states c) are.1 (all_with is_device_state (λ s. s.device) c states are.0 old)

states_in_order : (changed states : List DeviceState) → is_ascending is_lower_device states ≡ true → is_ascending is_lower_device (with_states changed states) ≡ true
states_in_order [] states h = h
states_in_order (c ∷ cs) states h = states_in_order cs (with_state states c) (ascending_with (λ s. s.device) c states h)

pub taken_suits : (m : Product) (i : Inventory) → CanTake m i → suits m i ≡ true
taken_suits (NewVersion m) i can = refl
taken_suits (NewStates changed) i can = refl
taken_suits (NewPool p) i can = refl
taken_suits (NewExceptions id pairs) i can = can
taken_suits (RemovedPool id) i can = refl

-- a pool with no pairs
new_in_range : (p : PoolParts) → is_pool p ≡ true → is_tenant_pool (record { parts = p; pairs = [] }) ≡ true
new_in_range p is = rw is refl

pub inventory_stays : (m : Product) (i : Inventory) → IsMade m → suits m i ≡ true → IsInventory i → IsInventory (with_made m i)
inventory_stays (NewVersion m) i made fits is =
    record { maps = All-push IsMap i.versions m is.maps made; devices = is.devices; device_order = is.device_order; pools = is.pools; pool_order = is.pool_order }
inventory_stays (NewStates changed) i made fits is = record {
  maps = is.maps;
  devices = states_in_range changed i.devices made is.devices;
  device_order = states_in_order changed i.devices is.device_order;
  pools = is.pools;
  pool_order = is.pool_order;
}
inventory_stays (NewPool p) i made fits is = record {
  maps = is.maps;
  devices = is.devices;
  device_order = is.device_order;
  pools = all_with is_tenant_pool (λ q. q.parts.id) (record { parts = p; pairs = [] }) i.pools (new_in_range p made) is.pools;
  pool_order = ascending_with (λ q. q.parts.id) (record { parts = p; pairs = [] }) i.pools is.pool_order;
}
inventory_stays (NewExceptions id pairs) i made fits is = record {
  maps = is.maps;
  devices = is.devices;
  device_order = is.device_order;
  pools = in_range_paired id pairs i.pools is.pools fits;
  pool_order = rw (ascending_paired id pairs i.pools) is.pool_order;
}
inventory_stays (RemovedPool id) i made fits is = record {
  maps = is.maps;
  devices = is.devices;
  device_order = is.device_order;
  pools = all_without is_tenant_pool (λ q. q.parts.id) id i.pools is.pools;
  pool_order = ascending_without (λ q. q.parts.id) id i.pools is.pool_order;
}

-- the same of its parts
pub parts_stay : (m : Product) (i : Inventory) (versions : List Map) (devices : List DeviceState) (pools : List TenantPool) (epoch : ℕ) → versions ≡ (with_made m i).versions
    → devices ≡ (with_made m i).devices → pools ≡ (with_made m i).pools → IsMade m → suits m i ≡ true → IsInventory i
    → IsInventory (record { versions = versions; devices = devices; pools = pools; epoch = epoch })
parts_stay m i versions devices pools epoch v d p made fits is =
    rw (v, d, p) (let left = inventory_stays m i made fits is in
    record { maps = left.maps; devices = left.devices; device_order = left.device_order; pools = left.pools; pool_order = left.pool_order })

pub inventory_after_stays : (c : Change) (i : Inventory) → IsMade c.made → suits c.made i ≡ true → IsInventory i → IsInventory (inventory_after c i)
inventory_after_stays c i made fits is = let left = inventory_stays c.made i made fits is in
    record { maps = left.maps; devices = left.devices; device_order = left.device_order; pools = left.pools; pool_order = left.pool_order }

has_same : (i : Inventory) (receipts : Receipts) → IsInventory i → IsInventory (inventory_of (with_receipts i receipts))
has_same i receipts is = record { maps = is.maps; devices = is.devices; device_order = is.device_order; pools = is.pools; pool_order = is.pool_order }

-- ---- limits, names and rules, where it can be taken

versions_stay : (m : Product) (i : Inventory) → CanTake m i → length i.versions ≤ VERSION_LIMIT → length (with_made m i).versions ≤ VERSION_LIMIT
versions_stay (NewVersion m) i can few = let more = longer i.versions m in let room = can.room in omega (arith, more, room)
versions_stay (NewStates changed) i can few = few
versions_stay (NewPool p) i can few = few
versions_stay (NewExceptions id pairs) i can few = few
versions_stay (RemovedPool id) i can few = few

pools_stay : (m : Product) (i : Inventory) → CanTake m i → length i.pools ≤ POOL_LIMIT → length (with_made m i).pools ≤ POOL_LIMIT
pools_stay (NewVersion m) i can few = few
pools_stay (NewStates changed) i can few = few
pools_stay (NewPool p) i can few = let more = more_with (λ (q : TenantPool). q.parts.id) (record { parts = p; pairs = [] }) i.pools in let room = can.room in omega (arith, more, room)
pools_stay (NewExceptions id pairs) i can few = rw (as_many_paired id pairs i.pools) few
pools_stay (RemovedPool id) i can few = let less = fewer_without (λ (q : TenantPool). q.parts.id) id i.pools in omega (arith, less, few)

names_stay : (m : Product) (i : Inventory) → CanTake m i → are_named_once i.pools ≡ true → are_named_once (with_made m i).pools ≡ true
names_stay (NewVersion m) i can once = once
names_stay (NewStates changed) i can once = once
names_stay (NewPool p) i can once = named_with (record { parts = p; pairs = [] }) i.pools can.new once
names_stay (NewExceptions id pairs) i can once = rw (named_paired id pairs i.pools) once
names_stay (RemovedPool id) i can once = named_without id i.pools once

pub rules_stay : (m : Product) (i : Inventory) → CanTake m i → have_rules i ≡ true → have_rules (with_made m i) ≡ true
rules_stay (NewVersion m) i can had = let new = newest_is i.versions m (with_made (NewVersion m) i) refl in rw new can.rules
rules_stay (NewStates changed) i can had = had
rules_stay (NewPool p) i can had = all_with (λ q. is_some (rule_of i q.parts)) (λ q. q.parts.id) (record { parts = p; pairs = [] }) i.pools can.rule had
rules_stay (NewExceptions id pairs) i can had = rw (all_paired (λ q. is_some (rule_of i q.parts)) id pairs i.pools (λ q. refl)) had
rules_stay (RemovedPool id) i can had = all_without (λ q. is_some (rule_of i q.parts)) (λ q. q.parts.id) id i.pools had

-- ---- states

pub fresh_is_state : IsState fresh
fresh_is_state = record {
  has = record { maps = All-nil IsMap; devices = refl; device_order = refl; pools = refl; pool_order = refl };
  few_versions = omega arith;
  few_pools = omega arith;
  names = refl;
  rules = refl;
  few_receipts = omega arith;
  receipts = refl;
  receipt_order = refl;
}

pub state_stays : (c : Change) (s : TenantState) → IsChange c → CanMake c s → IsState s → IsState (after c s)
state_stays c s change can is =
    let i = inventory_of s in
    let more = grown c.number c.receipt s.receipts can.new in
    let room = can.room in record {
      has = has_same (with_made c.made i) (after c s).receipts (inventory_stays c.made i change.made (taken_suits c.made i can.made) is.has);
      few_versions = versions_stay c.made i can.made is.few_versions;
      few_pools = pools_stay c.made i can.made is.few_pools;
      names = names_stay c.made i can.made is.names;
      rules = rules_stay c.made i can.made is.rules;
      few_receipts = omega (arith, more, room);
      receipts = all_received is_receipt c.number c.receipt s.receipts change.receipt is.receipts;
      receipt_order = ascending_received c.number c.receipt s.receipts is.receipt_order;
    }

-- ---- a state by its parts

-- the epoch is no part of a state
same_made : (m : Product) (i : Inventory) (n k : ℕ) (receipts : Receipts) → with_receipts (record (with_made m i) { epoch = n }) receipts ≡ with_receipts (with_made m (record i { epoch = k })) receipts
same_made (NewVersion m) i n k receipts = refl
same_made (NewStates changed) i n k receipts = refl
same_made (NewPool p) i n k receipts = refl
same_made (NewExceptions id pairs) i n k receipts = refl
same_made (RemovedPool id) i n k receipts = refl

pub left_is : (c : Change) (s : TenantState) (i next : Inventory) (old new : Receipts) → with_receipts i old ≡ s → next ≡ inventory_after c i → new ≡ with_receipt c.number c.receipt old
    → with_receipts next new ≡ after c s
left_is c s i next old new is made added =
    subst (λ s. with_receipts next new ≡ after c s) is (rw (made, added) (same_made c.made i (i.epoch + 1) (length old) (with_receipt c.number c.receipt old)))
