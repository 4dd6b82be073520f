-- What an accepted order makes: what the tenant has can take it, and it is in its ranges where the
-- order is.
use Rattle.std.proofs.Common.{◌≡◌, ◌↔◌, ◌∙◌, ℕ, ◌<◌, List, length, map, Bool, true, false, nat_le, if◌then◌else◌, Option, Some, None, is_some, option_and_then, Result, Ok, Err, IfOk, refl, ap, subst, arith}
use Rattle.std.proofs.lemmas.Bool.Decides.{nat_tests}
use Rattle.std.specs.List.{list_all, list_any}
use Rattle.crush_grammar.specs.declared.code.TextFault.{TextFault}
use Rattle.crush_map.specs.Map.{Map, IsMap}
use Rattle.crush_map.specs.declared.draft.Rule.{Rule}
use Rattle.crush_pool.specs.Exceptions.{are_pairs}
use Rattle.crush_pool.specs.Placements.{rule_numbered}
use Rattle.crush_pool.specs.declared.changes.DeviceChange.{DeviceChange}
use Rattle.crush_pool.specs.declared.exceptions.Pair.{Pair}
use Rattle.crush_pool.specs.declared.limits.TheConstants.{GROUP_LIMIT}
use Rattle.crush_pool.specs.declared.pool.PoolParts.{PoolParts}
use Rattle.crush_text.specs.MapText.{IsShort, IsTextOf}
use Rattle.crush_text.specs.Reading.{map_of_text}
use Rattle.tenant_core.specs.Commands.{IsOrder, order_on}
use Rattle.tenant_core.specs.declared.commands.Order.{Order}
use Rattle.tenant_core.specs.declared.commands.Order.TheVariants.{ImportMap, ChangeDevices, CreatePool, SetExceptions, RemovePool}
use Rattle.tenant_messages.specs.Refusals.{Gives}
use Rattle.tenant_messages.specs.declared.reply.Problem.TheVariants.{TenantLimit, RuleInUse, NoDevice, NoGroup, Exists}
use Rattle.tenant_messages.specs.declared.reply.Refusal.{Refusal}
use Rattle.tenant_messages.specs.declared.reply.SuccessStatus.TheVariants.{Created, Done}
use Rattle.tenant_resources.proofs.DeviceRanges.{all_changed_in_range}
use Rattle.tenant_resources.specs.Devices as devices
use Rattle.tenant_resources.specs.Exceptions as exceptions
use Rattle.tenant_resources.specs.Maps as maps
use Rattle.tenant_resources.specs.Orders.{Acceptance, accepted_of}
use Rattle.tenant_resources.specs.Pools as pools
use Rattle.tenant_resources.specs.declared.accepted.Acceptance as accepted
use Rattle.tenant_state.specs.Made.{made_of}
use Rattle.tenant_state.specs.State.{CanTake, Inventory, Product, NewExceptions, NewPool, NewStates, NewVersion, RemovedPool, TenantPool, can_have, has_rules_of, is_like, newest, pool, rule_of, version}
use Rattle.tenant_state.specs.Valid.{IsInventory, IsMade}
use Rattle.tenant_state.specs.declared.limits.TheConstants.{POOL_LIMIT, VERSION_LIMIT}

-- a map that is read from a text is a map (`IsMap`)
abbrev pub ReadsMaps : Type 0
ReadsMaps = (text : List ℕ) (m : Map) → map_of_text text ≡ Ok m → IsMap m

-- by the law of reading
pub reads_maps : ((text : List ℕ) (m : Map) → (map_of_text text ≡ Ok m) ↔ (IsShort text × IsTextOf text m)) → ReadsMaps
reads_maps law text m h = ((law text m).0 h).1.map

-- what is made can be taken, and where `valid` holds it is in its ranges
record Makes (valid : Type 0) (made : Product) (s : Inventory) : Type 0 where
  pub can : CanTake made s
  pub ranged : valid → IsMade made

room : (limit n : ℕ) → nat_le limit n ≡ false → n < limit
room limit n h = grind (arith, nat_tests, h)

-- ---- an import

import_read : (valid : Type 0) (s : Inventory) (m : Map) (a : Acceptance) (fit : Bool) → has_rules_of s.pools m ≡ fit → length s.versions < VERSION_LIMIT → (valid → IsMap m)
    → (if fit then Ok (record { made = NewVersion m; status = Created; body = maps.import_reply s }) else Err RuleInUse) ≡ Ok a
    → Makes valid a.made s
import_read valid s m a false fits some is h = cc
import_read valid s m a true fits some is h =
    let made : NewVersion m ≡ a.made = cc in
    subst (λ x. Makes valid x s) made (record { can = record { room = some; rules = fits }; ranged = is })

import_text : (valid : Type 0) (s : Inventory) (a : Acceptance) (r : Result Map TextFault) → length s.versions < VERSION_LIMIT → ((m : Map) → r ≡ Ok m → valid → IsMap m)
    → maps.on_text s r ≡ Ok a → Makes valid a.made s
import_text valid s a (Err fault) some is h = cc
import_text valid s a (Ok m) some is h = import_read valid s m a (has_rules_of s.pools m) refl some (is m refl) h

import_at : (text : List ℕ) (s : Inventory) (a : Acceptance) (full : Bool) → nat_le VERSION_LIMIT (length s.versions) ≡ full
    → (if full then Err TenantLimit else maps.on_text s (map_of_text text)) ≡ Ok a → Makes ReadsMaps a.made s
import_at text s a true is h = cc
import_at text s a false is h = import_text ReadsMaps s a (map_of_text text) (room VERSION_LIMIT (length s.versions) is) (λ m read reads. reads text m read) h

-- ---- changes of devices

abbrev ChangesAreInRange : List DeviceChange → Inventory → Type 0
ChangesAreInRange cs s = (list_all devices.is_in_range cs ≡ true) × IsInventory s

devices_at : (cs : List DeviceChange) (s : Inventory) (a : Acceptance) (known : Bool)
    → (if known then Ok (record { made = NewStates (map (devices.changed s.devices) cs); status = Done; body = devices.devices_reply (length cs) s }) else Err NoDevice) ≡ Ok a
    → Makes (ChangesAreInRange cs s) a.made s
devices_at cs s a false h = cc
devices_at cs s a true h =
    let made : NewStates (map (devices.changed s.devices) cs) ≡ a.made = cc in
    subst (λ x. Makes (ChangesAreInRange cs s) x s) made (record { can = tt; ranged = λ valid. all_changed_in_range s.devices cs valid.1.devices valid.0 })

devices_on : (cs : List DeviceChange) (s : Inventory) (a : Acceptance) (o : Option Map) → devices.on_version cs s o ≡ Ok a → Makes (ChangesAreInRange cs s) a.made s
devices_on cs s a None h = cc
devices_on cs s a (Some m) h = devices_at cs s a (list_all (λ c. devices.has_device m c.device) cs) h

-- ---- a pool

pool_made : (valid : Type 0) (p : PoolParts) (s : Inventory) (a : Acceptance) (full : Bool) → nat_le POOL_LIMIT (length s.pools) ≡ full → is_some (rule_of s p) ≡ true
    → list_any (is_like p) s.pools ≡ false → (valid → IsMade (NewPool p))
    → (if full then Err TenantLimit else Ok (record { made = NewPool p; status = Created; body = pools.creation_reply p.id s })) ≡ Ok a
    → Makes valid a.made s
pool_made valid p s a true is ruled new ranged h = cc
pool_made valid p s a false is ruled new ranged h =
    let made : NewPool p ≡ a.made = cc in
    subst (λ x. Makes valid x s) made (record { can = record { room = room POOL_LIMIT (length s.pools) is; new = new; rule = ruled }; ranged = ranged })

pool_taken : (valid : Type 0) (p : PoolParts) (s : Inventory) (a : Acceptance) (taken : Bool) → list_any (is_like p) s.pools ≡ taken → is_some (rule_of s p) ≡ true → (valid → IsMade (NewPool p))
    → (if taken then Err Exists else (if nat_le POOL_LIMIT (length s.pools) then Err TenantLimit
    else Ok (record { made = NewPool p; status = Created; body = pools.creation_reply p.id s }))) ≡ Ok a → Makes valid a.made s
pool_taken valid p s a true is ruled ranged h = cc
pool_taken valid p s a false is ruled ranged h = pool_made valid p s a (nat_le POOL_LIMIT (length s.pools)) refl ruled is ranged h

pool_rule : (valid : Type 0) (p : PoolParts) (s : Inventory) (a : Acceptance) (o : Option Rule) → rule_of s p ≡ o → (valid → IsMade (NewPool p)) → pools.on_rule p s o ≡ Ok a → Makes valid a.made s
pool_rule valid p s a None is ranged h = cc
pool_rule valid p s a (Some r) is ranged h = pool_taken valid p s a (list_any (is_like p) s.pools) refl (ap is_some is) ranged h

pool_on : (valid : Type 0) (p : PoolParts) (s : Inventory) (a : Acceptance) (o : Option Map) → version (newest s) s ≡ o → (valid → IsMade (NewPool p)) → pools.on_version p s o ≡ Ok a → Makes valid a.made s
pool_on valid p s a None is ranged h = cc
pool_on valid p s a (Some m) is ranged h = pool_rule valid p s a (rule_numbered m p.rule) (ap (λ v. option_and_then (λ m. rule_numbered m p.rule) v) is) ranged h

removal_on : (valid : Type 0) (id : ℕ) (s : Inventory) (a : Acceptance) (o : Option TenantPool) → pool id s ≡ o → pools.on_pool id s o ≡ Ok a → Makes valid a.made s
removal_on valid id s a None is h = cc
removal_on valid id s a (Some p) is h =
    let made : RemovedPool id ≡ a.made = cc in subst (λ x. Makes valid x s) made (record { can = ap is_some is; ranged = λ _. tt })

-- ---- exceptions

exceptions_at : (id : ℕ) (pairs : List Pair) (s : Inventory) (a : Acceptance) (known : Bool) → can_have pairs (pool id s) ≡ true
    → (if known then Ok (record { made = NewExceptions id pairs; status = Done; body = exceptions.setting id pairs s }) else Err NoDevice) ≡ Ok a
    → Makes (are_pairs GROUP_LIMIT pairs ≡ true) a.made s
exceptions_at id pairs s a false can h = cc
exceptions_at id pairs s a true can h =
    let made : NewExceptions id pairs ≡ a.made = cc in
    subst (λ x. Makes (are_pairs GROUP_LIMIT pairs ≡ true) x s) made (record { can = can; ranged = λ valid. valid })

exceptions_on : (id : ℕ) (pairs : List Pair) (s : Inventory) (a : Acceptance) (o : Option Map) → can_have pairs (pool id s) ≡ true
    → exceptions.on_version id pairs s o ≡ Ok a → Makes (are_pairs GROUP_LIMIT pairs ≡ true) a.made s
exceptions_on id pairs s a None can h = cc
exceptions_on id pairs s a (Some m) can h = exceptions_at id pairs s a (exceptions.has_devices m pairs) can h

exceptions_fit : (id : ℕ) (pairs : List Pair) (s : Inventory) (a : Acceptance) (p : TenantPool) (fit : Bool) → pool id s ≡ Some p → are_pairs p.parts.pg_num pairs ≡ fit
    → (if fit then exceptions.on_version id pairs s (version (newest s) s) else Err NoGroup) ≡ Ok a → Makes (are_pairs GROUP_LIMIT pairs ≡ true) a.made s
exceptions_fit id pairs s a p false is fits h = cc
exceptions_fit id pairs s a p true is fits h = exceptions_on id pairs s a (version (newest s) s) (ap (can_have pairs) is ∙ fits) h

exceptions_of : (id : ℕ) (pairs : List Pair) (s : Inventory) (a : Acceptance) (o : Option TenantPool) → pool id s ≡ o → exceptions.on_pool id pairs s o ≡ Ok a
    → Makes (are_pairs GROUP_LIMIT pairs ≡ true) a.made s
exceptions_of id pairs s a None is h = cc
exceptions_of id pairs s a (Some p) is h = exceptions_fit id pairs s a p (are_pairs p.parts.pg_num pairs) is refl h

-- ---- all orders

pub can_take : (o : Order) (s : Inventory) (a : Acceptance) → order_on o s ≡ Ok a → CanTake a.made s
can_take (ImportMap text) s a h = (import_at text s a (nat_le VERSION_LIMIT (length s.versions)) refl h).can
can_take (ChangeDevices cs) s a h = (devices_on cs s a (version (newest s) s) h).can
can_take (CreatePool p) s a h = (pool_on ⊥ p s a (version (newest s) s) refl absurd h).can
can_take (SetExceptions id pairs) s a h = (exceptions_of id pairs s a (pool id s) refl h).can
can_take (RemovePool id) s a h = (removal_on ⊥ id s a (pool id s) refl h).can

pub in_range : (o : Order) (s : Inventory) (a : Acceptance) → order_on o s ≡ Ok a → ReadsMaps → IsOrder o → IsInventory s → IsMade a.made
in_range (ImportMap text) s a h reads is has = (import_at text s a (nat_le VERSION_LIMIT (length s.versions)) refl h).ranged reads
in_range (ChangeDevices cs) s a h reads is has = (devices_on cs s a (version (newest s) s) h).ranged (is, has)
in_range (CreatePool p) s a h reads is has = (pool_on (IsMade (NewPool p)) p s a (version (newest s) s) refl (λ valid. valid) h).ranged is
in_range (SetExceptions id pairs) s a h reads is has = (exceptions_of id pairs s a (pool id s) refl h).ranged is
in_range (RemovePool id) s a h reads is has = (removal_on (Unit {0}) id s a (pool id s) refl h).ranged tt

-- what the code makes of an order
pub made_in_range : (o : Order) (s : Inventory) (result : Result accepted.Acceptance Refusal) → Gives accepted_of result (order_on o s) → ReadsMaps → IsOrder o → IsInventory s
    → IfOk result (λ a. IsMade (made_of a.made))
made_in_range o s (Ok a) given reads is has = in_range o s (accepted_of a) given reads is has
made_in_range o s (Err e) given reads is has = tt
