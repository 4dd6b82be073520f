-- States of devices stay in their ranges.
use Rattle.std.proofs.Common.{◌≡◌, ℕ, ◌==◌, List, [], ◌∷◌, map, Bool, true, false, nat_le, nat_lt, if◌then◌else◌, Option, Some, None, unwrap_or, refl, arith}
use Rattle.std.proofs.lemmas.Bool.Decides.{nat_tests}
use Rattle.std.specs.List.{AllZip, list_all}
use Rattle.std.specs.Option.{option_map_or}
use Rattle.std.specs.Prelude.{codes}
use Rattle.serde_json.specs.Data.{Data}
use Rattle.crush_choose.specs.Weights.{reweight_of}
use Rattle.crush_choose.specs.declared.weights.TheConstants.{FULL}
use Rattle.crush_map.specs.declared.limits.TheConstants.{NUMBER_LIMIT}
use Rattle.crush_pool.specs.States.{reweights}
use Rattle.crush_pool.specs.declared.changes.DeviceChange.{DeviceChange}
use Rattle.crush_pool.specs.declared.states.DeviceState.{DeviceState}
use Rattle.crush_map.specs.crush_types.specs.DeviceValues.{first_given}
use Rattle.crush_map.specs.crush_types.specs.declared.limits.TheConstants.{ID_COUNT}
use Rattle.tenant_messages.specs.Forms.{IsNatural, IsOptional}
use Rattle.tenant_resources.specs.Devices.{IsChange, changed, is_in_range}
use Rattle.tenant_state.proofs.Staying.{both_true}
use Rattle.tenant_state.specs.Valid.{is_device_state}

-- ---- the changes of a body

reweight_in_range : (d : Data) (o : Option ℕ) → IsOptional (codes "reweight") (IsNatural FULL) d o → option_map_or (λ w. nat_le w FULL) o true ≡ true
reweight_in_range d None is = refl
reweight_in_range d (Some w) is = let most = is.says.1 in grind (arith, nat_tests, most)

change_in_range : (d : Data) (c : DeviceChange) → IsChange d c → is_in_range c ≡ true
change_in_range d c is =
    let most = is.device.says.1 in
    let device : nat_le c.device NUMBER_LIMIT ≡ true = grind (arith, nat_tests, most) in
    let reweight = reweight_in_range d c.reweight is.reweight in rw (device, reweight) refl

pub changes_in_range : (values : List Data) (cs : List DeviceChange) → AllZip IsChange values cs → list_all is_in_range cs ≡ true
changes_in_range [] [] is = refl
changes_in_range [] (c ∷ cs) is = absurd is
changes_in_range (d ∷ ds) [] is = absurd is
changes_in_range (d ∷ ds) (c ∷ cs) is = let one = change_in_range d c is.0 in let rest = changes_in_range ds cs is.1 in rw (one, rest) refl

-- ---- the states that they leave

full_itself : nat_le FULL FULL ≡ true
full_itself = grind (arith, nat_tests)

given_in_range : (states : List DeviceState) (id : ℕ) → list_all is_device_state states ≡ true → nat_le (first_given FULL (reweights states) id) FULL ≡ true
given_in_range [] id all = full_itself
given_in_range (s ∷ states) id all =
    let are = both_true (is_device_state s) (list_all is_device_state states) all in
    at (s.device == id) (both_true (nat_le s.device NUMBER_LIMIT) (nat_le s.reweight FULL) are.0).1 (given_in_range states id are.1)
  where
    at : (b : Bool) → nat_le s.reweight FULL ≡ true → nat_le (first_given FULL (reweights states) id) FULL ≡ true
        → nat_le (if b then s.reweight else first_given FULL (reweights states) id) FULL ≡ true
    at true one rest = one
    at false one rest = rest

stored_in_range : (states : List DeviceState) (id : ℕ) → list_all is_device_state states ≡ true → nat_le (reweight_of (reweights states) id) FULL ≡ true
stored_in_range states id all = at (nat_lt id ID_COUNT)
  where
    at : (b : Bool) → nat_le (if b then first_given FULL (reweights states) id else FULL) FULL ≡ true
    at true = given_in_range states id all
    at false = full_itself

said_in_range : (o : Option ℕ) (w : ℕ) → option_map_or (λ w. nat_le w FULL) o true ≡ true → nat_le w FULL ≡ true → nat_le (unwrap_or o w) FULL ≡ true
said_in_range None w said stored = stored
said_in_range (Some v) w said stored = said

pub changed_in_range : (states : List DeviceState) (c : DeviceChange) → list_all is_device_state states ≡ true → is_in_range c ≡ true → is_device_state (changed states c) ≡ true
changed_in_range states c all is =
    let are = both_true (nat_le c.device NUMBER_LIMIT) (option_map_or (λ w. nat_le w FULL) c.reweight true) is in
    let reweight = said_in_range c.reweight (reweight_of (reweights states) c.device) are.1 (stored_in_range states c.device all) in rw (are.0, reweight) refl

pub all_changed_in_range : (states : List DeviceState) (cs : List DeviceChange) → list_all is_device_state states ≡ true → list_all is_in_range cs ≡ true
    → list_all is_device_state (map (changed states) cs) ≡ true
all_changed_in_range states [] all are = refl
all_changed_in_range states (c ∷ cs) all are =
    let both = both_true (is_in_range c) (list_all is_in_range cs) are in
    let one = changed_in_range states c all both.0 in let rest = all_changed_in_range states cs all both.1 in rw (one, rest) refl
