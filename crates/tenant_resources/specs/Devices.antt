-- States of devices, at `/t/{t}/devices`: POST changes reweights, and which devices are up.
use Rattle.std.specs.Prelude.{◌≡◌, ◌≢◌, ℕ, suc, ◌+◌, ◌≤◌, ◌&&◌, ◌||◌, ◌==◌, nat_le, List, [], ◌∷◌, ◌++◌, length, map, Bool, true, if◌then◌else◌, Option, Some, None, is_some, option_and_then, unwrap_or, Result, Ok, Err, codes}
use Rattle.std.specs.List.{AllPairs, list_any, list_all}
use Rattle.std.specs.Option.{option_map_or}
use Rattle.serde_json.specs.Data.{Data, object}
use Rattle.serde_json.specs.Find.{as_bool}
use Rattle.crush_choose.specs.Weights.{reweight_of}
use Rattle.crush_choose.specs.declared.weights.TheConstants.{FULL}
use Rattle.crush_map.specs.Map.{Map}
use Rattle.crush_map.specs.declared.limits.TheConstants.{NUMBER_LIMIT}
use Rattle.crush_pool.specs.declared.limits.TheConstants.{CHANGE_LIMIT}
use Rattle.crush_pool.specs.Changes.{are_valid_changes}
use Rattle.crush_pool.specs.States.{is_up, reweights}
use Rattle.crush_pool.specs.declared.changes.DeviceChange.{DeviceChange}
use Rattle.crush_pool.specs.declared.states.DeviceState.{DeviceState}
use Rattle.tenant_messages.specs.Forms.{IsNatural, IsBoolean, IsListOf, IsOptional, if_any, HasExactly, IsUnder}
use Rattle.tenant_messages.specs.Json.{value_of, natural_of, both, list_of, has_keys, under, optional, present}
use Rattle.tenant_messages.specs.Numbers.{IsRequestNumber, request_number_of}
use Rattle.tenant_messages.specs.Reply.{members_of, natural}
use Rattle.tenant_messages.specs.declared.reply.Problem.{Problem}
use Rattle.tenant_messages.specs.declared.reply.Problem.TheVariants.{NoVersion, NoDevice}
use Rattle.tenant_messages.specs.declared.reply.SuccessStatus.TheVariants.{Done}
use Rattle.tenant_resources.specs.Orders.{Acceptance}
use Rattle.tenant_state.specs.State.{Inventory, NewStates, newest, version}

-- ---- the form of a body, and the changes that it says

-- {"id": 0..NUMBER_LIMIT}, with "reweight": 0..FULL, or "up": true or false, or both; a part whose
-- key is missing is unchanged
pub record IsChange (d : Data) (c : DeviceChange) : Type 0 where
  pub keys : HasExactly (if_any (codes "reweight") c.reweight ++ if_any (codes "up") c.up ++ codes "id" ∷ []) d
  pub device : IsUnder (codes "id") (IsNatural NUMBER_LIMIT) d c.device
  pub reweight : IsOptional (codes "reweight") (IsNatural FULL) d c.reweight
  pub up : IsOptional (codes "up") IsBoolean d c.up
  pub some : (is_some c.reweight || is_some c.up) ≡ true

-- {"devices": [CHANGE, ..], "request": REQUEST}: 1 to CHANGE_LIMIT changes, each of another device
pub record IsDevicesBody (d : Data) (asked : List ℕ × List DeviceChange) : Type 0 where
  pub keys : HasExactly (codes "devices" ∷ codes "request" ∷ []) d
  pub devices : IsUnder (codes "devices") (IsListOf IsChange) d asked.1
  pub request : IsUnder (codes "request") IsRequestNumber d asked.0
  pub some : 1 ≤ length asked.1
  pub few : length asked.1 ≤ CHANGE_LIMIT
  pub distinct : AllPairs (λ c e. c.device ≢ e.device) asked.1

-- ---- reading a body

-- changes are read exactly where the body has that form (law `device_changes_are_of_the_form`)

abbrev pub change_with : ℕ → Option ℕ × Option Bool → DeviceChange
change_with device asked = record { device = device; reweight = asked.0; up = asked.1 }

abbrev pub if_any_change : DeviceChange → Option DeviceChange
if_any_change c = if is_some c.reweight || is_some c.up then Some c else None

abbrev pub change_of : Data → Option DeviceChange
change_of d =
    if has_keys (present (codes "reweight") d + (present (codes "up") d + 1)) d then
    option_and_then if_any_change (both change_with (under (codes "id") (natural_of NUMBER_LIMIT) d)
    (both (λ reweight up. (reweight, up)) (optional (codes "reweight") (natural_of FULL) d) (optional (codes "up") as_bool d))) else None

abbrev pub if_valid : List ℕ × List DeviceChange → Option (List ℕ × List DeviceChange)
if_valid asked = if are_valid_changes asked.1 then Some asked else None

-- the request number, and the changes
abbrev pub changes_of : Data → Option (List ℕ × List DeviceChange)
changes_of d =
    if has_keys 2 d then
    option_and_then if_valid (both (λ number changes. (number, changes)) (under (codes "request") request_number_of d) (under (codes "devices") (list_of change_of) d))
    else None

abbrev pub devices_request_of : List ℕ → Option (List ℕ × List DeviceChange)
devices_request_of body = option_and_then changes_of (value_of body)

-- ---- changing the states of devices

-- a change is of an id that a device can have, and its reweight, if it has one, is at most 1.0
abbrev pub is_in_range : DeviceChange → Bool
is_in_range c = nat_le c.device NUMBER_LIMIT && option_map_or (λ w. nat_le w FULL) c.reweight true

-- the state of a device after a change: a part that the change doesn't say is unchanged
abbrev pub changed : List DeviceState → DeviceChange → DeviceState
changed states c =
    record { device = c.device; reweight = unwrap_or c.reweight (reweight_of (reweights states) c.device); up = unwrap_or c.up (is_up states c.device) }

-- whether a map has the device with an id
abbrev pub has_device : Map → ℕ → Bool
has_device m id = list_any (λ d. d.id == id) m.devices

-- {"devices": the number of changes, "epoch": E}
abbrev pub devices_reply : ℕ → Inventory → Data
devices_reply count inventory = object (members_of ((codes "devices", natural count) ∷ (codes "epoch", natural (suc inventory.epoch)) ∷ []))

-- each device has to be one of the newest version
abbrev pub on_version : List DeviceChange → Inventory → Option Map → Result Acceptance Problem
on_version cs inventory None = Err NoVersion
on_version cs inventory (Some m) =
    if list_all (λ c. has_device m c.device) cs then
    Ok (record { made = NewStates (map (changed inventory.devices) cs); status = Done; body = devices_reply (length cs) inventory })
    else Err NoDevice

abbrev pub devices_changed : List DeviceChange → Inventory → Result Acceptance Problem
devices_changed cs inventory = on_version cs inventory (version (newest inventory) inventory)
