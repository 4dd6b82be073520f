-- The states of devices: a reweight, and up or down.
use Rattle.std.specs.Prelude.{ℕ, Bool, true, List, map, slice_index_or}
use Rattle.crush_map.specs.crush_types.specs.DeviceValues.{value_of, values_of}
use Rattle.crush_pool.specs.declared.states.DeviceState.{DeviceState}

-- the pairs of device and whether it is up
abbrev pub ups : List DeviceState → List (ℕ × Bool)
ups states = map (λ s. (s.device, s.up)) states

-- whether a device is up, by the first state for it; a device without a state is up, and so is an
-- id that no device can have
abbrev pub is_up : List DeviceState → ℕ → Bool
is_up states id = value_of true (ups states) id

-- for all ids that a device can have, in order, whether it is up
unfoldable pub flags_of : List DeviceState → List Bool
flags_of states = (values_of true (ups states)).values

abbrev pub up_at : List Bool → ℕ → Bool
up_at flags id = slice_index_or flags id true

-- the pairs of device and reweight
abbrev pub reweights : List DeviceState → List (ℕ × ℕ)
reweights states = map (λ s. (s.device, s.reweight)) states
