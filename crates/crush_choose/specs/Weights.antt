-- Reweights of devices, and the device test (`is_out` of Ceph's `mapper.c`, which answers the
-- opposite).
use Rattle.std.specs.Prelude.{ℕ, ℤ, pos, negsuc, ◌%◌, ◌&&◌, ◌||◌, nat_lt, nat_le, Bool, false, List, slice_index_or}
use Rattle.crush_hash.specs.Hash.{hash2}
use Rattle.crush_map.specs.crush_types.specs.DeviceValues.{value_of, values_of}
use Rattle.crush_map.specs.crush_types.specs.declared.ItemId.{ItemId}
use Rattle.crush_choose.specs.declared.weights.TheConstants.{FULL}

-- the reweight of an id: the first for it in pairs of id and reweight, or 1.0 if there is none; an
-- id that no device can have has 1.0
abbrev pub reweight_of : List (ℕ × ℕ) → ℕ → ℕ
reweight_of given id = value_of FULL given id

-- the reweights of all ids that a device can have, in order
unfoldable pub weights_of : List (ℕ × ℕ) → List ℕ
weights_of given = (values_of FULL given).values

-- the reweight of an id
abbrev pub weight_at : List ℕ → ℕ → ℕ
weight_at weights id = slice_index_or weights id FULL

-- whether a device is in for an input x: always with 1.0 or more, never with 0, and else if its
-- draw, the lower 16 bits of a hash, is below its reweight
unfoldable pub is_in : List ℕ → ℕ → ℕ → Bool
is_in weights x device =
    let weight = weight_at weights device in
    nat_le FULL weight || (nat_lt 0 weight && nat_lt (hash2 x device % 65536) weight)

abbrev pub id_is_in : List ℕ → ℕ → ℤ → Bool
id_is_in weights x (pos device) = is_in weights x device
id_is_in weights x (negsuc n) = false

-- whether an item is a device that is in
abbrev pub is_device_in : List ℕ → ℕ → ItemId → Bool
is_device_in weights x item = id_is_in weights x item.0
