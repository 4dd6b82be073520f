-- A table of flags that says which devices changes are of.
use Rattle.std.specs.Prelude.{◌≡◌, ◌<◌, ℕ, Bool, false, List, length, slice_index_or}
use Rattle.std.specs.List.{list_any}
use Rattle.crush_pool.specs.Changes.{is_of_device}
use Rattle.crush_pool.specs.declared.changes.DeviceChange.{DeviceChange}

-- the flags of the devices that the table reaches are true where one of the changes is of them
abbrev pub HasDevices : List Bool → List DeviceChange → Type 0
HasDevices seen changes = (id : ℕ) → id < length seen → slice_index_or seen id false ≡ list_any (is_of_device id) changes
