-- How much of a pool lies on each device: counts over the up lists of its groups.
use Rattle.std.specs.Prelude.{ℕ, ◌*◌, ◌/◌, ◌==◌, List, length, map, filter, is_some, if◌then◌else◌}
use Rattle.std.specs.List.{flat_map}
use Rattle.crush_map.specs.declared.draft.Device.{Device}
use Rattle.crush_choose.specs.Firstn.{has, slot_has}
use Rattle.crush_choose.specs.Marks.{Slot}
use Rattle.crush_pool.specs.Exceptions.{device_item}
use Rattle.crush_pool.specs.Placements.{primary_of}
use Rattle.crush_report.specs.declared.rows.UsageRow.{UsageRow}

-- all entries of up lists, one list after the other
abbrev pub all_entries : List (List Slot) → List Slot
all_entries ups = flat_map (λ up. up) ups

-- how many entries are the device
abbrev pub entries_of : ℕ → List (List Slot) → ℕ
entries_of device ups = length (filter (slot_has (device_item device)) (all_entries ups))

-- in how many lists the device is, each counted once
abbrev pub groups_of : ℕ → List (List Slot) → ℕ
groups_of device ups = length (filter (λ up. has up (device_item device)) ups)

-- of how many lists it is the primary
abbrev pub primaries_of : ℕ → List (List Slot) → ℕ
primaries_of device ups = length (filter (λ up. slot_has (device_item device) (primary_of up)) ups)

-- how many entries aren't none
abbrev pub entry_count : List (List Slot) → ℕ
entry_count ups = length (filter is_some (all_entries ups))

-- a part in thousandths of the whole, rounded down; 0 of nothing
abbrev pub permille : ℕ → ℕ → ℕ
permille part whole = if whole == 0 then 0 else 1000 * part / whole

abbrev pub usage_row : List (List Slot) → ℕ → UsageRow
usage_row ups device =
    record {
      device = device;
      groups = groups_of device ups;
      entries = entries_of device ups;
      primaries = primaries_of device ups;
      permille = permille (entries_of device ups) (entry_count ups);
    }

-- a row for each device, in the order of the devices
abbrev pub usage_rows : List Device → List (List Slot) → List UsageRow
usage_rows devices ups = map (λ d. usage_row ups d.id) devices
