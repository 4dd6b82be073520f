-- Counts by the id of a device.
use Rattle.std.specs.Prelude.{◌≡◌, ◌<◌, ◌+◌, ◌^◌, ◌&&◌, ℕ, Bool, true, false, List, [], ◌∷◌, Some, None, length, filter, is_some, max, slice_index_or, if◌then◌else◌}
use Rattle.crush_map.specs.declared.draft.Device.{Device}
use Rattle.crush_choose.specs.Firstn.{has, slot_has}
use Rattle.crush_choose.specs.Marks.{Slot}
use Rattle.crush_pool.specs.Placements.{primary_of}
use Rattle.crush_pool.specs.Exceptions.{device_item}
use Rattle.crush_report.specs.Usage.{entries_of, groups_of, primaries_of, entry_count, permille}
use Rattle.crush_report.specs.declared.rows.UsageRow.{UsageRow}

-- the count of a device; 0 past the end
abbrev pub count_at : List ℕ → ℕ → ℕ
count_at counts id = slice_index_or counts id 0

-- how many counts are stored: one more than the greatest id of the devices, and 0 without a device
unfoldable pub id_bound : List Device → ℕ
id_bound [] = 0
id_bound (d ∷ rest) = max (d.id + 1) (id_bound rest)

-- each count can grow by `more`
abbrev pub HasRoom : List ℕ → ℕ → Type 0
HasRoom counts more = (id : ℕ) → count_at counts id + more < 2 ^ 32

-- whether a slot has an item that is in a list
abbrev pub is_again : Slot → List Slot → Bool
is_again None others = false
is_again (Some item) others = has others item

-- ---- what one up list counts

-- for a device: in how many of one list it is, ..
abbrev pub groups_in : ℕ → List Slot → ℕ
groups_in id up = if has up (device_item id) then 1 else 0

-- .. how many entries it is ..
abbrev pub entries_in : ℕ → List Slot → ℕ
entries_in id up = length (filter (slot_has (device_item id)) up)

-- .. and of how many lists it is the primary, where no entry was counted before
abbrev pub primaries_in : Bool → ℕ → List Slot → ℕ
primaries_in first id up = if slot_has (device_item id) (primary_of up) && first then 1 else 0

-- how many entries aren't none
abbrev pub filled_in : List Slot → ℕ
filled_in up = length (filter is_some up)

-- ---- what is counted

-- what is counted: three lists of counts by the ids of devices, and a number of entries
pub record TallyView : Type 0 where
  pub groups : List ℕ
  pub entries : List ℕ
  pub primaries : List ℕ
  pub filled : ℕ

-- there are counts of the same devices
pub record HasSameLengths (before now : TallyView) : Type 0 where
  pub groups : length now.groups ≡ length before.groups
  pub entries : length now.entries ≡ length before.entries
  pub primaries : length now.primaries ≡ length before.primaries

-- what was counted, with the rest of an up list, is all of the list; `first` says that no entry was
-- counted yet
pub record IsCounting (up : List Slot) (first : Bool) (before : TallyView) (rest : List Slot) (now : TallyView) : Type 0 where
  pub lens : HasSameLengths before now
  pub groups : (id : ℕ) → id < length before.groups → count_at now.groups id + groups_in id rest ≡ count_at before.groups id + groups_in id up
  pub entries : (id : ℕ) → id < length before.entries → count_at now.entries id + entries_in id rest ≡ count_at before.entries id + entries_in id up
  pub primaries : (id : ℕ) → id < length before.primaries → count_at now.primaries id + primaries_in first id rest ≡ count_at before.primaries id + primaries_in true id up
  pub filled : now.filled + filled_in rest ≡ before.filled + filled_in up

-- it is counted of the up lists, for the devices whose ids are below a bound
pub record IsTally (bound : ℕ) (ups : List (List Slot)) (t : TallyView) : Type 0 where
  pub groups_len : length t.groups ≡ bound
  pub entries_len : length t.entries ≡ bound
  pub primaries_len : length t.primaries ≡ bound
  pub groups : (id : ℕ) → id < bound → count_at t.groups id ≡ groups_of id ups
  pub entries : (id : ℕ) → id < bound → count_at t.entries id ≡ entries_of id ups
  pub primaries : (id : ℕ) → id < bound → count_at t.primaries id ≡ primaries_of id ups
  pub filled : t.filled ≡ entry_count ups

-- the row of a device by what is counted
abbrev pub row_by : TallyView → ℕ → UsageRow
row_by t device =
    record {
      device = device;
      groups = count_at t.groups device;
      entries = count_at t.entries device;
      primaries = count_at t.primaries device;
      permille = permille (count_at t.entries device) t.filled;
    }
