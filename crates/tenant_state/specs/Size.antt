-- The bytes of memory that an inventory takes. They are an estimate from above: the numbers are
-- those of `size`, which says where each comes from.
use Rattle.std.specs.Prelude.{ℕ, ◌+◌, ◌*◌, List, fold, length, max, unsigned_abs}
use Rattle.std.specs.List.{sum_by}
use Rattle.crush_map.specs.Map.{Map}
use Rattle.crush_map.specs.declared.draft.Bucket.{Bucket}
use Rattle.crush_map.specs.declared.draft.Rule.{Rule}
use Rattle.crush_pool.specs.declared.exceptions.Pair.{Pair}
use Rattle.crush_pool.specs.declared.states.DeviceState.{DeviceState}
use Rattle.crush_text.specs.crush_writing.specs.Canonical.{canonical}
use Rattle.tenant_state.specs.State.{Inventory, TenantPool}
use Rattle.tenant_state.specs.declared.size.TheConstants.{INVENTORY_BYTES, VERSION_BYTES, TEXT_BYTES, PART_BYTES, BUCKET_BYTES, ITEM_BYTES, STEP_BYTES, BUCKET_ID_BYTES, STATE_BYTES, DEVICE_ID_BYTES, POOL_BYTES, PAIR_BYTES, GROUP_BYTES}

-- how many places a list by bucket has: up to that of the lowest id, -1 being that of the first
abbrev pub bucket_reach : List Bucket → ℕ
bucket_reach buckets = fold (λ reach b. max reach (unsigned_abs b.id.0)) 0 buckets

abbrev pub items_in : List Bucket → ℕ
items_in buckets = sum_by (λ b. length b.items) buckets

abbrev pub steps_in : List Rule → ℕ
steps_in rules = sum_by (λ r. length r.steps) rules

-- the parts of a map, with its tables
abbrev pub map_size : Map → ℕ
map_size m =
    PART_BYTES * (length m.types + length m.devices + length m.rules)
    + STEP_BYTES * steps_in m.rules
    + (BUCKET_BYTES * length m.buckets + ITEM_BYTES * items_in m.buckets)
    + BUCKET_ID_BYTES * bucket_reach m.buckets

-- a version: its map, the map's text and its tables
abbrev pub version_size : Map → ℕ
version_size m = VERSION_BYTES + TEXT_BYTES * length (canonical m) + map_size m

-- how many places a list by device has: up to that of the greatest id, 0 being that of the first
abbrev pub device_reach : List DeviceState → ℕ
device_reach states = fold (λ reach s. max reach (s.device + 1)) 0 states

-- states of devices, and their tables
abbrev pub states_size : List DeviceState → ℕ
states_size states = STATE_BYTES * length states + DEVICE_ID_BYTES * device_reach states

-- how many places a list by group has: up to that of the greatest group with a pair, 0 being that
-- of the first
abbrev pub group_reach : List Pair → ℕ
group_reach pairs = fold (λ reach p. max reach (p.group + 1)) 0 pairs

-- a pool, with its exceptions and their table
abbrev pub pool_size : TenantPool → ℕ
pool_size p = POOL_BYTES + PAIR_BYTES * length p.pairs + GROUP_BYTES * group_reach p.pairs

abbrev pub size : Inventory → ℕ
size inventory =
    INVENTORY_BYTES
    + sum_by version_size inventory.versions
    + states_size inventory.devices
    + sum_by pool_size inventory.pools
