-- Changes of the states of devices.
use Rattle.std.specs.Prelude.{ℕ, ◌&&◌, ◌==◌, List, [], ◌∷◌, length, Bool, true, not, nat_le}
use Rattle.std.specs.List.{list_any}
use Rattle.crush_pool.specs.declared.changes.DeviceChange.{DeviceChange}
use Rattle.crush_pool.specs.declared.limits.TheConstants.{CHANGE_LIMIT}

abbrev pub is_of_device : ℕ → DeviceChange → Bool
is_of_device device c = c.device == device

-- each change is of another device
abbrev pub are_distinct : List DeviceChange → Bool
are_distinct [] = true
are_distinct (c ∷ cs) = not (list_any (is_of_device c.device) cs) && are_distinct cs

-- at least one change and at most CHANGE_LIMIT, each of another device
abbrev pub are_valid_changes : List DeviceChange → Bool
are_valid_changes cs = nat_le 1 (length cs) && nat_le (length cs) CHANGE_LIMIT && are_distinct cs
