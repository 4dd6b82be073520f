-- How the pairs of a group are found: by the place of the first one, and for each one by the place
-- of the next.
use Rattle.std.specs.Prelude.{◌≡◌, ◌<◌, ◌+◌, ℕ, List, drop, length, slice_index_or}
use Rattle.std.specs.List.{position_or_len}
use Rattle.crush_map.specs.crush_types.specs.DeviceValues.{Values, value_at}
use Rattle.crush_pool.specs.Exceptions.{is_of_group}
use Rattle.crush_pool.specs.declared.exceptions.Pair.{Pair}

-- what stands where there is no pair
abbrev pub no_pair : Pair
no_pair = record { group = 0; from = 0; to = 0 }

-- the place of the first pair of a group from a place on, or the number of pairs
abbrev pub first_from : List Pair → ℕ → ℕ → ℕ
first_from pairs group place = place + position_or_len (is_of_group group) (drop place pairs)

-- a table by group has the place of each group's first pair
abbrev pub HasFirst : Values ℕ → List Pair → Type 0
HasFirst table pairs = (group : ℕ) → value_at table group ≡ first_from pairs group 0

-- a list has for each pair the place of the next one of its group
abbrev pub HasNext : List ℕ → List Pair → Type 0
HasNext next pairs =
    (place : ℕ) → place < length pairs → slice_index_or next place 0 ≡ first_from pairs (slice_index_or pairs place no_pair).group (place + 1)
