-- A value for each id that a device can have, from pairs of id and value.
use Rattle.std.specs.Prelude.{ℕ, ◌==◌, nat_lt, List, [], ◌∷◌, map, set, replicate, slice_index_or, if◌then◌else◌}
use Rattle.std.specs.List.{range_with_len}
use Rattle.crush_types.specs.declared.limits.TheConstants.{ID_COUNT}

-- the values of the ids from 0 to ID_COUNT - 1, in order, and that of the rest
pub record Values (T : Type 0) : Type 0 where
  pub values : List T
  pub rest : T

-- each id has the value of the rest
unfoldable pub all : {T : Type 0} → T → Values T
all rest = record { values = replicate ID_COUNT rest; rest = rest }

-- an id that a device can have has this value, and each other id has the value that it had
unfoldable pub with_value : {T : Type 0} → Values T → ℕ → T → Values T
with_value table id value = record { values = set table.values id value; rest = table.rest }

-- the value of an id
abbrev pub value_at : {T : Type 0} → Values T → ℕ → T
value_at table id = slice_index_or table.values id table.rest

-- the first value for an id in pairs of id and value, or that of the rest if there is none
abbrev pub first_given : {T : Type 0} → T → List (ℕ × T) → ℕ → T
first_given rest [] id = rest
first_given rest (given ∷ more) id = if given.0 == id then given.1 else first_given rest more id

-- the value of an id by pairs of id and value; an id that no device can have has that of the rest
abbrev pub value_of : {T : Type 0} → T → List (ℕ × T) → ℕ → T
value_of rest given id = if nat_lt id ID_COUNT then first_given rest given id else rest

-- the values of all ids by pairs of id and value
unfoldable pub values_of : {T : Type 0} → T → List (ℕ × T) → Values T
values_of rest given = record { values = map (value_of rest given) (range_with_len 0 ID_COUNT); rest = rest }
