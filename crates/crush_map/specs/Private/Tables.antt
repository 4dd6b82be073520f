-- Tables of flags by which a number is looked up in one step.
use Rattle.std.specs.Prelude.{◌≡◌, ◌<◌, ℕ, ℤ, pos, negsuc, nat_le, Bool, false, List, length, slice_index_or}
use Rattle.std.specs.List.{All}
use Rattle.crush_map.specs.declared.limits.TheConstants.{NUMBER_LIMIT}
use Rattle.crush_types.specs.declared.limits.TheConstants.{ID_COUNT}
use Rattle.crush_map.specs.declared.numbers.TheConstants.{SHORT_LIST}
use Rattle.crush_map.specs.Faults.{has_number}

-- a table of ID_COUNT flags: the flag at n is true exactly if n is in the list
pub record IsTableOf (numbers : List ℕ) (table : List Bool) : Type 0 where
  pub size : length table ≡ ID_COUNT
  pub seen : (n : ℕ) → slice_index_or table n false ≡ has_number numbers n

-- the same, where a short list may have an empty table, and a longer one has its table
pub record IsIndexOf (numbers : List ℕ) (table : List Bool) : Type 0 where
  pub below : All (λ n. n < ID_COUNT) numbers
  pub flags : 0 < length table → IsTableOf numbers table
  pub long : SHORT_LIST < length numbers → 0 < length table

-- the ids that tables of flags are for: up to NUMBER_LIMIT, and -1 down to -1 - NUMBER_LIMIT
abbrev pub is_id : ℤ → Bool
is_id (pos n) = nat_le n NUMBER_LIMIT
is_id (negsuc n) = nat_le n NUMBER_LIMIT
