-- A table of flags that says which items entries have.
use Rattle.std.specs.Prelude.{◌≡◌, ◌<◌, ℕ, ℤ, ◌+ℤ◌, pos, Bool, false, List, length, slice_index_or}
use Rattle.std.specs.List.{list_any}
use Rattle.crush_bucket.specs.Bucket.{WeightedItem}
use Rattle.crush_map.specs.crush_types.specs.declared.limits.TheConstants.{ID_COUNT}
use Rattle.tenant_reports.specs.Picks.{is_of_item}

-- the flags of the items that the table reaches, from -ID_COUNT on, are true where one of the
-- entries has them
abbrev pub HasItems : List Bool → List WeightedItem → Type 0
HasItems seen entries = (z : ℤ) → (place : ℕ) → place < length seen → pos place ≡ pos ID_COUNT +ℤ z → slice_index_or seen place false ≡ list_any (is_of_item z) entries
