-- The places of a bucket's items: an item may name its own, and the others fill the remaining ones.
use Rattle.std.specs.Prelude.{ℕ, zero, suc, ◌+◌, nat_le, ◌==◌, ◌||◌, Bool, false, List, [], ◌∷◌, ◌++◌, length, take, drop, find, filter, Option, Some, None, is_none, if◌then◌else◌}
use Rattle.std.specs.List.{list_any}
use Rattle.std.specs.Option.{option_map_or}
use Rattle.crush_map.specs.Faults.{or_else}
use Rattle.crush_grammar.specs.declared.declaration.Place.{Place}
use Rattle.crush_grammar.specs.declared.declaration.DeclaredItem.{DeclaredItem}

-- an item names this place
abbrev pub names_place : ℕ → DeclaredItem → Bool
names_place k item = option_map_or (λ p. p.number == k) item.place false

-- ---- wrong places

-- the line of a place that is past n items, or that one of the items before names
abbrev pub wrong_line : ℕ → List DeclaredItem → Option Place → Option ℕ
wrong_line n before None = None
wrong_line n before (Some p) = if nat_le n p.number || list_any (names_place p.number) before then Some p.line else None

-- the line of the first wrong place of a bucket of n items, among those of its items that come
-- behind `before`
abbrev pub wrong_place_from : ℕ → List DeclaredItem → List DeclaredItem → Option ℕ
wrong_place_from n before [] = None
wrong_place_from n before (item ∷ items) = or_else (wrong_line n before item.place) (wrong_place_from n (before ++ item ∷ []) items)

unfoldable pub wrong_place : List DeclaredItem → Option ℕ
wrong_place items = wrong_place_from (length items) [] items

-- ---- items in order of place

-- the items of n places from place k on: the one that names the place, or the next of the others
abbrev pub fill : List DeclaredItem → ℕ → ℕ → List DeclaredItem → List DeclaredItem
fill items k zero others = []
fill items k (suc n) others = elim (find (names_place k) items) [
  | Some item ↦ item ∷ fill items (k + 1) n others
  | None ↦ take 1 others ++ fill items (k + 1) n (drop 1 others)
]

unfoldable pub in_place : List DeclaredItem → List DeclaredItem
in_place items = fill items 0 (length items) (filter (λ item. is_none item.place) items)
