-- Places and names by table.
use Rattle.std.specs.Prelude.{ℕ, List, [], ◌∷◌, ◌++◌, take, drop, Option, Some, None, bytes_eq, if◌then◌else◌}
use Rattle.std.specs.Option.{option_or}

-- for each place, the item that names it, or the next of the others
abbrev pub arrange : {X : Type 0} → List (Option X) → List X → List X
arrange [] others = []
arrange (Some x ∷ places) others = x ∷ arrange places others
arrange (None ∷ places) others = take 1 others ++ arrange places (drop 1 others)

-- a look-up by name which has this value too, where the name has none
abbrev pub first_value : {V : Type 0} → (List ℕ → Option V) → List ℕ → V → List ℕ → Option V
first_value get name value key = option_or (get key) (if bytes_eq name key then Some value else None)
