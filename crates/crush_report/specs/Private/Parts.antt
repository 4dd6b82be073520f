-- Lists that stand one behind the other in one, by where each ends.
use Rattle.std.specs.Prelude.{◌≤◌, ℕ, zero, suc, List, [], ◌∷◌, slice_index_or, slice_range}
use Rattle.crush_choose.specs.Marks.{Slot}

-- the lists, of which the first begins at a start
abbrev pub parts_of : List Slot → ℕ → List ℕ → List (List Slot)
parts_of slots start [] = []
parts_of slots start (end ∷ ends) = slice_range slots start end ∷ parts_of slots end ends

-- each list ends where it begins or later, and the last one within `size` slots
abbrev pub AreEnds : ℕ → ℕ → List ℕ → Type 0
AreEnds size start [] = start ≤ size
AreEnds size start (end ∷ ends) = (start ≤ end) × AreEnds size end ends

-- where the last list ends
abbrev pub last_end : ℕ → List ℕ → ℕ
last_end start [] = start
last_end start (end ∷ ends) = last_end end ends

-- where a list begins
abbrev pub start_at : ℕ → List ℕ → ℕ → ℕ
start_at start ends zero = start
start_at start ends (suc place) = slice_index_or ends place 0

-- the list of a group; an empty one of a group that has none
abbrev pub list_at : List (List Slot) → ℕ → List Slot
list_at lists group = slice_index_or lists group []
