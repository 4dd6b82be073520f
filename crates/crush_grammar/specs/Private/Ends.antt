-- The end of a line, as the code finds it.
use Rattle.std.specs.Prelude.{ℕ, ◌||◌, Bool, List, [], ◌∷◌, bytes_eq}
use Rattle.crush_grammar.specs.Words.{first_line}

-- whether nothing is left of a line but one CR, or nothing at all
abbrev pub ends_line : List ℕ → Bool
ends_line bytes = bytes_eq (first_line bytes) [] || bytes_eq (first_line bytes) (13 ∷ [])
