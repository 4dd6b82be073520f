-- The text of a reply, piece by piece.
use Rattle.std.specs.Prelude.{ℕ, List, ◌++◌, codes}
use Rattle.std.specs.Fmt.{decimal}

-- the body of a reply with moves, up to the list of its rows
abbrev pub head_text : ℕ → ℕ → ℕ → ℕ → ℕ → List ℕ
head_text epoch from gained moved id =
    (codes "{\"epoch\":" ++ decimal epoch) ++ (codes ",\"from\":" ++ decimal from) ++ (codes ",\"gained\":" ++ decimal gained) ++ (codes ",\"moved\":" ++ decimal moved)
    ++ (codes ",\"pool\":" ++ decimal id)
