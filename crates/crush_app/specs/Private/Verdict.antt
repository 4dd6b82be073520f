-- The line for a text, beside whether the text is a map's.
use Rattle.std.specs.Prelude.{ℕ, List, Bool, true, false}
use Rattle.crush_app.specs.Check.{IsAcceptedLine, IsRefusedLine}

abbrev pub IsVerdict : Bool → List ℕ → List ℕ → Type 0
IsVerdict true input line = IsAcceptedLine input line
IsVerdict false input line = IsRefusedLine input line
