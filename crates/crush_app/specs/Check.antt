-- The line that is written for the text of a map.
use Rattle.std.specs.Prelude.{ℕ, ◌≡◌, List, [], ◌∷◌, ◌++◌, length, Result, Ok, Err, ⊤, ◌⊎◌, codes, decimal}
use Rattle.std.specs.declared.alloc.AllocError.{AllocError}
use Rattle.crush_map.specs.Map.{Map}
use Rattle.crush_text.specs.crush_grammar.specs.Codes.{code_text}
use Rattle.crush_text.specs.MapText.{IsShort, IsTextOf, IsRefusedFor}
use Rattle.crush_text.specs.crush_grammar.specs.declared.code.TextFault.{TextFault}
use Rattle.crush_app.specs.declared.check.CheckEnd.{CheckEnd}
use Rattle.crush_app.specs.declared.check.CheckEnd.TheVariants.{Accepted, Refused, ReadFault, WriteFault}

-- ok devices D buckets B rules R, LF
abbrev pub accepted_line : Map → List ℕ
accepted_line m = codes "ok devices " ++ (decimal (length m.devices) ++ (codes " buckets " ++ (decimal (length m.buckets) ++ (codes " rules " ++ (decimal (length m.rules) ++ 10 ∷ [])))))

-- refused line L code C, LF
abbrev pub refused_line : TextFault → List ℕ
refused_line f = codes "refused line " ++ (decimal f.line ++ (codes " code " ++ (code_text f.code ++ 10 ∷ [])))

-- the bytes are a text that may be imported, and `line` is the line of its map
pub record IsAcceptedLine (input line : List ℕ) : Type 0 where
  pub map : Map
  pub short : IsShort input
  pub text : IsTextOf input map
  pub is : line ≡ accepted_line map

-- the bytes are refused, and `line` is the line of the fault for which they are
pub record IsRefusedLine (input line : List ℕ) : Type 0 where
  pub fault : TextFault
  pub refused : IsRefusedFor input fault
  pub is : line ≡ refused_line fault

-- the second list is the line for the first one, the bytes of an input
abbrev pub IsLineFor : List ℕ → List ℕ → Type 0
IsLineFor input line = IsAcceptedLine input line ⊎ IsRefusedLine input line

-- a line was written whole
abbrev pub WritesLine : Result CheckEnd AllocError → Type 0
WritesLine (Ok Accepted) = ⊤
WritesLine (Ok Refused) = ⊤
WritesLine (Ok ReadFault) = ⊥
WritesLine (Ok WriteFault) = ⊥
WritesLine (Err e) = ⊥

-- the text wasn't read, or an allocation failed, so that no line was begun
abbrev pub WritesNothing : Result CheckEnd AllocError → Type 0
WritesNothing (Ok Accepted) = ⊥
WritesNothing (Ok Refused) = ⊥
WritesNothing (Ok ReadFault) = ⊤
WritesNothing (Ok WriteFault) = ⊥
WritesNothing (Err e) = ⊤

-- a text was judged: its line was written, whole or in part
abbrev pub HasVerdict : Result CheckEnd AllocError → Type 0
HasVerdict (Ok Accepted) = ⊤
HasVerdict (Ok Refused) = ⊤
HasVerdict (Ok ReadFault) = ⊥
HasVerdict (Ok WriteFault) = ⊤
HasVerdict (Err e) = ⊥
