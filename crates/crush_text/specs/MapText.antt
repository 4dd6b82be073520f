-- Which texts are maps, and why others are none.
use Rattle.std.specs.Prelude.{◌≡◌, ℕ, ◌<◌, ◌≤◌, ◌⊎◌, List, length, Some, None}
use Rattle.crush_map.specs.Map.{Map, IsMap, IsMapOf}
use Rattle.crush_map.specs.Faults.{or_else}
use Rattle.crush_grammar.specs.Words.{Word, words}
use Rattle.crush_grammar.specs.Syntax.{Declares}
use Rattle.crush_grammar.specs.Fronts.{Breaks, last_line}
use Rattle.crush_text.specs.declared.limits.TheConstants.{TEXT_LIMIT}
use Rattle.crush_text.specs.Judging.{declared, declared_fault, last_fault}
use Rattle.crush_grammar.specs.declared.code.TextCode.TheVariants.{X7}
use Rattle.crush_grammar.specs.declared.code.TextFault.{TextFault}
use Rattle.crush_grammar.specs.declared.declaration.Declaration.{Declaration}

-- the words are of the grammar, no declaration and nothing at the end has a fault, and the map is
-- the one that is declared
pub record SaysMap (ws : List Word) (m : Map) : Type 0 where
  pub declarations : List Declaration
  pub form : Declares ws declarations
  pub each : declared_fault declarations ≡ None
  pub end : last_fault (last_line 1 ws) (declared declarations) ≡ None
  pub draft : IsMapOf (declared declarations).draft m
  pub map : IsMap m

-- the words are of the grammar, and a declaration, or else the end, has this fault
pub record HasMapFault (ws : List Word) (f : TextFault) : Type 0 where
  pub declarations : List Declaration
  pub form : Declares ws declarations
  pub first : or_else (declared_fault declarations) (last_fault (last_line 1 ws) (declared declarations)) ≡ Some f

-- the words leave the grammar; a declaration before that has this fault, or else it is that of the
-- form
pub record HasFormFault (ws : List Word) (f : TextFault) : Type 0 where
  pub declarations : List Declaration
  pub at : TextFault
  pub breaks : Breaks ws declarations at
  pub first : or_else (declared_fault declarations) (Some at) ≡ Some f

-- a text of a map, whatever its length
abbrev pub IsTextOf : List ℕ → Map → Type 0
IsTextOf bytes m = SaysMap (words bytes) m

-- the first fault of a text, whatever its length
abbrev pub HasFirstFault : List ℕ → TextFault → Type 0
HasFirstFault bytes f = HasMapFault (words bytes) f ⊎ HasFormFault (words bytes) f

-- a text that may be imported has at most TEXT_LIMIT bytes
abbrev pub IsShort : List ℕ → Type 0
IsShort bytes = length bytes ≤ TEXT_LIMIT

-- the fault for which a text is not imported: its length before all else
abbrev pub IsRefusedFor : List ℕ → TextFault → Type 0
IsRefusedFor bytes f = ((TEXT_LIMIT < length bytes) × (f ≡ record { line = 1; code = X7 })) ⊎ (IsShort bytes × HasFirstFault bytes f)
