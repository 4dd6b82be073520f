-- Texts of the form in which no declaration has a fault.
use Rattle.std.specs.Prelude.{◌≡◌, List, None}
use Rattle.crush_grammar.specs.Words.{Word}
use Rattle.crush_grammar.specs.Syntax.{Declares}
use Rattle.crush_grammar.specs.declared.declaration.Declaration.{Declaration}
use Rattle.crush_text.specs.Judging.{Declared, declared, declared_fault}

-- the words are of the grammar, no declaration has a fault, and this is what they make
pub record IsClean (ws : List Word) (s : Declared) : Type 0 where
  pub declarations : List Declaration
  pub form : Declares ws declarations
  pub each : declared_fault declarations ≡ None
  pub all : s ≡ declared declarations
