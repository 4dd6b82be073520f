-- How the functions that read a text go on from place to place: a means, and no part of what texts
-- are.
use Rattle.std.specs.Prelude.{◌≡◌, ◌++◌, ℕ, ⊤, Bool, true, false, List, [], Option, Some, None, Result, Ok, Err}
use Rattle.crush_grammar.specs.Words.{Word, Rest}
use Rattle.crush_grammar.specs.Automaton.{State, Reading, reading, failed}
use Rattle.crush_grammar.specs.declared.code.TextCode.TheVariants.{X1}
use Rattle.crush_grammar.specs.declared.declaration.Declaration.{Declaration}
use Rattle.crush_grammar.specs.declared.declaration.Declaration.TheVariants as declarations
use Rattle.crush_grammar.specs.declared.error.ReadError.{ReadError}
use Rattle.crush_grammar.specs.declared.error.ReadError.TheVariants as errors

-- what is read of the rest of a text
abbrev pub ahead : State → Rest → Reading
ahead s rest = reading s rest.line rest.words

-- a reading goes on as the value says, or ends in the fault
abbrev pub Leads : {X : Type 0} → Reading → Result X ReadError → (X → Reading) → Type 0
Leads r (Ok x) onward = r ≡ onward x
Leads r (Err errors.Memory) onward = ⊤
Leads r (Err (errors.Fault f)) onward = r ≡ failed f

-- a word out of the grammar
abbrev pub out_of_grammar : ℕ → ReadError
out_of_grammar line = errors.Fault (record { line = line; code = X1 })

-- the value that a word says, or that it is out of the grammar
abbrev pub said : {V : Type 0} → Word → Option V → Result V ReadError
said w (Some v) = Ok v
said w None = Err (out_of_grammar w.line)

-- declarations that stand before all buckets and rules
abbrev pub is_early : Declaration → Bool
is_early (declarations.Tunable t) = true
is_early (declarations.Device d) = true
is_early (declarations.TypeName t) = true
is_early (declarations.Bucket b) = false
is_early (declarations.Rule r) = false

-- declarations before a reading
abbrev pub behind : List Declaration → Reading → Reading
behind ds r = record { decls = ds ++ r.decls; fault = r.fault }

-- stands for a reading that is never asked for
abbrev pub no_more : ⊤ → Reading
no_more x = record { decls = []; fault = None }
