-- The map of a text, or the first fault for which it has none, as a function of its bytes: a means,
-- and no part of what texts are.
--
-- The law `texts_are_read_as_they_say` joins it to `IsTextOf`, `HasFirstFault` and `IsRefusedFor`
-- both ways, so that no reader has to believe it.
use Rattle.std.specs.Prelude.{ℕ, nat_le, nat_lt, List, [], ◌∷◌, length, Option, Some, None, Result, Ok, Err, if◌then◌else◌}
use Rattle.crush_map.specs.Faults.{or_else}
use Rattle.crush_map.specs.Map.{Map}
use Rattle.crush_map.specs.declared.draft.MapDraft.{MapDraft}
use Rattle.crush_grammar.specs.Words.{Word, words}
use Rattle.crush_grammar.specs.Automaton.{Reading, text as read}
use Rattle.crush_grammar.specs.Fronts.{last_line}
use Rattle.crush_grammar.specs.declared.code.TextCode.TheVariants.{X7}
use Rattle.crush_grammar.specs.declared.code.TextFault.{TextFault}
use Rattle.crush_text.specs.declared.limits.TheConstants.{TEXT_LIMIT}
use Rattle.crush_text.specs.Judging.{declared, declared_fault, last_fault}

-- ---- in ascending order of number

abbrev pub insert_by : {X : Type 0} → (X → ℕ) → X → List X → List X
insert_by number x [] = x ∷ []
insert_by number x (y ∷ ys) = if nat_lt (number y) (number x) then y ∷ insert_by number x ys else x ∷ y ∷ ys

abbrev pub sorted_by : {X : Type 0} → (X → ℕ) → List X → List X
sorted_by number [] = []
sorted_by number (x ∷ xs) = insert_by number x (sorted_by number xs)

-- the map of a draft without a fault
abbrev pub map_of_draft : MapDraft → Map
map_of_draft d = record {
  types = sorted_by (λ t. t.number) d.types;
  devices = sorted_by (λ x. x.id) d.devices;
  buckets = d.buckets;
  rules = sorted_by (λ r. r.id) d.rules;
  tunables = d.tunables;
}

-- ---- texts

-- the first fault of words: of a declaration, else of the form, else at the end
abbrev pub fault_of_words : List Word → Reading → Option TextFault
fault_of_words ws r = or_else (declared_fault r.decls) (or_else r.fault (last_fault (last_line 1 ws) (declared r.decls)))

-- a fault, or else a map
abbrev pub fault_or_map : Option TextFault → Map → Result Map TextFault
fault_or_map (Some f) m = Err f
fault_or_map None m = Ok m

abbrev pub map_of_words : List Word → Result Map TextFault
map_of_words ws = fault_or_map (fault_of_words ws (read ws)) (map_of_draft (declared (read ws).decls).draft)

-- the map of a text, whatever its length, or else its first fault
unfoldable pub map_of_stored_text : List ℕ → Result Map TextFault
map_of_stored_text bytes = map_of_words (words bytes)

-- the map of a text that may be imported, or else the fault for which it is refused: its length
-- before all else
unfoldable pub map_of_text : List ℕ → Result Map TextFault
map_of_text bytes = if nat_le (length bytes) TEXT_LIMIT then map_of_stored_text bytes else Err (record { line = 1; code = X7 })
