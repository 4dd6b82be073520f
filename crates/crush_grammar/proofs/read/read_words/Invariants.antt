use Rattle.std.proofs.Common.{◌≡◌, length}
use Rattle.crush_grammar.specs.Words.{words}
use Rattle.crush_grammar.specs.Automaton.{State, text}
use Rattle.crush_grammar.specs.Private.Leads.{ahead, behind}
use Rattle.crush_grammar.proofs.read.read_words.Given as goal

-- the declarations found, and what is read of the remaining words, are what is read of all
abbrev pub invariant-loop-word : goal.invariant-loop-word
invariant-loop-word l = behind l.found.items (ahead (State.Between l.early) l.cursor) ≡ text (words l.text)

abbrev pub decreases-loop-word : goal.decreases-loop-word
decreases-loop-word l = length l.cursor.words
