use Rattle.std.proofs.Common.{◌≡◌, length}
use Rattle.crush_grammar.specs.Words.{words}
use Rattle.crush_grammar.specs.Fronts.{last_line}
use Rattle.crush_grammar.proofs.line.last_line.Given as goal

-- the words that remain end where all words do
abbrev pub invariant-loop-word : goal.invariant-loop-word
invariant-loop-word l = last_line l.cursor.line l.cursor.words ≡ last_line 1 (words l.text)

abbrev pub decreases-loop-word : goal.decreases-loop-word
decreases-loop-word l = length l.cursor.words
