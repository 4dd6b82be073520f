use Rattle.std.proofs.Common.{◌≡◌, ◌≤◌, length, None}
use Rattle.crush_grammar.specs.Automaton.{State}
use Rattle.crush_grammar.specs.Private.Leads.{ahead}
use Rattle.crush_grammar.proofs.bucket.bucket_id.Given as goal

abbrev pub invariant-loop-word : goal.invariant-loop-word
invariant-loop-word l = record {
  rest : ahead (State.IdLines l.head l.id) l.cursor ≡ ahead (State.IdLines l.head None) l.fn.cursor;
  less : length l.cursor.words ≤ length l.fn.cursor.words;
}

abbrev pub decreases-loop-word : goal.decreases-loop-word
decreases-loop-word l = length l.cursor.words
