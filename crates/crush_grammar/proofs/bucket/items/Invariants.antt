use Rattle.std.proofs.Common.{◌≡◌, ◌≤◌, [], length}
use Rattle.crush_grammar.specs.Automaton.{State}
use Rattle.crush_grammar.specs.Private.Leads.{ahead}
use Rattle.crush_grammar.proofs.bucket.items.Given as goal

abbrev pub invariant-loop-word : goal.invariant-loop-word
invariant-loop-word l = record {
  rest : ahead (State.Items (record { head = l.start.head; id = l.start.id; alg = l.start.alg; items = l.items.items })) l.cursor ≡ ahead (State.Items (record { head = l.start.head; id = l.start.id; alg = l.start.alg; items = [] })) l.fn.cursor;
  less : length l.cursor.words ≤ length l.fn.cursor.words;
}

abbrev pub decreases-loop-word : goal.decreases-loop-word
decreases-loop-word l = length l.cursor.words
