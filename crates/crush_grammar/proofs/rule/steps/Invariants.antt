use Rattle.std.proofs.Common.{◌≡◌, ◌≤◌, [], length}
use Rattle.crush_grammar.specs.Automaton.{State}
use Rattle.crush_grammar.specs.Private.Leads.{ahead}
use Rattle.crush_grammar.proofs.rule.steps.Given as goal

abbrev pub invariant-loop-word : goal.invariant-loop-word
invariant-loop-word l = record {
  rest : ahead (State.Steps (record { line = l.line; name = l.name; id = l.id; erasure = l.erasure; steps = l.steps.items })) l.cursor ≡ ahead (State.RuleMax (record { line = l.line; name = l.name; id = l.id; erasure = l.erasure; steps = [] })) l.fn.cursor;
  less : length l.cursor.words ≤ length l.fn.cursor.words;
}

abbrev pub decreases-loop-word : goal.decreases-loop-word
decreases-loop-word l = length l.cursor.words
