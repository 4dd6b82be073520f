use Rattle.std.proofs.Common.{◌≡◌, ◌≤◌, length}
use Rattle.crush_grammar.specs.Automaton.{State}
use Rattle.crush_grammar.specs.Private.Leads.{ahead}
use Rattle.crush_grammar.specs.declared.declaration.DeclaredBucket.{DeclaredBucket}
use Rattle.crush_grammar.proofs.bucket.hashes.Given as goal

abbrev pub invariant-loop-word : goal.invariant-loop-word
invariant-loop-word l = record {
  rest : (b : DeclaredBucket) → ahead (State.Hashes b) l.cursor ≡ ahead (State.Hashes b) l.fn.cursor;
  less : length l.cursor.words ≤ length l.fn.cursor.words;
}

abbrev pub decreases-loop-word : goal.decreases-loop-word
decreases-loop-word l = length l.cursor.words
