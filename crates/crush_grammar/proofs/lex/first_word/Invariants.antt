use Rattle.std.proofs.Common.{◌≡◌, ◌+◌, ◌≤◌, drop, false}
use Rattle.crush_grammar.specs.Words.{words_from}
use Rattle.crush_grammar.proofs.lex.first_word.Given as goal

-- the bytes from `place` on have the words of all
abbrev pub invariant-loop-place : goal.invariant-loop-place
invariant-loop-place l = record {
  rest : words_from l.comment l.line (drop l.place l.text) ≡ words_from false l.fn.line l.text;
  lines : l.line ≤ l.fn.line + l.place;
}
