use Rattle.std.proofs.Common.{◌≡◌, ◌+◌, drop}
use Rattle.crush_grammar.specs.Private.Scan.{run_len}
use Rattle.crush_grammar.proofs.lex.run_len.Given as goal

abbrev pub invariant-loop-byte : goal.invariant-loop-byte
invariant-loop-byte l = record { at : l.len ≡ l.byte-index; rest : l.len + run_len (drop l.byte-index l.bytes) ≡ run_len l.bytes }
