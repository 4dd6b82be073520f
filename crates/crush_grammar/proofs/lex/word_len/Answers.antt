use Rattle.std.proofs.Common.{arith}
use Rattle.crush_grammar.proofs.Scans.{run_word}
use Rattle.crush_grammar.proofs.lex.word_len.Goals as goal

pub returns-else-len-eq0-clause-value : goal.returns-else-len-eq0-clause-value
returns-else-len-eq0-clause-value c = λ line. rw c.run_len-len.ensures.value (run_word line c.args.bytes.now (omega arith))
