use Rattle.std.proofs.lemmas.Result.{IfOk-weaker}
use Rattle.crush_grammar.proofs.Forms.{declares_or_breaks}
use Rattle.crush_grammar.proofs.read.read_declarations.Goals as goal

pub returns : goal.returns
returns c = IfOk-weaker c.read_words.result _ _ (λ r h. declares_or_breaks _ r.declarations r.fault h) c.read_words.ensures
