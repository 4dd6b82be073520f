use Rattle.std.proofs.Common.{sym, ap, ◌∙◌}
use Rattle.crush_grammar.proofs.IsRead.{is_read}
use Rattle.crush_grammar.proofs.law.words_declare_once.Goals as goal

pub returns : goal.returns
returns c = λ ws ds es h k. ap (λ r. r.decls) (sym (is_read ws ds h) ∙ is_read ws es k)
