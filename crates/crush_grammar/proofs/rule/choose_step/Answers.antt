use Rattle.std.proofs.lemmas.Result.{err_from_is_err_and}
use Rattle.crush_grammar.proofs.States.{leads_any}
use Rattle.crush_grammar.proofs.rule.choose_step.Goals as goal

pub returns-in_err-firstn-clause-value : goal.returns-in_err-firstn-clause-value
returns-in_err-firstn-clause-value c = λ r.
    let p = err_from_is_err_and c.from_residual.result c.from_residual.ensures.1 in
    rw (p.1, p.2) (leads_any _ _ _ _ (c.in_err-firstn.ensures.value r))
