use Rattle.std.proofs.Common.{◌∙◌}
use Rattle.std.proofs.lemmas.Result.{err_from_is_err_and}
use Rattle.crush_grammar.proofs.States.{leads_any, leads_after}
use Rattle.crush_grammar.proofs.bucket.item.Goals as goal

pub returns-in_err-name-clause-value : goal.returns-in_err-name-clause-value
returns-in_err-name-clause-value c = λ b.
    let p = err_from_is_err_and c.from_residual.result c.from_residual.ensures.1 in
    rw (p.1, p.2) (leads_any _ _ _ _ (c.in_err-name.ensures.value b))

pub returns-in_err-weight-clause-value : goal.returns-in_err-weight-clause-value
returns-in_err-weight-clause-value c = λ b.
    let p = err_from_is_err_and c.from_residual-in_err-weight.result c.from_residual-in_err-weight.ensures.1 in
    rw (p.1, p.2) (leads_after _ _ _ _ _ (c.in_ok-name.ensures.value b) (c.in_err-weight.ensures.value b c.in_ok-name.name))

pub returns-in_err-place-clause-value : goal.returns-in_err-place-clause-value
returns-in_err-place-clause-value c = λ b.
    let p = err_from_is_err_and c.from_residual-in_err-place.result c.from_residual-in_err-place.ensures.1 in
    rw (p.1, p.2) (leads_after _ _ _ _ _ (c.in_ok-name.ensures.value b ∙ c.in_ok-weight.ensures.value b c.in_ok-name.name) (c.in_err-place.ensures.value b c.in_ok-name.name c.in_ok-weight.weight))
