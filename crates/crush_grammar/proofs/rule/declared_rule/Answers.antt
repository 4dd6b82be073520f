use Rattle.std.proofs.Common.{◌∙◌}
use Rattle.std.proofs.lemmas.Result.{err_from_is_err_and}
use Rattle.crush_grammar.proofs.States.{leads_after}
use Rattle.crush_grammar.proofs.rule.declared_rule.Goals as goal

pub returns-in_err-cursor-clause-value : goal.returns-in_err-cursor-clause-value
returns-in_err-cursor-clause-value c =
    let p = err_from_is_err_and c.from_residual-in_err-cursor.result c.from_residual-in_err-cursor.ensures.1 in
    rw (p.1, p.2) (leads_after _ _ _ _ _ (c.in_ok-name.ensures.value ∙ c.in_ok-name-2.ensures.value ∙ c.in_ok-id.ensures.value ∙ c.in_ok-erasure.ensures.value) (c.in_err-cursor.ensures.value _))

pub returns-in_err-cursor-2-clause-value : goal.returns-in_err-cursor-2-clause-value
returns-in_err-cursor-2-clause-value c =
    let p = err_from_is_err_and c.from_residual-in_err-cursor-2.result c.from_residual-in_err-cursor-2.ensures.1 in
    rw (p.1, p.2) (leads_after _ _ _ _ _ (c.in_ok-name.ensures.value ∙ c.in_ok-name-2.ensures.value ∙ c.in_ok-id.ensures.value ∙ c.in_ok-erasure.ensures.value ∙ c.in_ok-cursor.ensures.value _) (c.in_err-cursor-2.ensures.value _))
