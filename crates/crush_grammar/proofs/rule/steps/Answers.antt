use Rattle.std.proofs.Common.{[]}
use Rattle.std.proofs.lemmas.Result.{err_from_is_err_and}
use Rattle.crush_grammar.proofs.States.{leads_any, leads_loop, steps_step}
use Rattle.crush_grammar.specs.declared.declaration.DeclaredRule.{DeclaredRule}
use Rattle.crush_grammar.proofs.rule.steps.Goals as goal

pub returns-in_err-first-clause-value : goal.returns-in_err-first-clause-value
returns-in_err-first-clause-value c =
    let p = err_from_is_err_and c.from_residual.result c.from_residual.ensures.1 in
    rw (p.1, p.2) (leads_any _ _ _ _ (c.in_err-first.ensures.value (record { line = c.args.line; name = c.args.name; id = c.args.id; erasure = c.args.erasure; steps = [] })))

pub returns-in_err-found-clause-value : goal.returns-in_err-found-clause-value
returns-in_err-found-clause-value c =
    let p = err_from_is_err_and c.from_residual-in_err-found.result c.from_residual-in_err-found.ensures.1 in
    let r : DeclaredRule = record { line = c.args.line; name = c.args.name; id = c.args.id; erasure = c.args.erasure; steps = c.loop-word.steps.items } in
    rw (p.1, p.2) (leads_loop _ _ _ _ _ _ c.loop-word.invariant.rest (steps_step r _ _ _ _ _ c.in-Some.ensures.0 c.in-Some.ensures.1 (cc)) (c.in_err-found.ensures.value r))
