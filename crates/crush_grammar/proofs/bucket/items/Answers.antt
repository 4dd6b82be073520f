use Rattle.std.proofs.lemmas.Result.{err_from_is_err_and}
use Rattle.crush_grammar.proofs.States.{leads_loop, items_step}
use Rattle.crush_grammar.specs.declared.declaration.DeclaredBucket.{DeclaredBucket}
use Rattle.crush_grammar.proofs.bucket.items.Goals as goal

pub returns-in_err-found-clause-value : goal.returns-in_err-found-clause-value
returns-in_err-found-clause-value c =
    let p = err_from_is_err_and c.from_residual.result c.from_residual.ensures.1 in
    let b : DeclaredBucket = record { head = c.args.start.head; id = c.args.start.id; alg = c.args.start.alg; items = c.loop-word.items.items } in
    rw (p.1, p.2) (leads_loop _ _ _ _ _ _ c.loop-word.invariant.rest (items_step b _ _ _ _ _ c.in-Some.ensures.0 c.in-Some.ensures.1 (cc)) (c.in_err-found.ensures.value b))
