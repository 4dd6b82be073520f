use Rattle.std.proofs.Common.{◌∙◌}
use Rattle.std.proofs.lemmas.Result.{IfOk-weaker}
use Rattle.crush_grammar.proofs.States.{between, read_more, leads_any}
use Rattle.crush_grammar.proofs.read.read_words.Goals as goal

pub loop-word-preserved : goal.loop-word-preserved
loop-word-preserved c =
    let e = between c.loop-word.early c.loop-word.cursor.line _ _ _ _ c.in-Some.ensures.0 c.in-Some.ensures.1 in
    rw (c.in_ok-push-in-Ok.ensures.items, c.is_early-early.ensures) (read_more _ _ _ _ _ (e ∙ c.in-Ok.ensures.value) c.loop-word.invariant)

pub returns-in-Err : goal.returns-in-Err
returns-in-Err c =
    let e = between c.loop-word.early c.loop-word.cursor.line _ _ _ _ c.in-Some.ensures.0 c.in-Some.ensures.1 in
    IfOk-weaker c.stopped.result _ _ (λ r h. h _ _ (leads_any _ _ _ _ c.in-Err.ensures.value) (rw e at c.loop-word.invariant)) c.stopped.ensures
