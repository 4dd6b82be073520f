use Rattle.std.proofs.Common.{◌∙◌}
use Rattle.std.proofs.lemmas.Result.{IfOk-weaker}
use Rattle.crush_app.proofs.Checking.{refused_is}
use Rattle.crush_app.proofs.check.refused_line.Goals as goal

pub returns : goal.returns
returns c = IfOk-weaker c.format.result _ _ (λ s h. h ∙ refused_is c.code_text-code.result.now c.args.fault c.code_text-code.ensures) c.format.ensures.ok
