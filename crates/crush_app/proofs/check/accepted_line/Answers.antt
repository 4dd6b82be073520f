use Rattle.std.proofs.Common.{◌∙◌}
use Rattle.std.proofs.lemmas.Result.{IfOk-weaker}
use Rattle.crush_app.proofs.Checking.{accepted_is}
use Rattle.crush_app.proofs.check.accepted_line.Goals as goal

pub returns : goal.returns
returns c =
    IfOk-weaker c.format.result _ _
    (λ s h. h ∙ accepted_is c.devices.result.now c.buckets.result.now c.rules.result.now c.args.map.now c.devices.ensures.same c.buckets.ensures.same c.rules.ensures.same) c.format.ensures.ok
