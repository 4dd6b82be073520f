use Rattle.std.proofs.Common.{◌∙◌, ap}
use Rattle.serde_json.specs.Written.{has_float}
use Rattle.tenant_resources.proofs.PlainReplies.{tested_plain}
use Rattle.tenant_resources.proofs.rule_tests.answer_on.Goals as goal

pub success-requires : goal.success-requires
success-requires c =
    ap has_float c.in_ok-body.ensures
    ∙ tested_plain c.epoch.result c.args.number c.args.version.now c.weights-weights.result.now c.in_ok-rule.rule.now c.args.test.now.x c.args.test.now.size
