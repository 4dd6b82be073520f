use Rattle.std.proofs.Common.{◌∙◌, ap}
use Rattle.serde_json.specs.Written.{has_float}
use Rattle.tenant_resources.proofs.PlainReplies.{exceptions_plain}
use Rattle.tenant_resources.proofs.exceptions.answer.Goals as goal

pub success-requires : goal.success-requires
success-requires c = ap has_float c.in_ok-body.ensures ∙ exceptions_plain c.args.inventory.now c.in_ok-pool.pool.now
