use Rattle.std.proofs.Common.{◌∙◌, ap}
use Rattle.serde_json.specs.Written.{has_float}
use Rattle.tenant_reports.proofs.PlainReplies.{impact_plain}
use Rattle.tenant_reports.proofs.impact.touched_reply.Goals as goal

pub success-requires : goal.success-requires
success-requires c = ap has_float c.in_ok-body.ensures ∙ impact_plain c.args.inventory.now c.args.id c.args.device c.args.groups.now
