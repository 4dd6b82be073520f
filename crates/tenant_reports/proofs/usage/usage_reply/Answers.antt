use Rattle.tenant_reports.specs.Usage.{usage_reply}
use Rattle.tenant_reports.proofs.usage.usage_reply.Goals as goal

pub returns : goal.returns
returns c = c.done.ensures (usage_reply c.args.epoch c.args.version c.args.id c.args.rows.now) c.in_ok-text.ensures
