use Rattle.tenant_resources.specs.Groups.{group_reply}
use Rattle.tenant_resources.proofs.groups.placed_group.Goals as goal

pub returns : goal.returns
returns c = c.done.ensures (group_reply c.args.inventory.now c.args.group c.args.placement.now) c.in_ok-text.ensures
