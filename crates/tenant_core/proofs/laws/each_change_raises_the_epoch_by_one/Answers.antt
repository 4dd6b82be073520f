use Rattle.tenant_core.proofs.Once.{action_grows}
use Rattle.tenant_core.proofs.laws.each_change_raises_the_epoch_by_one.Goals as goal

pub returns : goal.returns
returns c = action_grows
