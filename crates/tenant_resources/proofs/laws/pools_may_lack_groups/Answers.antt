use Rattle.std.proofs.Common.{sym}
use Rattle.tenant_state.proofs.Pairing.{are_below}
use Rattle.tenant_resources.proofs.laws.pools_may_lack_groups.Goals as goal

pub returns : goal.returns
returns c = λ groups pairs valid. sym (are_below groups pairs valid)
