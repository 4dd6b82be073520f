use Rattle.tenant_core.proofs.PoolRules.{action_leaves, groups_are_placed}
use Rattle.tenant_core.proofs.laws.pools_have_their_rules.Goals as goal

pub returns-clause-stays : goal.returns-clause-stays
returns-clause-stays c = action_leaves

pub returns-clause-placed : goal.returns-clause-placed
returns-clause-placed c = groups_are_placed
