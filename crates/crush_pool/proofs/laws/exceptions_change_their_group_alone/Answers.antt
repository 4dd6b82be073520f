use Rattle.crush_pool.proofs.Excepting.{placement_alone, placement_same, up_alone}
use Rattle.crush_pool.proofs.laws.exceptions_change_their_group_alone.Goals as goal

pub returns-clause-same : goal.returns-clause-same
returns-clause-same c = placement_same

pub returns-clause-none : goal.returns-clause-none
returns-clause-none c = placement_alone

pub returns-clause-up : goal.returns-clause-up
returns-clause-up c = up_alone
