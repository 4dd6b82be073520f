use Rattle.crush_choose.proofs.Least.{least_some, least_none}
use Rattle.crush_choose.proofs.laws.least_is_first.Goals as goal

pub returns-clause-some : goal.returns-clause-some
returns-clause-some c = least_some

pub returns-clause-none : goal.returns-clause-none
returns-clause-none c = least_none
