use Rattle.crush_choose.proofs.Answering.{firstn_is, firstn_only}
use Rattle.crush_choose.proofs.laws.one_firstn_answer.Goals as goal

pub returns-clause-there : goal.returns-clause-there
returns-clause-there c = firstn_is

pub returns-clause-one : goal.returns-clause-one
returns-clause-one c = firstn_only
