use Rattle.crush_choose.proofs.Answering.{indep_is, indep_only}
use Rattle.crush_choose.proofs.laws.one_indep_answer.Goals as goal

pub returns-clause-there : goal.returns-clause-there
returns-clause-there c = indep_is

pub returns-clause-one : goal.returns-clause-one
returns-clause-one c = indep_only
