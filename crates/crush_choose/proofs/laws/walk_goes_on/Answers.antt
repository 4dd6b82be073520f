use Rattle.crush_choose.proofs.Walking.{reach-step, reach-enough}
use Rattle.crush_choose.proofs.laws.walk_goes_on.Goals as goal

pub returns-clause-step : goal.returns-clause-step
returns-clause-step c = reach-step

pub returns-clause-enough : goal.returns-clause-enough
returns-clause-enough c = reach-enough
