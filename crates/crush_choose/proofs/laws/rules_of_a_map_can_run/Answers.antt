use Rattle.crush_choose.proofs.Faultless.{can_run}
use Rattle.crush_choose.proofs.laws.rules_of_a_map_can_run.Goals as goal

pub returns : goal.returns
returns c = can_run
