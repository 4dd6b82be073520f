use Rattle.tenant_core.proofs.Replying.{step_status}
use Rattle.tenant_core.proofs.laws.no_step_answers_500_or_503.Goals as goal

pub returns-clause-no_500 : goal.returns-clause-no_500
returns-clause-no_500 c = λ call s. (step_status call s).0

pub returns-clause-no_503 : goal.returns-clause-no_503
returns-clause-no_503 c = λ call s. (step_status call s).1
