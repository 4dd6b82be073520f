use Rattle.tenant_core.proofs.Following.{step-of_nobody}
use Rattle.tenant_core.proofs.laws.a_call_of_no_tenant_stands_alone.Goals as goal

pub returns-clause-reply : goal.returns-clause-reply
returns-clause-reply c = λ call s none. (step-of_nobody call none s).0

pub returns-clause-state : goal.returns-clause-state
returns-clause-state c = λ call s none. (step-of_nobody call none s).1
