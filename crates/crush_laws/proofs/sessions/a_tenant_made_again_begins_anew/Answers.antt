use Rattle.std.proofs.Common.{refl}
use Rattle.crush_laws.proofs.Anew.{made}
use Rattle.crush_laws.proofs.sessions.a_tenant_made_again_begins_anew.Goals as goal

pub returns-clause-made : goal.returns-clause-made
returns-clause-made c = λ call state h. (made call state h).anew

pub returns-clause-by : goal.returns-clause-by
returns-clause-by c = λ call state h. let m = made call state h in (m.tenant, m.is)

pub returns-clause-numbers : goal.returns-clause-numbers
returns-clause-numbers c = λ number. refl
