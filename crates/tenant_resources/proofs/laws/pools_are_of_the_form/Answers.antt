use Rattle.tenant_messages.proofs.Finding.{json_finds, json_refuses}
use Rattle.tenant_resources.proofs.PoolForms.{finds_pool}
use Rattle.tenant_resources.proofs.laws.pools_are_of_the_form.Goals as goal

pub returns-clause-value : goal.returns-clause-value
returns-clause-value c d a = (finds_pool.says d a, finds_pool.found d a)

pub returns-clause-body : goal.returns-clause-body
returns-clause-body c = json_finds finds_pool

pub returns-clause-refused : goal.returns-clause-refused
returns-clause-refused c = json_refuses finds_pool
