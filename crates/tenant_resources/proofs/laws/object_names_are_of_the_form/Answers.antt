use Rattle.tenant_messages.proofs.Finding.{json_finds, json_refuses}
use Rattle.tenant_resources.proofs.NameForms.{finds_name}
use Rattle.tenant_resources.proofs.laws.object_names_are_of_the_form.Goals as goal

pub returns-clause-value : goal.returns-clause-value
returns-clause-value c d n = (finds_name.says d n, finds_name.found d n)

pub returns-clause-body : goal.returns-clause-body
returns-clause-body c = json_finds finds_name

pub returns-clause-refused : goal.returns-clause-refused
returns-clause-refused c = json_refuses finds_name
