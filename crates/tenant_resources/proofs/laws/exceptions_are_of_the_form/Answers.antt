use Rattle.tenant_messages.proofs.Finding.{json_finds, json_refuses}
use Rattle.tenant_resources.proofs.ExceptionForms.{finds_exceptions}
use Rattle.tenant_resources.proofs.laws.exceptions_are_of_the_form.Goals as goal

pub returns-clause-value : goal.returns-clause-value
returns-clause-value c d a = (finds_exceptions.says d a, finds_exceptions.found d a)

pub returns-clause-body : goal.returns-clause-body
returns-clause-body c = json_finds finds_exceptions

pub returns-clause-refused : goal.returns-clause-refused
returns-clause-refused c = json_refuses finds_exceptions
