use Rattle.tenant_messages.proofs.Finding.{json_finds, json_refuses}
use Rattle.tenant_resources.proofs.TestForms.{finds_test}
use Rattle.tenant_resources.proofs.laws.tests_are_of_the_form.Goals as goal

pub returns-clause-value : goal.returns-clause-value
returns-clause-value c d t = (finds_test.says d t, finds_test.found d t)

pub returns-clause-body : goal.returns-clause-body
returns-clause-body c = json_finds finds_test

pub returns-clause-refused : goal.returns-clause-refused
returns-clause-refused c = json_refuses finds_test
