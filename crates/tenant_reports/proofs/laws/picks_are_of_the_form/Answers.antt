use Rattle.tenant_messages.proofs.Finding.{json_finds, json_refuses}
use Rattle.tenant_reports.proofs.PickForms.{finds_pick}
use Rattle.tenant_reports.proofs.laws.picks_are_of_the_form.Goals as goal

pub returns-clause-value : goal.returns-clause-value
returns-clause-value c d p = (finds_pick.says d p, finds_pick.found d p)

pub returns-clause-body : goal.returns-clause-body
returns-clause-body c = json_finds finds_pick

pub returns-clause-refused : goal.returns-clause-refused
returns-clause-refused c = json_refuses finds_pick
