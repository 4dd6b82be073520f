use Rattle.tenant_messages.proofs.Finding.{json_finds, json_refuses}
use Rattle.tenant_reports.proofs.CsvForms.{finds_changes}
use Rattle.tenant_reports.proofs.laws.device_csv_requests_are_of_the_form.Goals as goal

pub returns-clause-value : goal.returns-clause-value
returns-clause-value c d a = (finds_changes.says d a, finds_changes.found d a)

pub returns-clause-body : goal.returns-clause-body
returns-clause-body c = json_finds finds_changes

pub returns-clause-refused : goal.returns-clause-refused
returns-clause-refused c = json_refuses finds_changes
