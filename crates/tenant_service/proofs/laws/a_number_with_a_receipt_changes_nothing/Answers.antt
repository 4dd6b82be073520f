use Rattle.tenant_service.proofs.Receipted.{changes_nothing}
use Rattle.tenant_service.proofs.laws.a_number_with_a_receipt_changes_nothing.Goals as goal

pub returns : goal.returns
returns c = changes_nothing
