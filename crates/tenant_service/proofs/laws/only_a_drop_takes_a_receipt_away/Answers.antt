use Rattle.tenant_service.proofs.Receipted.{gone, receipt_lasts}
use Rattle.tenant_service.proofs.laws.only_a_drop_takes_a_receipt_away.Goals as goal

pub returns-clause-stays : goal.returns-clause-stays
returns-clause-stays c = receipt_lasts

pub returns-clause-drops : goal.returns-clause-drops
returns-clause-drops c = gone
