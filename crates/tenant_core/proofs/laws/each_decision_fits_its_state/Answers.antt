use Rattle.tenant_core.proofs.Once.{decision_fits}
use Rattle.tenant_core.proofs.laws.each_decision_fits_its_state.Goals as goal

pub returns : goal.returns
returns c = decision_fits
