use Rattle.std.proofs.Common.{◌∙◌}
use Rattle.tenant_state.proofs.Keeping.{copied_in}
use Rattle.tenant_state.proofs.receipts.Receipts.copy.Goals as goal

pub returns : goal.returns
returns c = copied_in c.self.inside.by_number.entries c.in_ok-clone.field-0.entries c.in_ok-clone.ensures.cases ∙ c.self.view_is
