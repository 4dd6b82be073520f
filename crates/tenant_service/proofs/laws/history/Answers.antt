use Rattle.tenant_service.proofs.Explaining.{explained}
use Rattle.tenant_service.proofs.Repeating.{acts_once}
use Rattle.tenant_service.specs.History.{joined}
use Rattle.tenant_service.proofs.laws.history.Goals as goal

pub returns : goal.returns
returns c t first later h =
    let whole = explained t first later h in
    (whole.0, whole.1, acts_once (first.found t) (joined whole.0) whole.1.replies)
