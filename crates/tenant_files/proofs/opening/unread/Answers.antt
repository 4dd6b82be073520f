use Rattle.std.proofs.Common.{sym}
use Rattle.tenant_files.proofs.opening.unread.Goals as goal

pub returns : goal.returns
returns g c = (c.in-Some.left, c.in-Some.is, sym c.into_files.ensures)
