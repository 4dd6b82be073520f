use Rattle.crush_laws.proofs.Showing.{is_shown, same_shown}
use Rattle.crush_laws.proofs.written.each_body_is_shown.Goals as goal

pub returns-clause-some : goal.returns-clause-some
returns-clause-some c = is_shown

pub returns-clause-same : goal.returns-clause-same
returns-clause-same c = same_shown
