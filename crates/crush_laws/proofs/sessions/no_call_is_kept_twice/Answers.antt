use Rattle.crush_laws.proofs.Kept.{kept_once}
use Rattle.crush_laws.proofs.sessions.no_call_is_kept_twice.Goals as goal

pub returns : goal.returns
returns c = kept_once
