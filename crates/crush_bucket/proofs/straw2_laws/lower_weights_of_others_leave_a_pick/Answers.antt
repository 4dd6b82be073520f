use Rattle.crush_bucket.proofs.Changes.{lowered}
use Rattle.crush_bucket.proofs.straw2_laws.lower_weights_of_others_leave_a_pick.Goals as goal

pub returns : goal.returns
returns c = lowered
