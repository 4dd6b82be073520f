use Rattle.crush_choose.proofs.OneTrace.{one_trace}
use Rattle.crush_choose.proofs.stability.a_run_has_one_trace.Goals as goal

pub returns : goal.returns
returns c = one_trace
