use Rattle.crush_choose.proofs.Staying.{changed_lowered}
use Rattle.crush_choose.proofs.stability.a_changed_answer_has_a_lowered_device_in_its_trace.Goals as goal

pub returns : goal.returns
returns c = changed_lowered
