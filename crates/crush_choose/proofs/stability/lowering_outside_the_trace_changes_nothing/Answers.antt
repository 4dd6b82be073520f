use Rattle.crush_choose.proofs.Staying.{run_stays, answer_stays, trace_stays}
use Rattle.crush_choose.proofs.stability.lowering_outside_the_trace_changes_nothing.Goals as goal

pub returns-clause-run : goal.returns-clause-run
returns-clause-run c = run_stays

pub returns-clause-answer : goal.returns-clause-answer
returns-clause-answer c = answer_stays

pub returns-clause-trace : goal.returns-clause-trace
returns-clause-trace c = trace_stays
