use Rattle.std.proofs.Common.{◌≡◌, ◌≤◌, ◌-◌, ◌++◌, length, drop}
use Rattle.crush_choose.specs.Rules.{step_out}
use Rattle.crush_choose.specs.Private.Runs.{call_of}
use Rattle.crush_choose.proofs.plan.Plan.step_out.Given as goal

abbrev pub invariant-loop-slot : goal.invariant-loop-slot
invariant-loop-slot l = record {
  rest : l.rows.out ++ step_out l.initial.scratch l.self.weights.now (call_of l.self) (l.size - length l.rows.out) (drop l.slot-index l.working) ≡ step_out l.initial.scratch l.self.weights.now (call_of l.self) l.size l.working;
  room : length l.rows.out ≤ l.size;
  same : l.scratch ≡ l.initial.scratch;
}
