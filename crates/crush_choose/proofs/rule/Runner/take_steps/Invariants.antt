use Rattle.std.proofs.Common.{◌≡◌, ◌≤◌, length, drop}
use Rattle.crush_map.specs.declared.limits.TheConstants.{STEP_LIMIT}
use Rattle.crush_choose.specs.Rules.{after_steps, start}
use Rattle.crush_choose.specs.Private.Runs.{state_of, IsRun}
use Rattle.crush_choose.proofs.rule.Runner.take_steps.Given as goal

abbrev pub invariant-loop-k : goal.invariant-loop-k
invariant-loop-k l = record {
  rest : after_steps l.initial.scratch l.self.weights.now l.self.x l.self.size (state_of l.run) (drop l.k l.steps) ≡ after_steps l.initial.scratch l.self.weights.now l.self.x l.self.size (start l.initial.scratch.tunables) l.rule.steps;
  run : IsRun l.self.size l.k l.run;
  few : length l.steps ≤ STEP_LIMIT;
  same : l.scratch ≡ l.initial.scratch;
}
