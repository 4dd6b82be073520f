use Rattle.std.proofs.Common.{◌≡◌, ◌++◌, drop}
use Rattle.std.specs.List.{filter_map}
use Rattle.crush_text.specs.Judging.{step_of}
use Rattle.crush_text.proofs.judge.Judge.steps_of.Given as goal

abbrev pub invariant-loop-step : goal.invariant-loop-step
invariant-loop-step l = l.kept.items ++ filter_map (step_of l.self.draft) (drop l.step-index l.steps) ≡ filter_map (step_of l.self.draft) l.steps
