use Rattle.std.proofs.Common.{◌≡◌, map, drop}
use Rattle.crush_map.specs.Faults.{first_of}
use Rattle.crush_text.specs.Judging.{declared_step_fault}
use Rattle.crush_text.proofs.judge.Judge.steps_fault.Given as goal

abbrev pub invariant-loop-step : goal.invariant-loop-step
invariant-loop-step l = first_of (map (declared_step_fault l.self) (drop l.step-index l.steps)) ≡ first_of (map (declared_step_fault l.self) l.steps)
