use Rattle.std.proofs.Common.{◌≡◌, drop}
use Rattle.crush_map.specs.Faults.{steps_fault}
use Rattle.crush_map.proofs.known.SymbolTable.steps_fault.Given as goal

abbrev pub invariant-loop-step : goal.invariant-loop-step
invariant-loop-step l = steps_fault l.self (drop l.step-index l.steps) ≡ steps_fault l.self l.steps
