use Rattle.std.proofs.Common.{◌≡◌, ◌++◌, take}
use Rattle.crush_report.specs.Private.Touching.{touches_of}
use Rattle.crush_report.proofs.touches.add_pairs.Given as goal

abbrev pub invariant-loop-device : goal.invariant-loop-device
invariant-loop-device l = l.pairs.items ≡ l.initial.pairs.items ++ touches_of l.group (take l.device-index l.devices)
