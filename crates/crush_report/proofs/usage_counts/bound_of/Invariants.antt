use Rattle.std.proofs.Common.{◌≡◌, take}
use Rattle.crush_report.specs.Private.Tallies.{id_bound}
use Rattle.crush_report.proofs.usage_counts.bound_of.Given as goal

abbrev pub invariant-loop-device : goal.invariant-loop-device
invariant-loop-device l = l.bound ≡ id_bound (take l.device-index l.devices)
