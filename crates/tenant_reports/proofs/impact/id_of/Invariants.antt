use Rattle.std.proofs.Common.{◌≡◌, drop}
use Rattle.tenant_reports.specs.Impact.{id_of}
use Rattle.tenant_reports.proofs.impact.id_of.Given as goal

abbrev pub invariant-loop-device : goal.invariant-loop-device
invariant-loop-device l = id_of l.devices l.number ≡ id_of (drop l.device-index l.devices) l.number
