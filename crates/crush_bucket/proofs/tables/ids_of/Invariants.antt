use Rattle.std.proofs.Common.{◌≡◌, map, take}
use Rattle.crush_bucket.proofs.tables.ids_of.Given as goal

abbrev pub invariant-loop-device : goal.invariant-loop-device
invariant-loop-device l = l.ids.items ≡ map (λ d. d.id) (take l.device-index l.devices)
