use Rattle.std.proofs.Common.{◌≡◌, ◌++◌, take}
use Rattle.std.specs.List.{flat_map}
use Rattle.crush_writing.specs.Canonical.{device_line}
use Rattle.crush_writing.proofs.write.write_devices.Given as goal

abbrev pub invariant-loop-device : goal.invariant-loop-device
invariant-loop-device l = l.out.items ≡ l.initial.out.items ++ flat_map device_line (take l.device-index l.devices)
