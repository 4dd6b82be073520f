use Rattle.std.proofs.Common.{◌≡◌, take, drop, fold}
use Rattle.crush_map.specs.declared.fault.Element.TheVariants.{Devices}
use Rattle.crush_map.specs.Faults.{first_in, device_fault, with_device}
use Rattle.crush_map.proofs.judge.judge_devices.Given as goal

abbrev pub invariant-loop-index : goal.invariant-loop-index
invariant-loop-index l = record {
  fault : first_in Devices device_fault with_device l.index l.known (drop l.index l.devices) ≡ first_in Devices device_fault with_device 0 l.fn.known l.devices;
  known : l.known ≡ fold with_device l.fn.known (take l.index l.devices);
}
