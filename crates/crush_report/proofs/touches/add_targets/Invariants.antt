use Rattle.std.proofs.Common.{◌≡◌, ◌||◌, ℕ, take}
use Rattle.crush_map.specs.Faults.{has_number}
use Rattle.crush_pool.specs.Exceptions.{targets_of}
use Rattle.crush_report.specs.Private.Touching.{AreOnce}
use Rattle.crush_report.proofs.touches.add_targets.Given as goal

abbrev pub invariant-loop-pair : goal.invariant-loop-pair
invariant-loop-pair l = record {
  each : (d : ℕ) → has_number l.devices.items d ≡ (has_number l.initial.devices.items d || has_number (targets_of (take l.pair-index l.pairs) l.group) d);
  once : AreOnce l.initial.devices.items → AreOnce l.devices.items;
}
