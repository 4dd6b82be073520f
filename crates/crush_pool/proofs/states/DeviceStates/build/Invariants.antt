use Rattle.std.proofs.Common.{◌≡◌, drop, true}
use Rattle.crush_map.specs.crush_types.specs.DeviceValues.{values_of}
use Rattle.crush_pool.specs.States.{ups}
use Rattle.crush_pool.proofs.states.DeviceStates.build.Given as goal

-- the states from the place on
abbrev pub invariant-loop-place : goal.invariant-loop-place
invariant-loop-place l = l.by_device ≡ values_of true (drop l.place (ups l.states))
