use Rattle.std.proofs.Common.{◌≡◌, drop}
use Rattle.crush_types.specs.DeviceValues.{values_of}
use Rattle.crush_types.proofs.by_device.DeviceVec.of.Given as goal

-- the pairs from this place on are in the table
abbrev pub invariant-loop-place : goal.invariant-loop-place
invariant-loop-place g l = l.table ≡ values_of l.fn.rest (drop l.place l.given)
