use Rattle.std.proofs.Common.{◌≡◌, map, take}
use Rattle.tenant_resources.specs.Devices.{changed}
use Rattle.tenant_resources.proofs.devices.all_changed.Given as goal

-- the states after the changes so far
abbrev pub invariant-loop-change : goal.invariant-loop-change
invariant-loop-change l = l.all.items ≡ map (changed l.states) (take l.change-index l.changes)
