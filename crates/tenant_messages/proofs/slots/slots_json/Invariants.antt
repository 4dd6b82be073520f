use Rattle.std.proofs.Common.{◌≡◌, map, take}
use Rattle.serde_json.specs.View.{view}
use Rattle.tenant_messages.specs.Slots.{slot_json}
use Rattle.tenant_messages.proofs.slots.slots_json.Given as goal

-- the values of the slots so far
abbrev pub invariant-loop-slot : goal.invariant-loop-slot
invariant-loop-slot l = map view l.values.items ≡ map slot_json (take l.slot-index l.slots)
