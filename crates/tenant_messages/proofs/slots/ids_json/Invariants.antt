use Rattle.std.proofs.Common.{◌≡◌, map, take}
use Rattle.serde_json.specs.View.{view}
use Rattle.tenant_messages.specs.Reply.{natural}
use Rattle.tenant_messages.proofs.slots.ids_json.Given as goal

-- the values of the ids so far
abbrev pub invariant-loop-id : goal.invariant-loop-id
invariant-loop-id l = map view l.values.items ≡ map natural (take l.id-index l.ids)
