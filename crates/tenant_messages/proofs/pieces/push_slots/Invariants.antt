use Rattle.std.proofs.Common.{◌≡◌, ◌∷◌, ◌++◌, false, length, map, string_bytes}
use Rattle.serde_json.specs.View.{items_of}
use Rattle.serde_json.specs.Written.{items_text}
use Rattle.tenant_messages.specs.Slots.{slot_json}
use Rattle.tenant_messages.proofs.pieces.push_slots.Given as goal

-- the text so far with the rest of the list is the text before the loop with the whole list
abbrev pub invariant-loop-rest : goal.invariant-loop-rest
invariant-loop-rest l =
    string_bytes l.text ++ items_text l.later (items_of (map slot_json l.rest)) ≡ string_bytes l.fn.text ++ (l.before ++ 91 ∷ items_text false (items_of (map slot_json l.slots)))

abbrev pub decreases-loop-rest : goal.decreases-loop-rest
decreases-loop-rest l = length l.rest
