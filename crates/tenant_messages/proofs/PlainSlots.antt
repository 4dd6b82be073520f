-- JSON of what rules answer has no number with a point or an exponent.
use Rattle.std.proofs.Common.{◌≡◌, ◌||◌, ℕ, ℤ, pos, negsuc, List, [], ◌∷◌, map, Bool, true, false, Option, Some, None, refl}
use Rattle.serde_json.specs.Data.{number}
use Rattle.serde_json.specs.Find.{of_integer}
use Rattle.serde_json.specs.View.{items_of}
use Rattle.serde_json.specs.Written.{has_float, items_have_float}
use Rattle.crush_map.specs.crush_types.specs.declared.ItemId.{ItemId}
use Rattle.tenant_messages.specs.Reply.{natural}
use Rattle.tenant_messages.specs.Slots.{slot_json}

integer_plain : (z : ℤ) → has_float (number (of_integer z)) ≡ false
integer_plain (pos n) = refl
integer_plain (negsuc n) = refl

pub slot_plain : (slot : Option ItemId) → has_float (slot_json slot) ≡ false
slot_plain None = refl
slot_plain (Some item) = integer_plain item.0

pub neither : (a b : Bool) → a ≡ false → b ≡ false → (a || b) ≡ false
neither true b h k = h
neither false b h k = k

pub slots_plain : (slots : List (Option ItemId)) → items_have_float (items_of (map slot_json slots)) ≡ false
slots_plain [] = refl
slots_plain (slot ∷ slots) = neither (has_float (slot_json slot)) (items_have_float (items_of (map slot_json slots))) (slot_plain slot) (slots_plain slots)

pub ids_plain : (ids : List ℕ) → items_have_float (items_of (map natural ids)) ≡ false
ids_plain [] = refl
ids_plain (id ∷ ids) = ids_plain ids
