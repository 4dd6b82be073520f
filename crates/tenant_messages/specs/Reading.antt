-- What was read from a path or a body, or why nothing was.
use Rattle.std.specs.Prelude.{◌≡◌, Option, Some, None, Result, Ok, Err, ⊤}
use Rattle.tenant_messages.specs.declared.reply.Problem.TheVariants.{BadRequest}
use Rattle.tenant_messages.specs.declared.reply.Refusal.{Refusal}
use Rattle.tenant_messages.specs.declared.reply.Refusal.TheVariants as refusal

-- a value is the one that the definition finds; a problem is `BadRequest`, and the definition then
-- finds none; instead of either, an allocation may fail
abbrev pub Reads : {A B : Type 0} → (A → B) → Result A Refusal → Option B → Type 0
Reads view (Ok a) found = found ≡ Some (view a)
Reads view (Err (refusal.Problem problem)) found = (found ≡ None) × (problem ≡ BadRequest)
Reads view (Err refusal.NoMemory) found = ⊤
