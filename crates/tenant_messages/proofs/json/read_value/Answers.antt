use Rattle.std.proofs.Common.{◌≡◌, ◌∙◌, false, true, refl}
use Rattle.tenant_messages.proofs.Bodies.{value_of-text}
use Rattle.tenant_messages.proofs.json.read_value.Goals as goal

-- a text that has a value gives it
pub returns-in-Ok : goal.returns-in-Ok
returns-in-Ok c = value_of-text c.args.body.now c.utf8.body ∙ c.in-Ok.ensures.ok

-- without one, and if no allocation fails, it is a bad request
pub returns-in-Err-2 : goal.returns-in-Err-2
returns-in-Err-2 c = (
  value_of-text c.args.body.now c.utf8.body ∙ c.in-Err.ensures.err (λ memory. let both : false ≡ true = c.if-is_memory.ensures.1 memory in cc),
  refl,
)
