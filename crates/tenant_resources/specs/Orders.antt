-- Orders: what changing requests ask for.
use Rattle.serde_json.specs.Data.{Data}
use Rattle.serde_json.specs.View.{view}
use Rattle.tenant_messages.specs.declared.reply.SuccessStatus.{SuccessStatus}
use Rattle.tenant_resources.specs.declared.accepted.Acceptance as accepted
use Rattle.tenant_state.specs.Made.{made_of}
use Rattle.tenant_state.specs.State.{Product}

-- an order that is accepted: what it makes, and the status and the body of its reply
pub record Acceptance : Type 0 where
  pub made : Product
  pub status : SuccessStatus
  pub body : Data

-- the order that the code's type says
abbrev pub accepted_of : accepted.Acceptance → Acceptance
accepted_of a = record { made = made_of a.made; status = a.status; body = view a.body }
