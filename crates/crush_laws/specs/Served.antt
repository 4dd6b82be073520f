-- Clients that were served, one by one.
use Rattle.std.specs.Prelude.{ℕ, ◌≡◌, List, [], Option, Some, None}
use Rattle.crush_server.specs.crush_http.specs.Serving.{ServesInput}
use Rattle.crush_server.specs.crush_http.specs.declared.connection.ConnectionEnd.{ConnectionEnd}
use Rattle.tenant_core.specs.tenant_messages.specs.declared.call.Call.{Call}
use Rattle.tenant_core.specs.tenant_messages.specs.declared.reply.Reply.{Reply}

-- a client: what it sent and what it got, its calls and the replies to them
pub record Client : Type 0 where
  pub input : List ℕ
  pub output : List ℕ
  pub calls : List Call
  pub replies : List Reply

-- the client was served on a connection of its own: its input has just these calls, and its output
-- is what is due with just these replies
abbrev pub IsServed : Client → Type 0
IsServed client =
    (ended : ConnectionEnd) × ServesInput (λ calls replies. (calls ≡ client.calls) × (replies ≡ client.replies)) client.input None (Some []) (Some client.output) ended

-- these calls and replies, and no others
abbrev pub AreJust : List Call → List Reply → List Call → List Reply → Type 0
AreJust calls replies cs rs = (cs ≡ calls) × (rs ≡ replies)
