-- A tenant's calls run alone: as if there were no other tenant and no store, and memory without
-- end.
use Rattle.std.specs.Prelude.{ℕ, ◌&&◌, ◌==◌, List, [], ◌∷◌, map, filter, zip, Bool, not, Option}
use Rattle.tenant_core.specs.Step.{step, is_of}
use Rattle.tenant_messages.specs.declared.call.Call.{Call}
use Rattle.tenant_messages.specs.declared.reply.Reply.{Reply}
use Rattle.tenant_state.specs.State.{TenantState}

-- ---- calls alone

-- what comes of some calls: a reply to each, in order, and the state that they leave
pub record Course : Type 0 where
  pub replies : List Reply
  pub state : Option TenantState

abbrev pub replied_first : Reply → Course → Course
replied_first reply course = record { replies = reply ∷ course.replies; state = course.state }

-- the steps of the calls, one after the other, begun with a state
abbrev pub alone : Option TenantState → List Call → Course
alone state [] = record { replies = []; state = state }
alone state (call ∷ calls) = let first = step call state in replied_first first.reply (alone first.state calls)

-- ---- a tenant's calls in a run, and the replies to them

-- the reply is any but 503
abbrev pub is_answered : Reply → Bool
is_answered reply = not (reply.status == 503)

-- of the calls with their replies, those of the tenant that were answered by anything but 503
abbrev pub answered : List ℕ → List Call → List Reply → List (Call × Reply)
answered tenant calls replies = filter (λ p. is_of tenant p.0 && is_answered p.1) (zip calls replies)

abbrev pub calls_answered : List ℕ → List Call → List Reply → List Call
calls_answered tenant calls replies = map (λ p. p.0) (answered tenant calls replies)

abbrev pub replies_answered : List ℕ → List Call → List Reply → List Reply
replies_answered tenant calls replies = map (λ p. p.1) (answered tenant calls replies)
