-- What only private clauses and proofs cite: how a session is served. No public clause depends on
-- it.
use Rattle.std.specs.Prelude.{ℕ, ◌≡◌, List, Bool, true, false, Option, Some, None}
use Rattle.tenant_core.specs.States.{States, Outcomes}
use Rattle.tenant_service.specs.Served.{LeavesSession}
use Rattle.tenant_core.specs.tenant_messages.specs.declared.call.Call.{Call}
use Rattle.tenant_core.specs.tenant_messages.specs.declared.reply.Reply.{Reply}

-- the doubt after the call at `place`, which did or didn't latch the store
abbrev pub doubt_after : Option ℕ → Bool → ℕ → Option ℕ
doubt_after (Some earlier) latched place = Some earlier
doubt_after None true place = Some place
doubt_after None false place = None

-- once the store is latched, the calls so far leave what they may
abbrev pub LeavesSoFar : States → Outcomes → Bool → List Call → List Reply → Option ℕ → Type 0
LeavesSoFar old left latched calls replies doubt = latched ≡ true → LeavesSession old left calls replies doubt
