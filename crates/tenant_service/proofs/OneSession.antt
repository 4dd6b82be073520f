-- One call, or none, as a session of a store.
use Rattle.std.proofs.Common.{◌≡◌, ℕ, List, [], ◌∷◌, Bool, true, false, Option, refl}
use Rattle.tenant_core.proofs.Running.{run_latched, run_none, run_one}
use Rattle.tenant_core.specs.States.{Found, LeavesStep, Outcomes, Serves, Shows, States}
use Rattle.tenant_core.specs.StoreReply.{IsUnavailable}
use Rattle.tenant_service.proofs.Served.{session_latched, session_open}
use Rattle.tenant_service.specs.Served.{IsSession}
use Rattle.tenant_core.specs.tenant_messages.specs.declared.call.Call.{Call}
use Rattle.tenant_core.specs.tenant_messages.specs.declared.reply.Reply.{Reply}
use Rattle.tenant_core.specs.tenant_state.specs.State.{TenantState}

-- a store that serves a call: it gives each name one state at most, and a crash leaves what it
-- shows, while it isn't latched
pub record Rests (latched : Bool) (states : States) (left : Outcomes) : Type 0 where
  pub one : latched ≡ false → (t : List ℕ) (s u : Option TenantState) → states t s → states t u → s ≡ u
  pub settled : latched ≡ false → (t : List ℕ) (found : Found) → left t found → Shows states t found

-- one call as a session
pub one_session : (latched : Bool) (old new : States) (kept left : Outcomes) (call : Call) (reply : Reply) → Rests false old kept → Rests latched new left
    → (latched ≡ false → Serves call old new reply) → (latched ≡ true → IsUnavailable reply) → (latched ≡ true → LeavesStep call old left) → IsSession old left (call ∷ []) (reply ∷ [])
one_session false old new kept left call reply before after serves silent crash =
    session_open old new left (call ∷ []) (reply ∷ []) (run_one old new call reply (serves refl)) (after.one refl) (after.settled refl)
one_session true old new kept left call reply before after serves silent crash =
    session_latched old old new left [] [] call reply (run_none false old old (λ _ t s. (λ has. has, λ has. has))) (before.one refl)
    (run_latched true old old new [] [] call reply (run_none true old old (λ no. let both : true ≡ false = no in cc)) (silent refl)) (silent refl) (crash refl)

-- no call as a session
pub no_session : (old : States) (left : Outcomes) → Rests false old left → IsSession old left [] []
no_session old left rests = session_open old old left [] [] (run_none false old old (λ _ t s. (λ has. has, λ has. has))) (rests.one refl) (rests.settled refl)
