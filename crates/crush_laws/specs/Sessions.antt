-- Sessions place by place: which call was acknowledged, and which is in doubt.
use Rattle.std.specs.Prelude.{ℕ, ◌≡◌, ◌≢◌, ◌⊎◌, List, slice_get, take, true, false, Option, Some, None}
use Rattle.tenant_core.specs.Alone.{alone, calls_answered}
use Rattle.tenant_core.specs.Step.{is_of}
use Rattle.crush_server.specs.tenant_service.specs.History.{Kept, Session, acknowledged}
use Rattle.tenant_core.specs.tenant_messages.specs.declared.call.Call.{Call}
use Rattle.tenant_core.specs.tenant_messages.specs.declared.reply.Reply.{Reply}
use Rattle.tenant_core.specs.tenant_state.specs.State.{TenantState}

-- the call at `place` is the tenant's, and was acknowledged with `reply`
pub record IsAcknowledged (t : List ℕ) (session : Session) (place : ℕ) (call : Call) (reply : Reply) : Type 0 where
  pub called : slice_get session.calls place ≡ Some call
  pub replied : slice_get session.replies place ≡ Some reply
  pub own : is_of t call ≡ true
  pub answered : reply.status ≢ 503

-- the doubt is `place`, and `call` is the call there
pub record IsInDoubt (session : Session) (place : ℕ) (call : Call) : Type 0 where
  pub doubt : session.doubt ≡ Some place
  pub called : slice_get session.calls place ≡ Some call

-- no call of the tenant is in doubt: no call at all is, or one of another tenant
abbrev pub HasNoDoubtOf : List ℕ → Session → Type 0
HasNoDoubtOf t session = (place : ℕ) (call : Call) → IsInDoubt session place call → is_of t call ≡ false

-- the state that the tenant's acknowledged calls leave
abbrev pub after_acknowledged : List ℕ → Session → Option TenantState
after_acknowledged t session = (alone (session.found t) (acknowledged t session)).state

-- the state that the tenant's acknowledged calls before a place leave
abbrev pub before_place : List ℕ → Session → ℕ → Option TenantState
before_place t session place = (alone (session.found t) (calls_answered t (take place session.calls) (take place session.replies))).state

-- a kept call is the tenant's, and a call of the session: acknowledged with the kept reply, or in
-- doubt and kept without one
abbrev pub IsOfSession : List ℕ → Session → Kept → Type 0
IsOfSession t session kept =
    ((place : ℕ) × (reply : Reply) × IsAcknowledged t session place kept.call reply × (kept.reply ≡ Some reply))
    ⊎ ((place : ℕ) × IsInDoubt session place kept.call × (is_of t kept.call ≡ true) × (kept.reply ≡ None))
