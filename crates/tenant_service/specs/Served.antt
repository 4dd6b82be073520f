-- What a service says of a session that it served.
use Rattle.std.specs.Prelude.{ℕ, ◌≡◌, List, Bool, false, Option}
use Rattle.tenant_core.specs.States.{States, Outcomes, Found, HasState, MeetsDefinition}
use Rattle.tenant_service.specs.History.{Session, IsSoundFor, MayLeave}
use Rattle.tenant_core.specs.tenant_messages.specs.declared.call.Call.{Call}
use Rattle.tenant_core.specs.tenant_messages.specs.declared.reply.Reply.{Reply}
use Rattle.tenant_core.specs.tenant_state.specs.State.{TenantState}

abbrev pub session : (List ℕ → Option TenantState) → List Call → List Reply → Option ℕ → Session
session found calls replies doubt = record { found = found; calls = calls; replies = replies; doubt = doubt }

-- whatever states were found, the session is sound for each tenant with such a state
abbrev pub IsSound : States → List Call → List Reply → Option ℕ → Type 0
IsSound old calls replies doubt = (found : List ℕ → Option TenantState) (t : List ℕ) → old t (found t) → IsSoundFor t (session found calls replies doubt)

-- all that an opening may find of each such tenant after a crash is a state, and no damaged data:
-- one that this session may leave
abbrev pub LeavesSession : States → Outcomes → List Call → List Reply → Option ℕ → Type 0
LeavesSession old left calls replies doubt =
    (found : List ℕ → Option TenantState) (t : List ℕ) (next : Found) → old t (found t) → left t next
    → (s : Option TenantState) × (next ≡ HasState s) × MayLeave t (session found calls replies doubt) s

-- the calls and replies are a sound session, which leaves what it may leave
pub record IsSession (old : States) (left : Outcomes) (calls : List Call) (replies : List Reply) : Type 0 where
  pub doubt : Option ℕ
  pub sound : IsSound old calls replies doubt
  pub crash : LeavesSession old left calls replies doubt

-- the calls were served as the definition says, by a store that was and is latched, or not; where
-- it wasn't latched before, they and the replies are a session
pub record ServesSession (was is : Bool) (old new : States) (left : Outcomes) (calls : List Call) (replies : List Reply) : Type 0 where
  pub meets : MeetsDefinition is old new calls replies
  pub session : was ≡ false → IsSession old left calls replies
