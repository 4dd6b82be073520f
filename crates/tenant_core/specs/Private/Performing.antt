-- A request that was carried out on a store.
use Rattle.std.specs.Prelude.{ℕ, ◌≡◌, ◌≢◌, ◌⊎◌, ◌↔◌, List, Option}
use Rattle.tenant_messages.specs.Reply.{reply}
use Rattle.tenant_core.specs.States.{Found, HasState, Outcomes, Shows, States}
use Rattle.tenant_core.specs.Effects.{after_effect}
use Rattle.tenant_core.specs.Step.{decision}
use Rattle.tenant_messages.specs.declared.reply.Reply.{Reply}
use Rattle.tenant_core.specs.Request.{Request}
use Rattle.tenant_core.specs.declared.decision.Decision.{Decision}
use Rattle.tenant_state.specs.State.{TenantState}

-- the state that was found decided the reply, and the state that the tenant has since; the state of
-- every other tenant is unchanged
pub record Performs (r : Request) (old new : States) (replied : Reply) : Type 0 where
  pub state : Option TenantState
  pub found : old r.tenant state
  pub reply : replied ≡ reply (decision r state).answer
  pub left : new r.tenant (after_effect (decision r state).effect state)
  pub others : (t : List ℕ) (s : Option TenantState) → t ≢ r.tenant → (old t s ↔ new t s)

-- the state that was found decided the effect and the reply
pub record Decides (r : Request) (old : States) (d : Decision) : Type 0 where
  pub state : Option TenantState
  pub found : old r.tenant state
  pub effect : d.effect ≡ (decision r state).effect
  pub reply : d.reply ≡ reply (decision r state).answer

-- a crash while a request is carried out leaves each name as it was, or the tenant with the state
-- that the decision gives
abbrev pub LeavesRequest : Request → States → Outcomes → Type 0
LeavesRequest r old left =
    (t : List ℕ) (found : Found) → left t found
    → Shows old t found ⊎ ((t ≡ r.tenant) × (s : Option TenantState) × old t s × (found ≡ HasState (after_effect (decision r s).effect s)))

-- a name has one state at most
abbrev pub HasOneState : States → Type 0
HasOneState states = (t : List ℕ) (s u : Option TenantState) → states t s → states t u → s ≡ u
