-- What the decision on a request does to the state of its tenant.
use Rattle.std.specs.Prelude.{◌≡◌, Option, Some, None, option_map, IsSome}
use Rattle.tenant_messages.specs.Reply.{Answer, refused}
use Rattle.tenant_state.specs.State as state
use Rattle.tenant_state.specs.State.{CanMake, Inventory, TenantState, fresh, after}
use Rattle.tenant_messages.specs.declared.reply.Problem.TheVariants.{NoTenant}
use Rattle.tenant_core.specs.declared.decision.Effect.{Effect}
use Rattle.tenant_core.specs.declared.decision.Effect.TheVariants.{Keep, Create, Change, Remove}

-- the state of a tenant after an effect, or none where the tenant is then absent
abbrev pub after_effect : Effect → Option TenantState → Option TenantState
after_effect Keep state = state
after_effect Create state = Some fresh
after_effect (Change change) state = option_map (after change) state
after_effect Remove state = None

-- the effect of a changing request: its change, if it is accepted
abbrev pub effect_of : Option state.Change → Effect
effect_of None = Keep
effect_of (Some change) = Change change

-- only an absent tenant is created, and only one that exists is removed, or changed, by a change
-- that its state can make
abbrev pub Fits : Effect → Option TenantState → Type 0
Fits Keep state = Unit {0}
Fits Create state = state ≡ None
Fits (Change change) None = ⊥
Fits (Change change) (Some state) = CanMake change state
Fits Remove state = IsSome state

-- ---- decisions

-- the decision on a request: its effect on the tenant, and its answer
pub record Decided : Type 0 where
  pub effect : Effect
  pub answer : Answer

abbrev pub decided : Effect → Answer → Decided
decided effect answer = record { effect = effect; answer = answer }

-- a decision that needs a tenant that exists
abbrev pub if_present : Option Inventory → (Inventory → Decided) → Decided
if_present None decide = decided Keep (refused NoTenant)
if_present (Some inventory) decide = decide inventory
