-- The service as one tenant sees it: one call on the state of that tenant. No other tenant, store
-- or table is in it.
use Rattle.std.specs.Prelude.{ℕ, List, Bool, false, Option, None, option_map, option_and_then, Result, Ok, Err}
use Rattle.std.specs.Option.{option_map_or}
use Rattle.std.specs.Str.{bytes_eq}
use Rattle.tenant_core.specs.Commands as commands
use Rattle.tenant_core.specs.Effects.{Decided, decided, after_effect, if_present}
use Rattle.tenant_core.specs.Queries as queries
use Rattle.tenant_core.specs.Request.{tenant_in, request_of, Request}
use Rattle.tenant_core.specs.Router.{target_of}
use Rattle.tenant_core.specs.Tenants as tenants
use Rattle.tenant_core.specs.declared.decision.Effect.TheVariants.{Keep, Remove}
use Rattle.tenant_core.specs.declared.request.Action.{Action}
use Rattle.tenant_core.specs.declared.request.Action.TheVariants.{CreateTenant, ShowTenant, DropTenant, Command, Query}
use Rattle.tenant_messages.specs.Reply.{refused, reply, success}
use Rattle.tenant_messages.specs.declared.call.Call.{Call}
use Rattle.tenant_messages.specs.declared.reply.Problem.{Problem}
use Rattle.tenant_messages.specs.declared.reply.Reply.{Reply}
use Rattle.tenant_state.specs.Receipts.{receipt_of}
use Rattle.tenant_state.specs.State.{Inventory, TenantState, inventory_of}
use Rattle.tenant_state.specs.declared.receipts.Receipt.{Receipt}

-- ---- one request

-- the decision on an action, from what its tenant has, or from its absence, and from the receipt of
-- its request number, if it has one. A query leaves the state unchanged
abbrev pub decision_from : List ℕ → Action → Option Inventory → Option Receipt → Decided
decision_from tenant CreateTenant found receipt = tenants.created_on tenant found
decision_from tenant ShowTenant found receipt = if_present found (λ inventory. decided Keep (success (tenants.summary_reply tenant inventory)))
decision_from tenant DropTenant found receipt = if_present found (λ inventory. decided Remove (success (tenants.removal_reply tenant)))
decision_from tenant (Command command) found receipt = if_present found (λ inventory. commands.on_receipt command inventory receipt)
decision_from tenant (Query query) found receipt = if_present found (λ inventory. decided Keep (queries.answer query inventory))

-- the receipt of an action's request number in a state
abbrev pub receipt_in : Action → Option TenantState → Option Receipt
receipt_in CreateTenant state = None
receipt_in ShowTenant state = None
receipt_in DropTenant state = None
receipt_in (Command command) state = option_and_then (λ s. receipt_of command.number s.receipts) state
receipt_in (Query query) state = None

-- the decision on an action, from the state of its tenant
abbrev pub decision_on : List ℕ → Action → Option TenantState → Decided
decision_on tenant action state = decision_from tenant action (option_map inventory_of state) (receipt_in action state)

abbrev pub decision : Request → Option TenantState → Decided
decision request state = decision_on request.tenant request.action state

-- ---- one call

-- what is refused changes nothing
abbrev pub decision_or_refusal : Result Request Problem → Option TenantState → Decided
decision_or_refusal (Ok request) state = decision request state
decision_or_refusal (Err problem) state = decided Keep (refused problem)

-- what a call does to the state of its tenant, and the reply to it
pub record Step : Type 0 where
  pub state : Option TenantState
  pub reply : Reply

abbrev pub step_of : Decided → Option TenantState → Step
step_of d state = record { state = after_effect d.effect state; reply = reply d.answer }

unfoldable pub step : Call → Option TenantState → Step
step call state = step_of (decision_or_refusal (request_of call) state) state

-- ---- whose call it is

-- the tenant of a call: the name in its path, where the path has a route
abbrev pub tenant_of : Call → Option (List ℕ)
tenant_of call = option_and_then tenant_in (target_of call.path)

abbrev pub is_of : List ℕ → Call → Bool
is_of tenant call = option_map_or (λ name. bytes_eq name tenant) (tenant_of call) false
