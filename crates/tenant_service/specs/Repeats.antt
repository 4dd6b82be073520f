-- Calls that have a request number, and what their repeats do.
use Rattle.std.specs.Prelude.{ℕ, ◌≡◌, ◌≢◌, ◌<◌, ◌≤◌, suc, List, take, slice_get, Option, Some, None, option_map, IsSome, Result, Ok, Err}
use Rattle.tenant_core.specs.Alone.{alone}
use Rattle.tenant_core.specs.Commands.{Command}
use Rattle.tenant_core.specs.Request.{Request, request_of}
use Rattle.tenant_core.specs.Step.{step}
use Rattle.tenant_core.specs.declared.request.Action.{Action}
use Rattle.tenant_core.specs.declared.request.Action.TheVariants as action
use Rattle.tenant_service.specs.History.{Kept, calls_of}
use Rattle.tenant_core.specs.tenant_messages.specs.declared.call.Call.{Call}
use Rattle.tenant_core.specs.tenant_messages.specs.declared.reply.Problem.{Problem}
use Rattle.tenant_core.specs.tenant_messages.specs.declared.reply.Reply.{Reply}
use Rattle.tenant_core.specs.tenant_state.specs.State.{TenantState}

-- ---- request numbers

abbrev pub command_in : Action → Option Command
command_in action.CreateTenant = None
command_in action.ShowTenant = None
command_in action.DropTenant = None
command_in (action.Command command) = Some command
command_in (action.Query query) = None

abbrev pub command_asked : Result Request Problem → Option Command
command_asked (Ok request) = command_in request.action
command_asked (Err problem) = None

-- the changing request of a call, if it is one
abbrev pub command_of : Call → Option Command
command_of call = command_asked (request_of call)

-- the request number of a call, if it has one
abbrev pub number_of : Call → Option (List ℕ)
number_of call = option_map (λ command. command.number) (command_of call)

-- ---- repeats

-- the state of the tenant just before the call at a place
abbrev pub state_before : Option TenantState → List Kept → ℕ → Option TenantState
state_before start kept k = (alone start (calls_of (take k kept))).state

-- the call at a place changes the state: it is accepted
abbrev pub IsAccepted : Option TenantState → List Kept → ℕ → Type 0
IsAccepted start kept k = state_before start kept (suc k) ≢ state_before start kept k

-- after the call at i and up to the call at j the tenant exists
abbrev pub Exists : Option TenantState → List Kept → ℕ → ℕ → Type 0
Exists start kept i j = (k : ℕ) → i < k → k ≤ j → IsSome (state_before start kept k)

-- two calls have one path and one body
abbrev pub AreAlike : Call → Call → Type 0
AreAlike c d = (c.path ≡ d.path) × (c.body ≡ d.body)

-- the call at j has the request number of the call at i, which was accepted, and the tenant wasn't
-- dropped between them
pub record Repeats (start : Option TenantState) (kept : List Kept) (i j : ℕ) (number : List ℕ) (first second : Kept) : Type 0 where
  pub later : i < j
  pub at_first : slice_get kept i ≡ Some first
  pub at_second : slice_get kept j ≡ Some second
  pub numbered : number_of first.call ≡ Some number
  pub same : number_of second.call ≡ Some number
  pub accepted : IsAccepted start kept i
  pub exists : Exists start kept i j

-- A numbered call acts once in a list of kept calls: where its number comes again, nothing changes;
-- and each acknowledged repeat with its path and its body has the definition's reply to it, so that
-- all of these are the same.
pub record ActsOnce (start : Option TenantState) (kept : List Kept) : Type 0 where
  pub once : (i j : ℕ) (number : List ℕ) (first second : Kept) → Repeats start kept i j number first second → state_before start kept (suc j) ≡ state_before start kept j
  pub reply : (i j : ℕ) (number : List ℕ) (first second : Kept) (r : Reply) → Repeats start kept i j number first second → AreAlike first.call second.call → second.reply ≡ Some r
      → r ≡ (step first.call (state_before start kept i)).reply
