-- The request of a call, or the problem of its first check that fails.
use Rattle.std.specs.Prelude.{ℕ, List, length, nat_lt, if◌then◌else◌, Option, Some, None, option_map, option_and_then, Result, Err, codes}
use Rattle.std.specs.Option.{ok_or}
use Rattle.crush_map.specs.Faults.{is_name}
use Rattle.tenant_core.specs.Commands.{IsCommand}
use Rattle.tenant_core.specs.Route.{read, route_of}
use Rattle.tenant_core.specs.Router.{target_of}
use Rattle.tenant_core.specs.Target.{Target, methods_in, parameter}
use Rattle.tenant_core.specs.declared.limits.TheConstants.{BODY_LIMIT}
use Rattle.tenant_core.specs.declared.request.Action.{Action}
use Rattle.tenant_core.specs.declared.request.Action.TheVariants.{CreateTenant, ShowTenant, DropTenant, Command, Query}
use Rattle.tenant_core.specs.declared.route.Route.{Route}
use Rattle.tenant_messages.specs.declared.call.Call.{Call}
use Rattle.tenant_messages.specs.declared.reply.Problem.{Problem}
use Rattle.tenant_messages.specs.declared.reply.Problem.TheVariants.{BadRequest, NoPath, Method, TooLarge}

-- an action as it is read from a call
abbrev pub IsAction : Action → Type 0
IsAction CreateTenant = Unit {0}
IsAction ShowTenant = Unit {0}
IsAction DropTenant = Unit {0}
IsAction (Command command) = IsCommand command
IsAction (Query query) = Unit {0}

-- what is asked of a tenant
pub record Request : Type 0 where
  pub tenant : List ℕ
  pub action : Action

-- ---- the tenant

abbrev pub if_name : List ℕ → Option (List ℕ)
if_name text = if is_name text then Some text else None

-- the name of the tenant: the parameter `t` of every route
abbrev pub tenant_in : Target → Option (List ℕ)
tenant_in target = option_and_then if_name (parameter (codes "t") target)

-- ---- all of it: the checks in their order

-- the tenant's name and what the route asks for, read in this order
abbrev pub in_form : Target → List ℕ → Route → Option Request
in_form target body route =
    option_and_then (λ tenant. option_map (λ action. record { tenant = tenant; action = action }) (read route target body)) (tenant_in target)

abbrev pub on_route : Target → List ℕ → Option Route → Result Request Problem
on_route target body None = Err Method
on_route target body (Some route) = ok_or (in_form target body route) BadRequest

abbrev pub on_target : List ℕ → List ℕ → Option Target → Result Request Problem
on_target method body None = Err NoPath
on_target method body (Some target) = on_route target body (route_of method (methods_in target))

-- the length of the body comes before all other checks
unfoldable pub request_of : Call → Result Request Problem
request_of call =
    if nat_lt BODY_LIMIT (length call.body) then Err TooLarge
    else on_target call.method call.body (target_of call.path)
