-- A step of an absent tenant.
use Rattle.std.proofs.Common.{◌≡◌, ◌∙◌, ℕ, List, Option, Some, None, Result, Ok, Err, refl, ap, sym}
use Rattle.tenant_core.specs.Effects.{after_effect}
use Rattle.tenant_core.specs.Request.{Request, request_of}
use Rattle.tenant_core.specs.Step.{decision_on, decision_or_refusal, step}
use Rattle.tenant_core.specs.declared.request.Action.{Action}
use Rattle.tenant_core.specs.declared.request.Action.TheVariants as action
use Rattle.tenant_core.specs.tenant_messages.specs.declared.call.Call.{Call}
use Rattle.tenant_core.specs.tenant_messages.specs.declared.reply.Problem.{Problem}
use Rattle.tenant_core.specs.tenant_state.specs.State.{TenantState, fresh}

-- a request made the tenant, and its state is `fresh`
abbrev IsMadeBy : Action → TenantState → Type 0
IsMadeBy a u = (a ≡ action.CreateTenant) × (u ≡ fresh)

made_action : (tenant : List ℕ) (a : Action) (u : TenantState) → after_effect (decision_on tenant a None).effect None ≡ Some u → IsMadeBy a u
made_action tenant action.CreateTenant u h = (refl, let e : fresh ≡ u = cc in sym e)
made_action tenant action.ShowTenant u h = cc
made_action tenant action.DropTenant u h = cc
made_action tenant (action.Command k) u h = cc
made_action tenant (action.Query q) u h = cc

pub record Made (q : Result Request Problem) (u : TenantState) : Type 0 where
  pub tenant : List ℕ
  pub is : q ≡ Ok (record { tenant = tenant; action = action.CreateTenant })
  pub anew : u ≡ fresh

made_request : (q : Result Request Problem) (u : TenantState) → after_effect (decision_or_refusal q None).effect None ≡ Some u → Made q u
made_request (Ok q) u h =
    let (is, anew) = made_action q.tenant q.action u h in
    record { tenant = q.tenant; is = ap (λ (a : Action). Ok (record { tenant = q.tenant; action = a })) is; anew = anew }
made_request (Err problem) u h = cc

pub made : (c : Call) (u : TenantState) → (step c None).state ≡ Some u → Made (request_of c) u
unfolding step
made c u h = made_request (request_of c) u h
