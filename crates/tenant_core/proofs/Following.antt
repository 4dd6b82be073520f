-- A reply follows the step of its call, for the states of all tenants.
use Rattle.std.proofs.Common.{◌≡◌, ◌≢◌, ◌⊎◌, inl, inr, ℕ, List, Bool, true, false, if◌then◌else◌, Option, Some, None, option_map, Result, Ok, Err, IfOk, option_and_then, refl, ap, sym, subst, ◌∙◌, arith, length, nat_lt}
use Rattle.std.proofs.lemmas.Slice.Eq.{bytes_eq-Decides}
use Rattle.std.specs.Option.{ok_or}
use Rattle.std.specs.Str.{bytes_eq}
use Rattle.tenant_messages.specs.declared.call.Call.{Call}
use Rattle.tenant_messages.specs.declared.reply.Reply.{Reply}
use Rattle.tenant_messages.specs.declared.reply.Problem.{Problem}
use Rattle.tenant_messages.specs.declared.reply.Problem.TheVariants.{BadRequest, TooLarge}
use Rattle.tenant_core.specs.declared.request.Action.{Action}
use Rattle.tenant_core.specs.declared.limits.TheConstants.{BODY_LIMIT}
use Rattle.tenant_core.specs.Request.{Request, tenant_in, on_route, on_target, request_of}
use Rattle.tenant_core.specs.declared.route.Route.{Route}
use Rattle.tenant_state.specs.State.{TenantState}
use Rattle.tenant_messages.specs.declared.StoreFault.{StoreFault}
use Rattle.tenant_messages.specs.Reply.{refused, reply}
use Rattle.tenant_core.specs.Route.{read, route_of}
use Rattle.tenant_core.specs.Router.{target_of}
use Rattle.tenant_core.specs.Target.{Target, methods_in}
use Rattle.tenant_core.specs.States.{States, HasState, IsDamaged, LeavesStep, Outcomes, Same, Follows, Shows}
use Rattle.tenant_core.specs.Effects.{after_effect}
use Rattle.tenant_core.specs.Step.{Step, decision, decision_or_refusal, step_of, step, tenant_of, is_of}
use Rattle.tenant_core.specs.StoreReply.{store_damaged, refused_or_damaged}
use Rattle.tenant_core.specs.Private.Performing.{LeavesRequest, Performs, HasOneState}
use Rattle.tenant_core.proofs.Replying.{reply-answered, damaged-answered}

-- ---- whose call it is

-- a request is of the name that the path has
named-by : (tenant : Option (List ℕ)) (a : Option Action) (r : Request)
    → ok_or (option_and_then (λ t. option_map (λ a. record { tenant = t; action = a }) a) tenant) BadRequest ≡ Ok r → tenant ≡ Some r.tenant
named-by (Some t) (Some a) r h = let same : record { tenant = t; action = a } ≡ r = cc in ap (λ (q : Request). Some q.tenant) same
named-by (Some t) None r h = cc
named-by None a r h = cc

named : (method body : List ℕ) (found : Option Target) (r : Request) → on_target method body found ≡ Ok r → option_and_then tenant_in found ≡ Some r.tenant
named method body None r h = cc
named method body (Some target) r h = named-at (route_of method (methods_in target)) h
  where
    named-at : (o : Option Route) → on_route target body o ≡ Ok r → tenant_in target ≡ Some r.tenant
    named-at None h = cc
    named-at (Some route) h = named-by (tenant_in target) (read route target body) r h

named-small : (call : Call) (r : Request) (large : Bool) → (if large then Err TooLarge else on_target call.method call.body (target_of call.path)) ≡ Ok r → tenant_of call ≡ Some r.tenant
named-small call r true h = cc
named-small call r false h = named call.method call.body (target_of call.path) r h

tenant_of-request : (call : Call) (r : Request) → request_of call ≡ Ok r → tenant_of call ≡ Some r.tenant
unfolding request_of
tenant_of-request call r h = named-small call r (nat_lt BODY_LIMIT (length call.body)) h

is_of-request : (call : Call) (r : Request) (t : List ℕ) → request_of call ≡ Ok r → is_of t call ≡ bytes_eq r.tenant t
is_of-request call r t h = rw (tenant_of-request call r h) refl

pub own-name : (call : Call) (r : Request) (t : List ℕ) → request_of call ≡ Ok r → is_of t call ≡ true → r.tenant ≡ t
own-name call r t h is = grind (arith, bytes_eq-Decides r.tenant t, sym (is_of-request call r t h) ∙ is)

other-name : (call : Call) (r : Request) (t : List ℕ) → request_of call ≡ Ok r → is_of t call ≡ false → t ≢ r.tenant
other-name call r t h not = λ same.
    let both : true ≡ false = sym (grind (arith, bytes_eq-Decides r.tenant t, same)) ∙ sym (is_of-request call r t h) ∙ not in cc

-- a call of a tenant is not a call of none
some_tenant : (call : Call) (r : Request) → request_of call ≡ Ok r → tenant_of call ≡ None → ⊥
some_tenant call r h none = let both : Some r.tenant ≡ None = sym (tenant_of-request call r h) ∙ none in cc

-- ---- a call that is refused by itself

-- a call that is refused by itself has one step on every state, which leaves the state unchanged
pub step-refused : (call : Call) (p : Problem) (s : Option TenantState) → request_of call ≡ Err p → step call s ≡ record { state = s; reply = reply (refused p) }
unfolding step
step-refused call p s h = ap (λ r. step_of (decision_or_refusal r s) s) h

pub follows_refusal : (call : Call) (old : States) (p : Problem) (replied : Reply) → request_of call ≡ Err p → replied ≡ reply (refused p) → Follows call old old replied
follows_refusal call old p replied h same = record {
  answered = rw same (reply-answered (refused p));
  own = λ t s is has. rw (step-refused call p s h) (same, has);
  damaged = λ t is bad. (same ∙ sym (ap refused_or_damaged h), bad);
  others = λ t s not. (λ has. has, λ has. has);
  nobody = λ none. rw (step-refused call p None h) same;
}

-- ---- a request that was carried out

step-request : (call : Call) (r : Request) (s : Option TenantState) → request_of call ≡ Ok r → step call s ≡ step_of (decision r s) s
unfolding step
step-request call r s h = ap (λ q. step_of (decision_or_refusal q s) s) h

pub follows_request : (call : Call) (old new : States) (r : Request) (replied : Reply) → request_of call ≡ Ok r → HasOneState old → Performs r old new replied → Follows call old new replied
follows_request call old new r replied h one done = record {
  answered = rw done.reply (reply-answered (decision r done.state).answer);
  own = λ t s is has.
      let name = own-name call r t h is in
      let same : done.state ≡ s = one r.tenant done.state s done.found (subst (λ u. old u s) (sym name) has) in
      rw (step-request call r s h, ← same, ← name) (done.reply, done.left);
  damaged = λ t is bad. absurd (bad done.state (subst (λ u. old u done.state) (own-name call r t h is) done.found));
  others = λ t s not. done.others t s (other-name call r t h not);
  nobody = λ none. absurd (some_tenant call r h none);
}

pub follows_result : (call : Call) (old new : States) (r : Request) (result : Result Reply StoreFault) → request_of call ≡ Ok r → HasOneState old → IfOk result (Performs r old new) → IfOk result (Follows call old new)
follows_result call old new r (Ok replied) h one done = follows_request call old new r replied h one done
follows_result call old new r (Err fault) h one done = tt

-- a crash while it is carried out
pub leaves_request : (call : Call) (old : States) (left : Outcomes) (r : Request) → request_of call ≡ Ok r → LeavesRequest r old left → LeavesStep call old left
leaves_request call old left r h leaves t found may = at (leaves t found may)
  where
    at : Shows old t found ⊎ ((t ≡ r.tenant) × (s : Option TenantState) × old t s × (found ≡ HasState (after_effect (decision r s).effect s)))
        → Shows old t found ⊎ ((is_of t call ≡ true) × (s : Option TenantState) × old t s × (found ≡ HasState (step call s).state))
    at (inl shows) = inl shows
    at (inr changed) = inr (
      is_of-request call r t h ∙ grind (arith, bytes_eq-Decides r.tenant t, changed.0),
      changed.1,
      changed.2,
      changed.3 ∙ ap (λ (x : Step). HasState x.state) (sym (step-request call r changed.1 h)),
    )

-- ---- a damaged tenant

pub follows_damaged : (call : Call) (old new : States) (r : Request) → request_of call ≡ Ok r → IsDamaged old r.tenant → Same old new → Follows call old new store_damaged
follows_damaged call old new r h bad same = record {
  answered = damaged-answered;
  own = λ t s is has. absurd (bad s (subst (λ u. old u s) (sym (own-name call r t h is)) has));
  damaged = λ t is none. (sym (ap refused_or_damaged h), λ s has. none s ((same t s).1 has));
  others = λ t s not. same t s;
  nobody = λ none. absurd (some_tenant call r h none);
}

-- ---- whatever the store did

-- ---- a call of no tenant

refusal-by : (call : Call) (asked : Result Request Problem) → request_of call ≡ asked → tenant_of call ≡ None → (s : Option TenantState)
    → ((step call s).reply ≡ (step call None).reply) × ((step call s).state ≡ s)
refusal-by call (Ok r) h none s = absurd (some_tenant call r h none)
refusal-by call (Err p) h none s = rw (step-refused call p s h, step-refused call p None h) (refl, refl)

pub step-of_nobody : (call : Call) → tenant_of call ≡ None → (s : Option TenantState) → ((step call s).reply ≡ (step call None).reply) × ((step call s).state ≡ s)
step-of_nobody call none s = refusal-by call (request_of call) refl none s
