-- The status of replies.
use Rattle.std.proofs.Common.{◌≡◌, inl, inr, ℕ, ◌==◌, true, false, not, Option, refl, ap, sym, ◌∙◌}
use Rattle.tenant_messages.specs.declared.call.Call.{Call}
use Rattle.tenant_messages.specs.declared.reply.Reply.{Reply}
use Rattle.tenant_messages.specs.declared.reply.Problem.{Problem}
use Rattle.tenant_messages.specs.declared.reply.Problem.TheVariants.{BadRequest, NoPath, NoTenant, NoVersion, NoPool, NoGroup, NoRule, NoDevice, Method, Exists, RequestReused, RuleInUse, TooLarge, MapRefused, TenantLimit}
use Rattle.tenant_messages.specs.declared.reply.SuccessStatus.{SuccessStatus}
use Rattle.tenant_messages.specs.declared.reply.SuccessStatus.TheVariants.{Done, Created}
use Rattle.tenant_state.specs.State.{TenantState}
use Rattle.tenant_core.specs.Alone.{is_answered}
use Rattle.tenant_messages.specs.Reply.{Answer, refused, answered, repeated, problem_status, success_status, reply}
use Rattle.tenant_core.specs.Request.{request_of}
use Rattle.tenant_core.specs.Step.{step, decision_or_refusal}
use Rattle.tenant_core.specs.StoreReply.{IsUnavailable, store_failed, store_damaged}

-- neither 500 nor 503
record IsOfAnswer (n : ℕ) : Type 0 where
  pub no_500 : (n == 500) ≡ false
  pub no_503 : (n == 503) ≡ false

problem : (p : Problem) → IsOfAnswer (problem_status p)
problem BadRequest = record { no_500 = refl; no_503 = refl }
problem NoPath = record { no_500 = refl; no_503 = refl }
problem NoTenant = record { no_500 = refl; no_503 = refl }
problem NoVersion = record { no_500 = refl; no_503 = refl }
problem NoPool = record { no_500 = refl; no_503 = refl }
problem NoGroup = record { no_500 = refl; no_503 = refl }
problem NoRule = record { no_500 = refl; no_503 = refl }
problem NoDevice = record { no_500 = refl; no_503 = refl }
problem Method = record { no_500 = refl; no_503 = refl }
problem Exists = record { no_500 = refl; no_503 = refl }
problem RequestReused = record { no_500 = refl; no_503 = refl }
problem RuleInUse = record { no_500 = refl; no_503 = refl }
problem TooLarge = record { no_500 = refl; no_503 = refl }
problem (MapRefused fault) = record { no_500 = refl; no_503 = refl }
problem TenantLimit = record { no_500 = refl; no_503 = refl }

successful : (s : SuccessStatus) → IsOfAnswer (success_status s)
successful Done = record { no_500 = refl; no_503 = refl }
successful Created = record { no_500 = refl; no_503 = refl }

of_answer : (a : Answer) → IsOfAnswer (reply a).status
unfolding reply
of_answer (refused p) = problem p
of_answer (answered status body) = successful status
of_answer (repeated status body) = successful status

pub reply-answered : (a : Answer) → is_answered (reply a) ≡ true
reply-answered a = ap not (of_answer a).no_503

-- no step answers 500 or 503
pub step_status : (call : Call) (s : Option TenantState) → ((step call s).reply.status ≡ 500 → ⊥) × ((step call s).reply.status ≡ 503 → ⊥)
unfolding step
step_status call s =
    let status = of_answer (decision_or_refusal (request_of call) s).answer in (
      λ h. let both : false ≡ true = sym status.no_500 ∙ ap (λ n. n == 500) h in cc,
      λ h. let both : false ≡ true = sym status.no_503 ∙ ap (λ n. n == 503) h in cc,
    )

pub status-unavailable : (r : Reply) → IsUnavailable r → r.status ≡ 503
unfolding store_failed
status-unavailable r (inl h) = ap (λ (r : Reply). r.status) h
status-unavailable r (inr h) = ap (λ (r : Reply). r.status) h

pub damaged-answered : is_answered store_damaged ≡ true
unfolding store_damaged
damaged-answered = refl
