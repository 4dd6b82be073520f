use Rattle.std.proofs.Common.{◌≡◌, ◌∙◌, ap, subst, sym}
use Rattle.tenant_core.specs.States.{IsDamaged}
use Rattle.tenant_core.specs.StoreReply.{is_failed}
use Rattle.tenant_service.proofs.Kept.{problem_given}
use Rattle.tenant_service.proofs.Performed.{kept_damaged}
use Rattle.tenant_core.proofs.Following.{follows_result, follows_refusal, follows_damaged, leaves_request, own-name}
use Rattle.tenant_service.proofs.service.reply_or_fault.Goals as goal

pub returns-in-Ok-clause-ok : goal.returns-in-Ok-clause-ok
returns-in-Ok-clause-ok g c = λ honest.
    let given = c.read_request.ensures in
    let is = c.in-Ok.is in
    let request = rw is at given in
    follows_result _ (g.T.TenantStore.has_state c.args.store.now) (g.T.TenantStore.has_state c.perform.new.store) c.in-Ok.request c.perform.result
    request (λ t s u. g.met.T.TenantStore.one_state c.args.store.now t s u (c.perform.ensures.honest honest) c.requires.open) (c.perform.ensures.ok honest)

pub returns-in-Ok-clause-damaged : goal.returns-in-Ok-clause-damaged
returns-in-Ok-clause-damaged g c = λ honest bad.
    let given = c.read_request.ensures in
    let is = c.in-Ok.is in
    let request = rw is at given in
    let works = c.perform.ensures.latch ∙ ap is_failed bad in
    let kept = rw bad at (c.perform.ensures.err honest works) in
    follows_damaged _ (g.T.TenantStore.has_state c.args.store.now) (g.T.TenantStore.has_state c.perform.new.store) c.in-Ok.request
    request (c.perform.ensures.damaged honest bad) (g.met.T.TenantStore.keeps_states c.args.store.now c.perform.new.store honest c.requires.open works kept)

pub returns-in-Ok-clause-rows : goal.returns-in-Ok-clause-rows
returns-in-Ok-clause-rows g c = λ honest works t own bad.
    let given = c.read_request.ensures in
    let is = c.in-Ok.is in
    let request = rw is at given in
    kept_damaged c.in-Ok.request (g.T.TenantStore.has_state c.args.store.now) (g.T.TenantStore.has_state c.perform.new.store) c.perform.result _
    (c.perform.ensures.ok honest) (c.perform.ensures.err honest works)
    (subst (λ u. IsDamaged (g.T.TenantStore.has_state c.args.store.now) u) (sym (own-name _ c.in-Ok.request t request own)) bad)

pub returns-in-Ok-clause-crash : goal.returns-in-Ok-clause-crash
returns-in-Ok-clause-crash g c = λ honest latched.
    let given = c.read_request.ensures in
    let is = c.in-Ok.is in
    let request = rw is at given in
    leaves_request _ (g.T.TenantStore.has_state c.args.store.now) (g.T.TenantStore.may_leave c.perform.new.store) c.in-Ok.request request (c.perform.ensures.crash honest latched)

pub returns-in_ok-refused-in-Err-Problem-clause-ok : goal.returns-in_ok-refused-in-Err-Problem-clause-ok
returns-in_ok-refused-in-Err-Problem-clause-ok g c = λ honest.
    let problem = problem_given c.read_request.result c.in-Err-Problem.field-0 c.in-Err-Problem.problem _ c.in-Err-Problem.is c.in-Err-Problem.field-0-is c.read_request.ensures in
    follows_refusal _ (g.T.TenantStore.has_state c.args.store.now) c.in-Err-Problem.problem c.in_ok-refused-in-Err-Problem.field-0 problem c.in_ok-refused-in-Err-Problem.ensures
