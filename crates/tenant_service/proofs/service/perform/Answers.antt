use Rattle.std.proofs.Common.{◌≡◌, ◌∙◌, subst, sym}
use Rattle.tenant_core.specs.Effects.{Fits}
use Rattle.tenant_service.proofs.Performed.{leaves_decided, leaves_undecided, of_any, performed}
use Rattle.tenant_service.proofs.service.perform.Goals as goal

pub carry_out_effect-requires-clause-fits : goal.carry_out_effect-requires-clause-fits
carry_out_effect-requires-clause-fits g c = λ honest.
    let by = rw (← c.request.view_is) at (c.in_ok-decision.ensures.decided honest) in
    let works = c.in_ok-decision.ensures.latch in
    let same = g.met.T.TenantStore.keeps_states c.args.store.now c.decide_request.new.store honest c.requires.open works (c.in_ok-decision.ensures.same honest works) in (
      by.state,
      (same c.request.inside.tenant.now by.state).0 by.found,
      subst (λ e. Fits e by.state) (sym by.effect) (c.each_decision_fits_its_state.ensures c.request.inside.tenant.now c.request.inside.action by.state),
    )

pub returns-in_err-decision-clause-crash : goal.returns-in_err-decision-clause-crash
returns-in_err-decision-clause-crash g c = λ honest latched.
    leaves_undecided c.args.request.now (g.T.TenantStore.has_state c.args.store.now) (g.T.TenantStore.may_leave c.decide_request.new.store) (c.in_err-decision.ensures.crash honest latched)

pub returns-in_err-carry_out_effect-clause-err : goal.returns-in_err-carry_out_effect-clause-err
returns-in_err-carry_out_effect-clause-err g c = λ honest open_yet.
    let before = c.in_err-carry_out_effect.ensures.honest honest in
    of_any _ _ (g.met.T.TenantStore.keeps_both c.args.store.now c.decide_request.new.store c.carry_out_effect.new.store
    (c.in_ok-decision.ensures.same before c.in_ok-decision.ensures.latch) (c.in_err-carry_out_effect.ensures.err honest open_yet))

pub returns-in_err-carry_out_effect-clause-crash : goal.returns-in_err-carry_out_effect-clause-crash
returns-in_err-carry_out_effect-clause-crash g c = rw (← c.request.view_is) (λ honest latched.
    let before = c.in_err-carry_out_effect.ensures.honest honest in
    let by = rw (← c.request.view_is) at (c.in_ok-decision.ensures.decided before) in
    let works = c.in_ok-decision.ensures.latch in
    let same = g.met.T.TenantStore.keeps_states c.args.store.now c.decide_request.new.store before c.requires.open works (c.in_ok-decision.ensures.same before works) in
    let fits = subst (λ e. Fits e by.state) (sym by.effect) (c.each_decision_fits_its_state.ensures c.request.inside.tenant.now c.request.inside.action by.state) in
    leaves_decided _ (g.T.TenantStore.has_state c.args.store.now) (g.T.TenantStore.has_state c.decide_request.new.store) (g.T.TenantStore.may_leave c.carry_out_effect.new.store)
    c.in_ok-decision.decision by same (c.in_err-carry_out_effect.ensures.crash honest latched by.state ((same c.request.inside.tenant.now by.state).0 by.found) fits))

pub returns-clause-ok : goal.returns-clause-ok
returns-clause-ok g c = rw (← c.request.view_is) (λ honest.
    let before = c.in_ok-carry_out_effect.ensures.honest honest in
    let by = rw (← c.request.view_is) at (c.in_ok-decision.ensures.decided before) in
    let works = c.in_ok-decision.ensures.latch in
    let same = g.met.T.TenantStore.keeps_states c.args.store.now c.decide_request.new.store before c.requires.open works (c.in_ok-decision.ensures.same before works) in
    performed _ (g.T.TenantStore.has_state c.args.store.now) (g.T.TenantStore.has_state c.decide_request.new.store) (g.T.TenantStore.has_state c.carry_out_effect.new.store)
    c.in_ok-decision.decision by same
    (λ s has decided. c.in_ok-carry_out_effect.ensures.left honest s has
    (subst (λ e. Fits e s) (sym decided) (c.each_decision_fits_its_state.ensures c.request.inside.tenant.now c.request.inside.action s)))
    (c.in_ok-carry_out_effect.ensures.others honest c.in_ok-carry_out_effect.ensures.latch))
