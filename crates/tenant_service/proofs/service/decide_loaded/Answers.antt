use Rattle.std.proofs.Common.{◌∙◌}
use Rattle.tenant_core.specs.tenant_state.specs.State.{inventory_of}
use Rattle.tenant_service.proofs.Kept.{deref_of}
use Rattle.tenant_service.proofs.Performed.{is_there, leaves_before}
use Rattle.tenant_service.proofs.service.decide_loaded.Goals as goal

-- the load left the states unchanged
pub returns-in_err-receipt-clause-crash : goal.returns-in_err-receipt-clause-crash
returns-in_err-receipt-clause-crash g c = λ honest latched.
    let store = g.met.T.TenantStore in
    let states = g.T.TenantStore.has_state in
    let start = c.in_err-receipt.ensures.honest honest in
    let works = c.in_ok-inventory.ensures.latch in
    let same = store.keeps_states c.args.store.now c.load.new.self start c.requires.open works (c.in_ok-inventory.ensures.same start works) in
    leaves_before (states c.args.store.now) (states c.load.new.self) (g.T.TenantStore.may_leave c.receipt_of.new.store) same (c.in_err-receipt.ensures.crash honest latched)

pub returns-clause-decided : goal.returns-clause-decided
returns-clause-decided g c = rw (← c.request.view_is) (λ honest.
    let store = g.met.T.TenantStore in
    let start = c.in_ok-receipt.ensures.honest honest in
    let works = c.in_ok-inventory.ensures.latch in
    let same = store.keeps_states c.args.store.now c.load.new.self start c.requires.open works (c.in_ok-inventory.ensures.same start works) in
    let found = c.in_ok-inventory.ensures.found start in
    let s = found.0 in
    let there = c.is_some.ensures ∙ is_there inventory_of (λ r. r.value) c.in_ok-inventory.inventory s found.2 in
    let receipt = c.in_ok-receipt.ensures.found honest s ((same c.request.inside.tenant.now s).0 found.1) there in
    let has = deref_of c.in_ok-inventory.inventory c.as_deref.result c.as_deref.ensures.cases ∙ found.2 in
    let left = deref_of c.in_ok-receipt.receipt c.as_deref-2.result c.as_deref-2.ensures.cases ∙ receipt in
    record { state = s; found = found.1; effect = c.in_ok-decide.ensures.effect s has left; reply = c.in_ok-decide.ensures.reply s has left })
