use Rattle.std.proofs.Common.{◌≡◌, Some, arith, subst}
use Rattle.std.specs.BTreeMap.{get_by_text}
use Rattle.std.proofs.lemmas.Result.{err_from_is_err_and}
use Rattle.sqlite.specs.Effect.{Database}
use Rattle.sqlite.specs.Held.{state}
use Rattle.sqlite.specs.State.{HasCleanDisk}
use Rattle.tenant_tables.specs.Rows.{StandsFor}
use Rattle.tenant_core.specs.tenant_state.specs.State.{TenantState, inventory_of}
use Rattle.tenant_store.specs.Judged.{AreJudged}
use Rattle.tenant_store.proofs.Refusing.{same_fault, live_at_ok}
use Rattle.tenant_store.proofs.Judging.{has_inventory, no_tenant}
use Rattle.tenant_store.proofs.reading.load.Goals as goal

pub returns-in_ok-load_tenant-in-Some-clause-found : goal.returns-in_ok-load_tenant-in-Some-clause-found
returns-in_ok-load_tenant-in-Some-clause-found g c clean =
    let mid : HasCleanDisk (state g.S.Store c.find.new.self.0) = omega (arith, clean, c.load_tenant.ensures.crash.clean) in
    let same = c.in_ok-tenant.ensures.reads.kept mid (live_at_ok c.find.new.self.1 c.in_ok-tenant.field-0 c.in_ok-tenant.ensures.reads.latches) in
    let i = c.in_ok-load_tenant-in-Some.field-0.value in
    has_inventory (state g.S.Store c.args.tables.now.0).now.trees c.args.name.now i
    (subst (λ (d : Database). (s : TenantState) × StandsFor d.trees c.args.name.now (Some s) × (i ≡ inventory_of s)) same (c.in_ok-load_tenant-in-Some.ensures.found clean))

pub returns-in_ok-load_tenant-in-Some-clause-judged : goal.returns-in_ok-load_tenant-in-Some-clause-judged
returns-in_ok-load_tenant-in-Some-clause-judged g c clean =
    let mid : HasCleanDisk (state g.S.Store c.find.new.self.0) = omega (arith, clean, c.load_tenant.ensures.crash.clean) in
    let same = c.in_ok-tenant.ensures.reads.kept mid (live_at_ok c.find.new.self.1 c.in_ok-tenant.field-0 c.in_ok-tenant.ensures.reads.latches) in
    subst (λ (d : Database). AreJudged d.trees (get_by_text c.load_tenant.new.judged)) same (c.in_ok-load_tenant-in-Some.ensures.judged clean)

pub returns-in_err-tenant-clause-damaged : goal.returns-in_err-tenant-clause-damaged
returns-in_err-tenant-clause-damaged g c clean same =
    let p = err_from_is_err_and c.from_residual.result c.from_residual.ensures.1 in
    no_tenant (state g.S.Store c.args.tables.now.0).now.trees c.args.name.now (c.in_err-tenant.ensures.damaged clean (same_fault c.from_residual.result _ _ _ p.1 p.2 same))
