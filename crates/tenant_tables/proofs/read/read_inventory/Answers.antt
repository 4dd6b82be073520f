use mir.Val.{SFits}
use mir.Syntax.{w64}
use Rattle.std.proofs.Common.{◌∙◌, map, of_z, to_z, rules, arith, refl, sym, subst}
use Rattle.std.proofs.lemmas.Int.{to_z-of_z}
use Rattle.std.proofs.lemmas.Result.{err_from_is_err_and}
use Rattle.sqlite.specs.Held.{state}
use Rattle.table_schema.specs.Values.{exception_row}
use Rattle.table_schema.specs.Found.{ListsBy, Precedes}
use Rattle.table_schema.specs.Holds.{of_tenant}
use Rattle.table_schema.specs.Layout.{exceptions_table}
use Rattle.tenant_tables.specs.Changes.{HasRows}
use Rattle.tenant_tables.specs.Lists.{AreRowsOf}
use Rattle.tenant_tables.proofs.Listed.{kept_by, listed_by, same_tenant, worded, same_fault, not_versions, not_states, not_pools, not_exceptions, are_its_rows, has_rows_listed}
use Rattle.tenant_tables.proofs.read.read_inventory.Goals as goal

pub returns-in_err-versions-clause-damaged : goal.returns-in_err-versions-clause-damaged
returns-in_err-versions-clause-damaged g c = λ clean damaged i is has.
    let fits : SFits w64 c.args.tenant.now.id = search rules in
    let p = err_from_is_err_and c.from_residual.result c.from_residual.ensures.1 in
    let its = same_tenant (λ db t. HasRows db t i) (state g.S.Store c.args.tables.now.0).now _ c.args.tenant.now fits refl has in
    not_versions _ (worded c.args.tenant.now) i is its c.canonical_texts_are_ascii.ensures.utf8 (c.in_err-versions.ensures.damaged clean (same_fault c.from_residual.result _ _ _ p.1 p.2 damaged))

pub returns-in_err-devices-clause-damaged : goal.returns-in_err-devices-clause-damaged
returns-in_err-devices-clause-damaged g c = λ clean damaged i is has.
    let fits : SFits w64 c.args.tenant.now.id = search rules in
    let one = kept_by g.S.Store _ _ _ c.in_ok-versions.ensures.reads (omega (arith, clean, c.in_err-devices.ensures.reads.crash.clean)) in
    let p = err_from_is_err_and c.from_residual-in_err-devices.result c.from_residual-in_err-devices.ensures.1 in
    let its = same_tenant (λ db t. HasRows db t i) _ _ c.args.tenant.now fits (sym one.1) has in
    not_states _ (worded c.args.tenant.now) i is its (c.in_err-devices.ensures.damaged clean (same_fault c.from_residual-in_err-devices.result _ _ _ p.1 p.2 damaged))

pub returns-in_err-pools-clause-damaged : goal.returns-in_err-pools-clause-damaged
returns-in_err-pools-clause-damaged g c = λ clean damaged i is has.
    let fits : SFits w64 c.args.tenant.now.id = search rules in
    let two = kept_by g.S.Store _ _ _ c.in_ok-devices.ensures.reads (omega (arith, clean, c.in_err-pools.ensures.reads.crash.clean)) in
    let one = kept_by g.S.Store _ _ _ c.in_ok-versions.ensures.reads two.0 in
    let p = err_from_is_err_and c.from_residual-in_err-pools.result c.from_residual-in_err-pools.ensures.1 in
    let its = same_tenant (λ db t. HasRows db t i) _ _ c.args.tenant.now fits (sym (two.1 ∙ one.1)) has in
    not_pools _ (worded c.args.tenant.now) i is its (c.in_err-pools.ensures.damaged clean (same_fault c.from_residual-in_err-pools.result _ _ _ p.1 p.2 damaged))

pub returns-in_err-exceptions-clause-damaged : goal.returns-in_err-exceptions-clause-damaged
returns-in_err-exceptions-clause-damaged g c = λ clean damaged i is has.
    let fits : SFits w64 c.args.tenant.now.id = search rules in
    let three = kept_by g.S.Store _ _ _ c.in_ok-pools.ensures.reads (omega (arith, clean, c.in_err-exceptions.ensures.reads.crash.clean)) in
    let two = kept_by g.S.Store _ _ _ c.in_ok-devices.ensures.reads three.0 in
    let one = kept_by g.S.Store _ _ _ c.in_ok-versions.ensures.reads two.0 in
    let p = err_from_is_err_and c.from_residual-in_err-exceptions.result c.from_residual-in_err-exceptions.ensures.1 in
    let its = same_tenant (λ db t. HasRows db t i) _ _ c.args.tenant.now fits (sym (three.1 ∙ (two.1 ∙ one.1))) has in
    not_exceptions _ (worded c.args.tenant.now) i is its (c.in_err-exceptions.ensures.damaged clean (same_fault c.from_residual-in_err-exceptions.result _ _ _ p.1 p.2 damaged))

pub returns-clause-damaged : goal.returns-clause-damaged
returns-clause-damaged g c = λ clean damaged i is has.
    let versions = c.in_ok-versions.versions.items in
    let devices = c.in_ok-devices.devices.items in
    let pools = c.in_ok-pools.pools.items in
    let exceptions = c.deref.result.now in
    let fits : SFits w64 c.args.tenant.now.id = search rules in
    let fits-epoch : SFits w64 c.args.tenant.now.epoch = search rules in
    let listed = listed_by g.S.Store _ _ _ _ _ _ _ _ c.args.tenant.now.id versions devices pools exceptions (to_z-of_z w64 c.args.tenant.now.id fits) c.in_ok-versions.ensures.reads c.in_ok-devices.ensures.reads c.in_ok-pools.ensures.reads
    (omega (arith, clean, c.in_ok-exceptions.ensures.reads.crash.clean)) c.in_ok-versions.ensures.found c.in_ok-devices.ensures.found c.in_ok-pools.ensures.found
    (subst (λ l. ListsBy Precedes (of_tenant exceptions_table (to_z w64 (of_z w64 c.args.tenant.now.id)) (state g.S.Store c.list_of-3.new.self.0).now.trees) (map exception_row l)) (sym c.deref.ensures.value) (c.in_ok-exceptions.ensures.found clean)) in
    let rows = are_its_rows _ c.args.tenant.now i is has versions devices pools exceptions listed in
    c.in_ok-inventory.ensures.none c.in-None.is i is (subst (λ e. AreRowsOf i e versions devices pools exceptions) (sym (to_z-of_z w64 c.args.tenant.now.epoch fits-epoch)) rows)

pub returns-in-Some-clause-found : goal.returns-in-Some-clause-found
returns-in-Some-clause-found g c = λ clean.
    let versions = c.in_ok-versions.versions.items in
    let devices = c.in_ok-devices.devices.items in
    let pools = c.in_ok-pools.pools.items in
    let exceptions = c.deref.result.now in
    let fits : SFits w64 c.args.tenant.now.id = search rules in
    let fits-epoch : SFits w64 c.args.tenant.now.epoch = search rules in
    let listed = listed_by g.S.Store _ _ _ _ _ _ _ _ c.args.tenant.now.id versions devices pools exceptions (to_z-of_z w64 c.args.tenant.now.id fits) c.in_ok-versions.ensures.reads c.in_ok-devices.ensures.reads c.in_ok-pools.ensures.reads
    (omega (arith, clean, c.in_ok-exceptions.ensures.reads.crash.clean)) c.in_ok-versions.ensures.found c.in_ok-devices.ensures.found c.in_ok-pools.ensures.found
    (subst (λ l. ListsBy Precedes (of_tenant exceptions_table (to_z w64 (of_z w64 c.args.tenant.now.id)) (state g.S.Store c.list_of-3.new.self.0).now.trees) (map exception_row l)) (sym c.deref.ensures.value) (c.in_ok-exceptions.ensures.found clean)) in
    let i = c.in-Some.inventory.value in
    let it = rw c.in-Some.is at c.in_ok-inventory.ensures.some in
    let are = subst (λ n. AreRowsOf i n versions devices pools exceptions) (to_z-of_z w64 c.args.tenant.now.epoch fits-epoch) it.1 in
    (it.0, has_rows_listed (state g.S.Store c.args.tables.now.0).now.trees c.args.tenant.now i versions devices pools exceptions listed are)

-- parts that the tactic finds one at a time
pub returns-in_err-exceptions-clause-reads : goal.returns-in_err-exceptions-clause-reads
returns-in_err-exceptions-clause-reads g c = record { full = search rules; kept = search rules; latches = search rules; crash = search rules }

pub returns-in_err-inventory-clause-reads : goal.returns-in_err-inventory-clause-reads
returns-in_err-inventory-clause-reads g c = record { full = search rules; kept = search rules; latches = search rules; crash = search rules }

pub returns-clause-reads : goal.returns-clause-reads
returns-clause-reads g c = record { full = search rules; kept = search rules; latches = search rules; crash = search rules }

pub returns-in-Some-clause-reads : goal.returns-in-Some-clause-reads
returns-in-Some-clause-reads g c = record { full = search rules; kept = search rules; latches = search rules; crash = search rules }
