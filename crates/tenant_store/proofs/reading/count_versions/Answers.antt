use Rattle.std.proofs.Common.{length, arith, sym, ap, ◌∙◌}
use Rattle.std.specs.BTreeMap.{get_by_text}
use Rattle.std.proofs.lemmas.Result.{err_from_is_err_and}
use Rattle.sqlite.specs.Held.{state}
use Rattle.sqlite.specs.State.{HasCleanDisk}
use Rattle.tenant_core.specs.tenant_state.specs.State.{Inventory}
use Rattle.tenant_store.proofs.Refusing.{same_fault}
use Rattle.tenant_store.proofs.Judging.{no_rows, as_remembered, as_read}
use Rattle.tenant_store.proofs.reading.count_versions.Goals as goal

pub returns-in-Some-clause-found : goal.returns-in-Some-clause-found
returns-in-Some-clause-found g c clean s has =
    as_remembered (state g.S.Store c.args.tables.now.0).now.trees c.args.name.now c.args.tenant.now (c.requires.there clean).2 (get_by_text c.args.judged.now) c.in-Some.versions.now s (c.requires.judged clean) (sym c.in-Some.ensures.value) has

pub returns-clause-found : goal.returns-clause-found
returns-clause-found g c clean s has =
    let db = (state g.S.Store c.args.tables.now.0).now.trees in
    let early : HasCleanDisk (state g.S.Store c.args.tables.now.0) = omega (arith, clean, c.read_inventory.ensures.reads.crash.clean) in
    let rows = (c.in_ok-inventory.ensures.found clean).1 in
    c.newest.ensures ∙ (ap (λ (i : Inventory). length i.versions) c.deref.ensures ∙ as_read db c.args.name.now c.args.tenant.now (c.requires.there early).2 c.in_ok-inventory.inventory.value s rows has)

pub returns-in_err-inventory-clause-damaged : goal.returns-in_err-inventory-clause-damaged
returns-in_err-inventory-clause-damaged g c clean same =
    let p = err_from_is_err_and c.from_residual.result c.from_residual.ensures.1 in
    let db = (state g.S.Store c.args.tables.now.0).now.trees in
    let early : HasCleanDisk (state g.S.Store c.args.tables.now.0) = omega (arith, clean, c.read_inventory.ensures.reads.crash.clean) in
    let it = c.requires.there early in
    no_rows db c.args.name.now c.args.tenant.now it.2 (c.in_err-inventory.ensures.damaged clean (same_fault c.from_residual.result _ _ _ p.1 p.2 same)) it.0 it.1
