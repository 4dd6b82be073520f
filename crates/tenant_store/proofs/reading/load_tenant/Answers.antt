use Rattle.std.proofs.Common.{arith, subst}
use Rattle.std.proofs.lemmas.Result.{err_from_is_err_and}
use Rattle.sqlite.specs.Effect.{Database}
use Rattle.sqlite.specs.Held.{state}
use Rattle.sqlite.specs.State.{HasCleanDisk}
use Rattle.tenant_tables.specs.Changes.{HasReceipts}
use Rattle.tenant_core.specs.tenant_state.specs.Receipts.{Receipts}
use Rattle.tenant_store.proofs.Refusing.{same_fault, live_at_ok}
use Rattle.tenant_store.proofs.Judging.{is_whole, no_rows}
use Rattle.tenant_store.proofs.reading.load_tenant.Goals as goal

pub returns-clause-found : goal.returns-clause-found
returns-clause-found g c clean =
    let db = (state g.S.Store c.args.tables.now.0).now.trees in
    let mid : HasCleanDisk (state g.S.Store c.read_inventory.new.tables.0) = omega (arith, clean, c.judge.ensures.crash.clean) in
    let early : HasCleanDisk (state g.S.Store c.args.tables.now.0) = omega (arith, mid, c.read_inventory.ensures.reads.crash.clean) in
    let same = c.in_ok-inventory.ensures.reads.kept mid (live_at_ok c.read_inventory.new.tables.1 c.in_ok-inventory.inventory c.in_ok-inventory.ensures.reads.latches) in
    let found = c.in_ok-inventory.ensures.found mid in
    is_whole db c.args.name.now c.args.tenant.now (c.requires.names early) c.in_ok-inventory.inventory.value found.0 found.1
    (subst (λ (d : Database). (receipts : Receipts) × HasReceipts d.trees c.args.tenant.now receipts) same (c.in_ok-judge.ensures.has clean))

pub returns-in_err-inventory-clause-damaged : goal.returns-in_err-inventory-clause-damaged
returns-in_err-inventory-clause-damaged g c clean same s =
    let p = err_from_is_err_and c.from_residual.result c.from_residual.ensures.1 in
    let db = (state g.S.Store c.args.tables.now.0).now.trees in
    let early : HasCleanDisk (state g.S.Store c.args.tables.now.0) = omega (arith, clean, c.read_inventory.ensures.reads.crash.clean) in
    no_rows db c.args.name.now c.args.tenant.now (c.requires.names early) (c.in_err-inventory.ensures.damaged clean (same_fault c.from_residual.result _ _ _ p.1 p.2 same)) s
