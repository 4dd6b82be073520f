use Rattle.std.proofs.Common.{arith, subst}
use Rattle.std.proofs.lemmas.Result.{err_from_is_err_and}
use Rattle.sqlite.specs.Held.{state}
use Rattle.sqlite.specs.State.{HasCleanDisk}
use Rattle.table_schema.specs.Found.{Names}
use Rattle.tenant_store.proofs.Judging.{not_absent, there}
use Rattle.tenant_store.proofs.Refusing.{same_fault}
use Rattle.tenant_store.proofs.reading.tenant_of.Goals as goal

pub returns-in-None-clause-damaged : goal.returns-in-None-clause-damaged
returns-in-None-clause-damaged g c clean same =
    let early : HasCleanDisk (state g.S.Store c.args.tables.now.0) = omega (arith, clean, c.find.ensures.reads.crash.clean) in
    let it = c.requires.there early (c.find.ensures.ready early) in
    let db = (state g.S.Store c.args.tables.now.0).now.trees in
    not_absent db c.args.name.now it.0 it.1 (subst (Names db c.args.name.now) c.in-None.is (c.in_ok-tenant.ensures.found clean))

pub returns-in_err-tenant-clause-damaged : goal.returns-in_err-tenant-clause-damaged
returns-in_err-tenant-clause-damaged g c clean same =
    let p = err_from_is_err_and c.from_residual.result c.from_residual.ensures.1 in
    let early : HasCleanDisk (state g.S.Store c.args.tables.now.0) = omega (arith, clean, c.find.ensures.reads.crash.clean) in
    let it = c.requires.there early (c.find.ensures.ready early) in
    there (state g.S.Store c.args.tables.now.0).now.trees c.args.name.now it.0 it.1 (c.in_err-tenant.ensures.damaged clean (same_fault c.from_residual.result _ _ _ p.1 p.2 same))
