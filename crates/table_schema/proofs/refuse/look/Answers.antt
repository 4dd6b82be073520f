use Rattle.sqlite.specs.Held.{state}
use Rattle.table_schema.proofs.Looking.{only_fails, lost, passed, rests_failed}
use Rattle.table_schema.proofs.refuse.look.Goals as goal

pub returns-in_err-_nothing-clause-rests : goal.returns-in_err-_nothing-clause-rests
returns-in_err-_nothing-clause-rests g c clean =
    let old = state g.S.Store c.args.conn.now in
    let new = state g.S.Store c.prepare.new.self in
    rests_failed old new _ (only_fails old new _ (c.in_err-_nothing.ensures.err clean))

pub returns-in_err-_nothing-clause-lost : goal.returns-in_err-_nothing-clause-lost
returns-in_err-_nothing-clause-lost g c clean =
    let old = state g.S.Store c.args.conn.now in
    let new = state g.S.Store c.prepare.new.self in
    passed _ _ _ c.from_residual.ensures.1 (lost old new _ (only_fails old new _ (c.in_err-_nothing.ensures.err clean)))
