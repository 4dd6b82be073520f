use Rattle.sqlite.specs.Held.{state}
use Rattle.sqlite.proofs.StateLemmas.{survives_weaker}
use Rattle.tenant_tables.proofs.Bare.{makes_bare}
use Rattle.tenant_tables.proofs.open.make.Goals as goal

pub returns-in-Ok-clause-done : goal.returns-in-Ok-clause-done
returns-in-Ok-clause-done g c clean =
    let done = c.in-Ok.ensures.done clean in
    (done.0, makes_bare g.S.Store c.args.conn.now c.requires.none done.0 done.1, done.2)

pub returns-in-Ok-clause-crash : goal.returns-in-Ok-clause-crash
returns-in-Ok-clause-crash g c =
    survives_weaker (state g.S.Store c.args.conn.now) (state g.S.Store c.run_all-made.new.conn) _ _ (λ clean trees left. (left.0, makes_bare g.S.Store c.args.conn.now c.requires.none left.0 left.1, left.2)) c.run_all-made.ensures.crash

pub returns-in-Err-clause-crash : goal.returns-in-Err-clause-crash
returns-in-Err-clause-crash g c =
    survives_weaker (state g.S.Store c.args.conn.now) (state g.S.Store c.run_all-made.new.conn) _ _ (λ clean trees left. (left.0, makes_bare g.S.Store c.args.conn.now c.requires.none left.0 left.1, left.2)) c.run_all-made.ensures.crash
