use Rattle.std.proofs.Common.{arith}
use Rattle.sqlite.specs.Held.{state}
use Rattle.sqlite.specs.State.{HasCleanDisk}
use Rattle.sqlite.proofs.StateLemmas.{survives_weaker}
use Rattle.tenant_tables.proofs.Bare.{makes_migrated}
use Rattle.tenant_tables.proofs.open.replace.Goals as goal

pub returns-in-Ok-clause-done : goal.returns-in-Ok-clause-done
returns-in-Ok-clause-done g c clean =
    let old = state g.S.Store c.args.conn.now in
    let early : HasCleanDisk old = omega (arith, clean, c.run_all-replaced.ensures.crash.clean) in
    let done = c.in-Ok.ensures.done clean in
    (done.0, makes_migrated g.S.Store c.args.conn.now (c.requires.first early) (c.requires.sound early) (c.requires.version early) done.0 done.1, done.2)

pub returns-in-Ok-clause-crash : goal.returns-in-Ok-clause-crash
returns-in-Ok-clause-crash g c =
    let old = state g.S.Store c.args.conn.now in
    survives_weaker old (state g.S.Store c.run_all-replaced.new.conn) _ _ (λ clean trees left.
    let early : HasCleanDisk old = omega (arith, clean, c.run_all-replaced.ensures.crash.clean) in
    (left.0, makes_migrated g.S.Store c.args.conn.now (c.requires.first early) (c.requires.sound early) (c.requires.version early) left.0 left.1, left.2)) c.run_all-replaced.ensures.crash

pub returns-in-Err-clause-crash : goal.returns-in-Err-clause-crash
returns-in-Err-clause-crash g c =
    let old = state g.S.Store c.args.conn.now in
    survives_weaker old (state g.S.Store c.run_all-replaced.new.conn) _ _ (λ clean trees left.
    let early : HasCleanDisk old = omega (arith, clean, c.run_all-replaced.ensures.crash.clean) in
    (left.0, makes_migrated g.S.Store c.args.conn.now (c.requires.first early) (c.requires.sound early) (c.requires.version early) left.0 left.1, left.2)) c.run_all-replaced.ensures.crash
