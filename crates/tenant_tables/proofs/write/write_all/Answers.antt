use Rattle.std.proofs.Common.{Err, ap, arith}
use Rattle.sqlite.specs.Held.{state}
use Rattle.sqlite.specs.State.{HasCleanDisk}
use Rattle.tenant_tables.proofs.Committing.{ready_after, refused_after}
use Rattle.tenant_tables.proofs.write.write_all.Goals as goal

pub returns-in-Err-clause-refused : goal.returns-in-Err-clause-refused
returns-in-Err-clause-refused g c clean other =
    let old = state g.S.Store c.args.conn.now in
    let mid = state g.S.Store c.run_all.new.conn in
    let new = state g.S.Store c.refusal.new.conn in
    let middle : HasCleanDisk mid = omega (arith, clean, c.refusal.ensures.survives.clean) in
    let early : HasCleanDisk old = omega (arith, middle, c.run_all.ensures.crash.clean) in
    let same = c.refusal.ensures.open clean (λ failed. other (ap Err failed)) in
    refused_after old mid new (c.requires.ready early) (c.in-Err.ensures.kept middle) same c.run_all.ensures.crash.limit c.refusal.ensures.survives.limit (λ db may. g.met.S.Store.settled c.refusal.new.conn.store db same.0.is_open may)

pub returns-in-Ok-clause-ready : goal.returns-in-Ok-clause-ready
returns-in-Ok-clause-ready g c clean =
    let old = state g.S.Store c.args.conn.now in
    let early : HasCleanDisk old = omega (arith, clean, c.run_all.ensures.crash.clean) in
    let done = c.in-Ok.ensures.done clean in
    ready_after old (state g.S.Store c.run_all.new.conn) done.0 (c.requires.ready early) done.2 (c.requires.sound early done.0 done.1) c.run_all.ensures.crash.limit
