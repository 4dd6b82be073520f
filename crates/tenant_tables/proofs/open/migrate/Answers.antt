use Rattle.std.proofs.Common.{subst, arith}
use Rattle.std.proofs.lemmas.Result.{on_ok_weaker}
use Rattle.sqlite.specs.Effect.{Database}
use Rattle.sqlite.specs.Held.{state}
use Rattle.sqlite.specs.State.{HasCleanDisk}
use Rattle.tenant_tables.specs.Opened.{IsMigrated}
use Rattle.tenant_tables.proofs.open.migrate.Goals as goal

pub returns-clause-done : goal.returns-clause-done
returns-clause-done g c clean =
    let old = state g.S.Store c.args.conn.now in
    let mid = state g.S.Store c.adopt.new.conn in
    let middle : HasCleanDisk mid = omega (arith, clean, c.replace.ensures.crash.clean) in
    let early : HasCleanDisk old = omega (arith, middle, c.adopt.ensures.survives.clean) in
    let stays = c.in_ok-adopt.ensures.same middle in
    on_ok_weaker c.replace.result (λ done. (
      done.0,
      subst (λ (d : Database). IsMigrated d done.0) stays.now done.1,
      record { was_open = c.requires.open early; is_open = done.2.is_open; now = done.2.now; committed = done.2.committed },
    )) (c.replace.ensures.done clean)
