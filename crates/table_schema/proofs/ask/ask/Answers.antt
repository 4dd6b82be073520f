use Rattle.std.proofs.Common.{rules, Err, ap, arith}
use Rattle.sqlite.specs.Held.{state}
use Rattle.sqlite.specs.State.{HasCleanDisk}
use Rattle.sqlite.proofs.StateLemmas.{survives_then}
use Rattle.table_schema.specs.Layout.{store_schema}
use Rattle.table_schema.proofs.QueryFacts.{shown_unchanged, still_plain, commits_nothing, fails_rests}
use Rattle.table_schema.proofs.Asking.{remains, remains_after}
use Rattle.table_schema.proofs.Failing.{read_failed, only_memory}
use Rattle.table_schema.proofs.ask.ask.Goals as goal

pub returns-in-Ok-clause-reads : goal.returns-in-Ok-clause-reads
returns-in-Ok-clause-reads g c =
    let old = state g.S.Store c.args.conn.now in
    let new = state g.S.Store c.query_all.new.self in
    record {
      remains = λ clean _ _.
          let early : HasCleanDisk old = omega (arith, clean, c.query_all.ensures.survives.clean) in
          let ready = c.requires.ready early in
          remains old new ready (shown_unchanged c.args.sql.now _ old new c.in-Ok.rows.items (still_plain c.args.sql.now old (store_schema ready.schema.0) ready.schema.1 (c.requires.answered.plain ready.schema.0)) (c.in-Ok.ensures.ok clean)) c.query_all.ensures.survives.limit;
      failed = search rules;
      survives = commits_nothing c.args.sql.now _ old _ (λ clean. let ready = c.requires.ready (omega (arith, clean, c.query_all.ensures.survives.clean)) in still_plain c.args.sql.now old (store_schema ready.schema.0) ready.schema.1 (c.requires.answered.plain ready.schema.0)) c.query_all.ensures.survives;
      ended = search rules;
    }

pub returns-in-Err-clause-reads : goal.returns-in-Err-clause-reads
returns-in-Err-clause-reads g c =
    let old = state g.S.Store c.args.conn.now in
    let mid = state g.S.Store c.query_all.new.self in
    let new = state g.S.Store c.look_after.new.conn in
    let looked = c.look_after.ensures in
    let why = c.read_fault.ensures in
    record {
      remains = λ clean unseen failed.
          let middle : HasCleanDisk mid = omega (arith, clean, looked.survives.clean) in
          let early : HasCleanDisk old = omega (arith, middle, c.query_all.ensures.survives.clean) in
          let ready = c.requires.ready early in
          let memory = only_memory c.read_fault.result why.rows (λ is. unseen (ap Err is)) (λ is. failed (ap Err is)) in
          remains_after old mid new ready (fails_rests c.args.sql.now _ old mid c.in-Err.error (still_plain c.args.sql.now old (store_schema ready.schema.0) ready.schema.1 (c.requires.answered.plain ready.schema.0)) (c.in-Err.ensures.err middle))
          (looked.open clean _ (why.memory.0 memory)) c.query_all.ensures.survives.limit looked.survives.limit;
      failed = λ clean failed.
          let middle : HasCleanDisk mid = omega (arith, clean, looked.survives.clean) in
          let early : HasCleanDisk old = omega (arith, middle, c.query_all.ensures.survives.clean) in
          let ready = c.requires.ready early in
          read_failed (store_schema ready.schema.0) c.args.sql.now _ old mid new _ c.in-Err.error c.look_after.result c.read_fault.result ready.schema.1 ready.unlimited ready.is_open (c.requires.answered.safe ready.schema.0)
          middle (c.in-Err.ensures.err middle) c.query_all.ensures.survives looked.survives.counts looked.fault (looked.lost clean) why.memory.1 why.unseen.1 (let is = failed in cc);
      survives =
          survives_then old mid new (λ _. ⊥) (λ _. ⊥) (λ _. ⊥) (λ _ _ none. none) (λ _ _ none. none)
          (commits_nothing c.args.sql.now _ old mid (λ clean. let ready = c.requires.ready (omega (arith, clean, c.query_all.ensures.survives.clean)) in still_plain c.args.sql.now old (store_schema ready.schema.0) ready.schema.1 (c.requires.answered.plain ready.schema.0)) c.query_all.ensures.survives) looked.survives;
      ended = search rules;
    }
