use Rattle.std.proofs.Common.{◌∙◌, sym, arith}
use Rattle.std.specs.BTreeMap.{get_by_text}
use Rattle.sqlite.specs.Held.{state}
use Rattle.sqlite.specs.State.{HasCleanDisk}
use Rattle.tenant_store.proofs.Counts.{number_of}
use Rattle.tenant_store.proofs.Judging.{was_judged, now_judged}
use Rattle.tenant_store.proofs.reading.judge.Goals as goal

pub returns-then-contains_key-clause-has : goal.returns-then-contains_key-clause-has
returns-then-contains_key-clause-has g c clean =
    let at = number_of (get_by_text c.args.judged.now c.args.name.now) (sym c.contains_key.ensures ∙ c.if-contains_key.true) in
    was_judged (state g.S.Store c.args.tables.now.0).now.trees c.args.name.now c.args.tenant.now (c.requires.names clean) (get_by_text c.args.judged.now) at.0 (c.requires.judged clean) at.1

pub returns-clause-judged : goal.returns-clause-judged
returns-clause-judged g c clean =
    let db = (state g.S.Store c.args.tables.now.0).now.trees in
    let early : HasCleanDisk (state g.S.Store c.args.tables.now.0) = omega (arith, clean, c.judge_receipts.ensures.reads.crash.clean) in
    let it = c.requires.rows early in
    now_judged db c.args.name.now c.args.tenant.now (c.requires.names early) it.0 c.args.versions (get_by_text c.args.judged.now) (get_by_text c.remember.new.judged) it.1 it.2 it.3
    (c.in_ok-judge_receipts.ensures.found clean) (c.requires.judged early) c.remember.ensures
