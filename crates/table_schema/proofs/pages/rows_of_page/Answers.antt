use mir.Val.{SFits}
use mir.Syntax.{w64}
use Rattle.std.proofs.Common.{rules, arith}
use Rattle.std.proofs.lemmas.Int.{to_z-of_z}
use Rattle.std.proofs.lemmas.Result.{IfOk-weaker}
use Rattle.sqlite.specs.Held.{state}
use Rattle.table_schema.proofs.Paging.{first_answered, reads_first, next_answered, reads_next}
use Rattle.table_schema.proofs.pages.rows_of_page.Goals as goal

pub ask-requires-clause-answered : goal.ask-requires-clause-answered
ask-requires-clause-answered g c = first_answered _

pub returns-in-None-clause-found : goal.returns-in-None-clause-found
returns-in-None-clause-found g c clean =
    let old = state g.S.Store c.args.conn.now in
    let new = state g.S.Store c.ask.new.conn in
    let fits : SFits w64 c.args.id = search rules in
    let ready = c.requires.ready (omega (arith, clean, c.ask.ensures.reads.survives.clean)) in
    rw c.in-None.is (IfOk-weaker c.ask.result _ _ (λ rows. reads_first c.args.id old new rows.items ready) (simp to_z-of_z at (c.ask.ensures.shown clean)))

pub ask-requires-in-Some-clause-answered : goal.ask-requires-in-Some-clause-answered
ask-requires-in-Some-clause-answered g c = next_answered _ _

pub returns-in-Some-clause-found : goal.returns-in-Some-clause-found
returns-in-Some-clause-found g c clean =
    let old = state g.S.Store c.args.conn.now in
    let new = state g.S.Store c.ask-in-Some.new.conn in
    let fits : SFits w64 c.args.id = search rules in
    let ready = c.requires.ready (omega (arith, clean, c.ask-in-Some.ensures.reads.survives.clean)) in
    rw c.in-Some.is (IfOk-weaker c.ask-in-Some.result _ _ (λ rows. reads_next c.args.id c.in-Some.after.now old new rows.items ready) (simp to_z-of_z at (rw c.as_bytes.ensures.value at (c.ask-in-Some.ensures.shown clean))))
