use mir.Val.{SFits}
use mir.Syntax.{w64}
use Rattle.std.proofs.Common.{rules, sym, subst, arith}
use Rattle.std.proofs.lemmas.Int.{to_z-of_z}
use Rattle.std.proofs.lemmas.Result.{IfOk-weaker}
use Rattle.sqlite.specs.Held.{state}
use Rattle.table_schema.specs.Found.{AreOrderedBy}
use Rattle.table_schema.proofs.Answering.{shows_of}
use Rattle.table_schema.proofs.Listing.{lists_by, lists_none}
use Rattle.table_schema.proofs.lists.list_of.Goals as goal

pub ask-requires-clause-answered : goal.ask-requires-clause-answered
ask-requires-clause-answered g c = c.select.ensures.answered _

pub returns-clause-found : goal.returns-clause-found
returns-clause-found g c clean =
    let old = state g.S.Store c.args.conn.now in
    let new = state g.S.Store c.ask.new.conn in
    let it = g.T.TenantRow in
    let fits : SFits w64 c.args.id = search rules in
    let ready = c.requires.ready (omega (arith, clean, c.in_ok-rows.ensures.reads.survives.clean)) in
    let shown = shows_of _ _ old new c.in_ok-rows.rows.items ready (c.select.ensures.answered c.args.id) (simp to_z-of_z at (c.in_ok-rows.ensures.shown clean)) in
    let ordered = subst (AreOrderedBy it.before _) (sym c.deref.ensures.value) (c.select.ensures.shows ready.schema.0 c.args.id old.now c.in_ok-rows.rows.items ready.schema.1 ready.sound shown) in
    IfOk-weaker c.rising_in.result _ _ (λ list. lists_by it.before it.values _ c.deref.result.now ordered list.items) c.rising_in.ensures.list

pub returns-clause-damaged : goal.returns-clause-damaged
returns-clause-damaged g c clean damaged =
    let old = state g.S.Store c.args.conn.now in
    let new = state g.S.Store c.ask.new.conn in
    let it = g.T.TenantRow in
    let fits : SFits w64 c.args.id = search rules in
    let ready = c.requires.ready (omega (arith, clean, c.in_ok-rows.ensures.reads.survives.clean)) in
    let shown = shows_of _ _ old new c.in_ok-rows.rows.items ready (c.select.ensures.answered c.args.id) (simp to_z-of_z at (c.in_ok-rows.ensures.shown clean)) in
    let ordered = subst (AreOrderedBy it.before _) (sym c.deref.ensures.value) (c.select.ensures.shows ready.schema.0 c.args.id old.now c.in_ok-rows.rows.items ready.schema.1 ready.sound shown) in
    lists_none it.is_one it.before _ c.deref.result.now ordered (c.rising_in.ensures.damaged damaged)
