use mir.Val.{SFits}
use mir.Syntax.{w64}
use Rattle.std.proofs.Common.{rules, sym, subst, arith}
use Rattle.std.proofs.lemmas.Int.{to_z-of_z}
use Rattle.std.specs.List.Sorted.{IsPermutation}
use Rattle.sqlite.specs.Held.{state}
use Rattle.table_schema.proofs.Listing.{receipt_answered, reads_receipt, one_receipt, no_receipt}
use Rattle.table_schema.proofs.lists.receipt_of.Goals as goal

pub ask-requires-clause-answered : goal.ask-requires-clause-answered
ask-requires-clause-answered g c = receipt_answered _ _

pub returns-clause-found : goal.returns-clause-found
returns-clause-found g c clean =
    let old = state g.S.Store c.args.conn.now in
    let new = state g.S.Store c.ask.new.conn in
    let it = c.one_of.ensures in
    let fits : SFits w64 c.args.id = search rules in
    let ready = c.requires.ready (omega (arith, clean, c.in_ok-rows.ensures.reads.survives.clean)) in
    let same = reads_receipt c.args.id c.args.request.now old new c.in_ok-rows.rows.items ready (simp to_z-of_z at (rw c.as_bytes.ensures.value at (c.in_ok-rows.ensures.shown clean))) in
    one_receipt _ c.deref.result.now c.one_of.result (subst (IsPermutation _) (sym c.deref.ensures.value) same) it.some it.none

pub returns-clause-damaged : goal.returns-clause-damaged
returns-clause-damaged g c clean damaged =
    let old = state g.S.Store c.args.conn.now in
    let new = state g.S.Store c.ask.new.conn in
    let fits : SFits w64 c.args.id = search rules in
    let ready = c.requires.ready (omega (arith, clean, c.in_ok-rows.ensures.reads.survives.clean)) in
    let same = reads_receipt c.args.id c.args.request.now old new c.in_ok-rows.rows.items ready (simp to_z-of_z at (rw c.as_bytes.ensures.value at (c.in_ok-rows.ensures.shown clean))) in
    no_receipt _ c.deref.result.now (subst (IsPermutation _) (sym c.deref.ensures.value) same) (c.one_of.ensures.damaged damaged)
