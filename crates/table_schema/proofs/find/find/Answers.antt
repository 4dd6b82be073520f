use Rattle.std.proofs.Common.{sym, subst, arith}
use Rattle.std.specs.List.Sorted.{IsPermutation}
use Rattle.sqlite.specs.Held.{state}
use Rattle.table_schema.proofs.Asking.{find_answered, finds, names, names_none}
use Rattle.table_schema.proofs.find.find.Goals as goal

pub ask-requires-clause-answered : goal.ask-requires-clause-answered
ask-requires-clause-answered g c = find_answered _

pub returns-clause-found : goal.returns-clause-found
returns-clause-found g c clean =
    let old = state g.S.Store c.args.conn.now in
    let new = state g.S.Store c.ask.new.conn in
    let it = c.tenant_in.ensures in
    let ready = c.requires.ready (omega (arith, clean, c.in_ok-rows.ensures.reads.survives.clean)) in
    let same = finds old new c.args.name.now c.in_ok-rows.rows.items ready (rw c.as_bytes.ensures.value at (c.in_ok-rows.ensures.shown clean)) in
    names old.now.trees c.args.name.now c.deref.result.now c.tenant_in.result (subst (IsPermutation _) (sym c.deref.ensures.value) same) it.some it.none

pub returns-clause-damaged : goal.returns-clause-damaged
returns-clause-damaged g c clean damaged =
    let old = state g.S.Store c.args.conn.now in
    let new = state g.S.Store c.ask.new.conn in
    let it = c.tenant_in.ensures.damaged damaged in
    let ready = c.requires.ready (omega (arith, clean, c.in_ok-rows.ensures.reads.survives.clean)) in
    let same = finds old new c.args.name.now c.in_ok-rows.rows.items ready (rw c.as_bytes.ensures.value at (c.in_ok-rows.ensures.shown clean)) in
    names_none old.now.trees c.args.name.now c.deref.result.now (subst (IsPermutation _) (sym c.deref.ensures.value) same) it.0 it.1
