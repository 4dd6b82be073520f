use Rattle.std.proofs.Common.{rules, ◌≡◌, inl, inr, sym, subst, ap, ◌∙◌, arith}
use Rattle.sqlite_trees.specs.Tree.{Trees}
use Rattle.sqlite.specs.Effect.{Database}
use Rattle.sqlite.specs.Held.{state}
use Rattle.sqlite.specs.State.{HasCleanDisk}
use Rattle.table_schema.proofs.Asking.{remains}
use Rattle.tenant_tables.proofs.Opening.{bare_again, migrated_again}
use Rattle.tenant_tables.proofs.tables.TenantTables.open.Goals as goal

pub invariant_of-result : goal.invariant_of-result
invariant_of-result g c = (
  search rules,
  λ _ clean.
      let mid = state g.S.Store c.in-Ok.conn in
      let early : HasCleanDisk mid = omega (arith, clean, c.get_ready.ensures.survives.clean) in
      (remains mid (state g.S.Store c.get_ready.new.conn) (c.in-Ok.ensures.ready early) (c.in-Ok-get_ready.ensures.ok clean) c.get_ready.ensures.survives.limit).ready,
)

pub returns-in-Ok-get_ready-clause-clean : goal.returns-in-Ok-get_ready-clause-clean
returns-in-Ok-get_ready-clause-clean g c clean =
    let mid = state g.S.Store c.in-Ok.conn in
    let early : HasCleanDisk mid = omega (arith, clean, c.get_ready.ensures.survives.clean) in
    omega (arith, c.in-Ok.ensures.clean early, c.set_up.ensures.crash.clean)

pub returns-in-Ok-get_ready-clause-alone : goal.returns-in-Ok-get_ready-clause-alone
returns-in-Ok-get_ready-clause-alone g c clean db left =
    let mid = state g.S.Store c.in-Ok.conn in
    let early : HasCleanDisk mid = omega (arith, clean, c.get_ready.ensures.survives.clean) in
    let it = (remains mid (state g.S.Store c.get_ready.new.conn) (c.in-Ok.ensures.ready early) (c.in-Ok-get_ready.ensures.ok clean) c.get_ready.ensures.survives.limit).ready in
    g.met.S.Store.settled c.get_ready.new.conn.store db it.is_open left ∙ ap (λ (d : Database). d.trees) (sym it.settled)

pub returns-in-Err-get_ready-clause-crash : goal.returns-in-Err-get_ready-clause-crash
returns-in-Err-get_ready-clause-crash g c clean trees left =
    let mid = state g.S.Store c.in-Ok.conn in
    let last = state g.S.Store c.get_ready.new.conn in
    let late : HasCleanDisk last = omega (arith, clean, c.into_store-in-Err-get_ready.ensures.quiet.clean) in
    let early : HasCleanDisk mid = omega (arith, late, c.get_ready.ensures.survives.clean) in
    let it = c.in-Ok.ensures.ready early in
    let same : (t : Trees) → mid.may_leave t → t ≡ mid.now.trees = λ t may. g.met.S.Store.settled c.in-Ok.conn.store t it.is_open may ∙ ap (λ (d : Database). d.trees) (sym it.settled) in
    elim (c.get_ready.ensures.survives.crash late trees (c.into_store-in-Err-get_ready.ensures.quiet.outcomes trees left)) [
      | inl was ↦
          c.set_up.ensures.crash.crash (c.in-Ok.ensures.clean early) trees (subst (λ (t : Trees). (state g.S.Store c.set_up.new.conn).may_leave t) (sym (same trees was)) (c.in-Ok.ensures.left early))
      | inr none ↦ absurd none
    ]

pub returns-in-Err-get_ready-clause-was_clean : goal.returns-in-Err-get_ready-clause-was_clean
returns-in-Err-get_ready-clause-was_clean g c clean =
    let last = state g.S.Store c.get_ready.new.conn in
    let late : HasCleanDisk last = omega (arith, clean, c.into_store-in-Err-get_ready.ensures.quiet.clean) in
    let early : HasCleanDisk (state g.S.Store c.in-Ok.conn) = omega (arith, late, c.get_ready.ensures.survives.clean) in
    omega (arith, c.in-Ok.ensures.clean early, c.set_up.ensures.crash.clean)

pub returns-in-Err-reopen-clause-was_clean : goal.returns-in-Err-reopen-clause-was_clean
returns-in-Err-reopen-clause-was_clean g c clean = omega (arith, c.in-Err-reopen.ensures.was_clean clean, c.set_up.ensures.crash.clean)

pub returns-in-Err-reopen-clause-crash : goal.returns-in-Err-reopen-clause-crash
returns-in-Err-reopen-clause-crash g c clean trees left = c.set_up.ensures.crash.crash (c.in-Err-reopen.ensures.was_clean clean) trees (c.in-Err-reopen.ensures.crash clean trees left)

pub returns-in-Ok-get_ready-clause-made : goal.returns-in-Ok-get_ready-clause-made
returns-in-Ok-get_ready-clause-made g c clean has =
    let mid = state g.S.Store c.in-Ok.conn in
    let last = state g.S.Store c.get_ready.new.conn in
    let early : HasCleanDisk mid = omega (arith, clean, c.get_ready.ensures.survives.clean) in
    let done = c.in_default.ensures.made (c.in-Ok.ensures.clean early) has in
    let it = remains mid last (c.in-Ok.ensures.ready early) (c.in-Ok-get_ready.ensures.ok clean) c.get_ready.ensures.survives.limit in
    let same = ap (λ (d : Database). d.trees) it.same ∙ c.in-Ok.ensures.same early ∙ ap (λ (d : Database). d.trees) done.2.committed in
    bare_again done.0 last.now done.1 same it.ready.schema it.ready.sound

pub returns-in-Ok-get_ready-clause-migrated : goal.returns-in-Ok-get_ready-clause-migrated
returns-in-Ok-get_ready-clause-migrated g c clean has =
    let mid = state g.S.Store c.in-Ok.conn in
    let last = state g.S.Store c.get_ready.new.conn in
    let early : HasCleanDisk mid = omega (arith, clean, c.get_ready.ensures.survives.clean) in
    let done = c.in_default.ensures.migrated (c.in-Ok.ensures.clean early) has in
    let it = remains mid last (c.in-Ok.ensures.ready early) (c.in-Ok-get_ready.ensures.ok clean) c.get_ready.ensures.survives.limit in
    let same = ap (λ (d : Database). d.trees) it.same ∙ c.in-Ok.ensures.same early ∙ ap (λ (d : Database). d.trees) done.2.committed in
    migrated_again (state g.S.Store c.args.conn).now done.0 last.now done.1 same it.ready.schema it.ready.sound
