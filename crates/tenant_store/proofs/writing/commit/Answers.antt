use Rattle.std.proofs.Common.{Some, arith, sym, subst, ◌∙◌}
use Rattle.std.specs.BTreeMap.{get_by_text}
use Rattle.sqlite.proofs.StateLemmas.{survives_weaker}
use Rattle.sqlite.specs.Effect.{Database}
use Rattle.sqlite.specs.Held.{state}
use Rattle.sqlite.specs.State.{HasCleanDisk}
use Rattle.tenant_tables.specs.Changes.{Turns}
use Rattle.tenant_tables.specs.Rows.{StandsFor}
use Rattle.tenant_core.specs.tenant_state.specs.State.{after}
use Rattle.tenant_store.specs.Judged.{AreJudged}
use Rattle.tenant_store.proofs.Changing.{commit_survives, is_changeable, nothing_left, still_judged}
use Rattle.tenant_store.proofs.writing.commit.Goals as goal

pub count_versions-requires-clause-judged : goal.count_versions-requires-clause-judged
count_versions-requires-clause-judged g c mid =
    let early : HasCleanDisk (state g.S.Store c.args.tables.now.0) = omega (arith, mid, c.tenant_of.ensures.crash.clean) in
    subst (λ (d : Database). AreJudged d.trees (get_by_text c.args.judged.now)) (sym (c.in_ok-tenant.ensures.kept mid c.in_ok-tenant.ensures.latches)) (c.requires.judged early)

pub returns-in_err-tenant-clause-judged : goal.returns-in_err-tenant-clause-judged
returns-in_err-tenant-clause-judged g c clean live =
    let early : HasCleanDisk (state g.S.Store c.args.tables.now.0) = omega (arith, clean, c.tenant_of.ensures.crash.clean) in
    subst (λ (d : Database). AreJudged d.trees (get_by_text c.args.judged.now)) (sym (c.in_err-tenant.ensures.kept clean live)) (c.requires.judged early)

pub returns-in_err-versions-clause-judged : goal.returns-in_err-versions-clause-judged
returns-in_err-versions-clause-judged g c clean live =
    let mid : HasCleanDisk (state g.S.Store c.tenant_of.new.tables.0) = omega (arith, clean, c.count_versions.ensures.crash.clean) in
    let early : HasCleanDisk (state g.S.Store c.args.tables.now.0) = omega (arith, mid, c.tenant_of.ensures.crash.clean) in
    let same = c.in_err-versions.ensures.kept clean live ∙ c.in_ok-tenant.ensures.kept mid c.in_ok-tenant.ensures.latches in
    subst (λ (d : Database). AreJudged d.trees (get_by_text c.args.judged.now)) (sym same) (c.requires.judged early)

pub returns-in_err-versions-clause-crash : goal.returns-in_err-versions-clause-crash
returns-in_err-versions-clause-crash g c =
    let old = state g.S.Store c.args.tables.now.0 in
    let new = state g.S.Store c.count_versions.new.tables.0 in
    survives_weaker old new (λ _. ⊥) _ (λ clean db none. absurd none) (nothing_left old (state g.S.Store c.tenant_of.new.tables.0) new c.tenant_of.ensures.crash c.count_versions.ensures.crash)

pub returns-clause-made : goal.returns-clause-made
returns-clause-made g c clean s has can =
    let name = c.args.name.now in
    let old = (state g.S.Store c.args.tables.now.0).now in
    let new = (state g.S.Store c.write_change.new.tables.0).now in
    let late : HasCleanDisk (state g.S.Store c.count_versions.new.tables.0) = omega (arith, clean, c.write_change.ensures.crash.clean) in
    let mid : HasCleanDisk (state g.S.Store c.tenant_of.new.tables.0) = omega (arith, late, c.count_versions.ensures.crash.clean) in
    let found = c.in_ok-tenant.ensures.kept mid c.in_ok-tenant.ensures.latches in
    let same = c.in_ok-versions.ensures.kept late c.in_ok-versions.ensures.latches ∙ found in
    let count = c.in_ok-versions.ensures.found late s (subst (λ (d : Database). StandsFor d.trees name (Some s)) (sym found) has) in
    let it = is_changeable old (state g.S.Store c.count_versions.new.tables.0).now name s c.in_ok-tenant.tenant c.in_ok-versions.versions c.args.change.now same (c.in_ok-tenant.ensures.names mid) has count can in
    subst (λ (d : Database). Turns name (Some (after c.args.change.now s)) d.trees new.trees) same (c.in_ok-write_change.ensures.done clean name s it)

pub returns-clause-judged : goal.returns-clause-judged
returns-clause-judged g c clean live =
    let name = c.args.name.now in
    let old = (state g.S.Store c.args.tables.now.0).now in
    let new = (state g.S.Store c.write_change.new.tables.0).now in
    let late : HasCleanDisk (state g.S.Store c.count_versions.new.tables.0) = omega (arith, clean, c.write_change.ensures.crash.clean) in
    let mid : HasCleanDisk (state g.S.Store c.tenant_of.new.tables.0) = omega (arith, late, c.count_versions.ensures.crash.clean) in
    let early : HasCleanDisk (state g.S.Store c.args.tables.now.0) = omega (arith, mid, c.tenant_of.ensures.crash.clean) in
    let found = c.in_ok-tenant.ensures.kept mid c.in_ok-tenant.ensures.latches in
    let same = c.in_ok-versions.ensures.kept late c.in_ok-versions.ensures.latches ∙ found in
    let there = c.requires.there early (c.tenant_of.ensures.ready early) in
    let count = c.in_ok-versions.ensures.found late there.0 (subst (λ (d : Database). StandsFor d.trees name (Some there.0)) (sym found) there.1) in
    let it = is_changeable old (state g.S.Store c.count_versions.new.tables.0).now name there.0 c.in_ok-tenant.tenant c.in_ok-versions.versions c.args.change.now same (c.in_ok-tenant.ensures.names mid) there.1 count there.2 in
    still_judged name (after c.args.change.now there.0) c.versions_after.result old.trees new.trees (get_by_text c.args.judged.now) (get_by_text c.update.new.judged) (c.requires.judged early)
    (subst (λ (d : Database). Turns name (Some (after c.args.change.now there.0)) d.trees new.trees) same (c.in_ok-write_change.ensures.done clean name there.0 it))
    (c.versions_after.ensures there.0 there.2 count) c.update.ensures

pub returns-in_err-write_change-clause-judged : goal.returns-in_err-write_change-clause-judged
returns-in_err-write_change-clause-judged g c clean live =
    let late : HasCleanDisk (state g.S.Store c.count_versions.new.tables.0) = omega (arith, clean, c.write_change.ensures.crash.clean) in
    let mid : HasCleanDisk (state g.S.Store c.tenant_of.new.tables.0) = omega (arith, late, c.count_versions.ensures.crash.clean) in
    let early : HasCleanDisk (state g.S.Store c.args.tables.now.0) = omega (arith, mid, c.tenant_of.ensures.crash.clean) in
    let same = c.in_ok-versions.ensures.kept late c.in_ok-versions.ensures.latches ∙ c.in_ok-tenant.ensures.kept mid c.in_ok-tenant.ensures.latches in
    subst (λ (d : Database). AreJudged d.trees (get_by_text c.args.judged.now)) (sym (c.in_err-write_change.ensures.kept clean live ∙ same)) (c.requires.judged early)

pub returns-clause-crash : goal.returns-clause-crash
returns-clause-crash g c =
    let name = c.args.name.now in
    let old = state g.S.Store c.args.tables.now.0 in
    let first = state g.S.Store c.tenant_of.new.tables.0 in
    let last = state g.S.Store c.count_versions.new.tables.0 in
    commit_survives old last (state g.S.Store c.write_change.new.tables.0) name c.in_ok-tenant.tenant c.in_ok-versions.versions c.args.change.now
    (nothing_left old first last c.tenant_of.ensures.crash c.count_versions.ensures.crash) c.write_change.ensures.crash
    (λ late.
    let mid : HasCleanDisk first = omega (arith, late, c.count_versions.ensures.crash.clean) in
    c.in_ok-versions.ensures.kept late c.in_ok-versions.ensures.latches ∙ c.in_ok-tenant.ensures.kept mid c.in_ok-tenant.ensures.latches)
    (λ late.
    let mid : HasCleanDisk first = omega (arith, late, c.count_versions.ensures.crash.clean) in
    c.in_ok-tenant.ensures.names mid)
    (λ late s has.
    let mid : HasCleanDisk first = omega (arith, late, c.count_versions.ensures.crash.clean) in
    let found = c.in_ok-tenant.ensures.kept mid c.in_ok-tenant.ensures.latches in
    c.in_ok-versions.ensures.found late s (subst (λ (d : Database). StandsFor d.trees name (Some s)) (sym found) has))

pub returns-in_err-write_change-clause-crash : goal.returns-in_err-write_change-clause-crash
returns-in_err-write_change-clause-crash g c =
    let name = c.args.name.now in
    let old = state g.S.Store c.args.tables.now.0 in
    let first = state g.S.Store c.tenant_of.new.tables.0 in
    let last = state g.S.Store c.count_versions.new.tables.0 in
    commit_survives old last (state g.S.Store c.write_change.new.tables.0) name c.in_ok-tenant.tenant c.in_ok-versions.versions c.args.change.now
    (nothing_left old first last c.tenant_of.ensures.crash c.count_versions.ensures.crash) c.write_change.ensures.crash
    (λ late.
    let mid : HasCleanDisk first = omega (arith, late, c.count_versions.ensures.crash.clean) in
    c.in_ok-versions.ensures.kept late c.in_ok-versions.ensures.latches ∙ c.in_ok-tenant.ensures.kept mid c.in_ok-tenant.ensures.latches)
    (λ late.
    let mid : HasCleanDisk first = omega (arith, late, c.count_versions.ensures.crash.clean) in
    c.in_ok-tenant.ensures.names mid)
    (λ late s has.
    let mid : HasCleanDisk first = omega (arith, late, c.count_versions.ensures.crash.clean) in
    let found = c.in_ok-tenant.ensures.kept mid c.in_ok-tenant.ensures.latches in
    c.in_ok-versions.ensures.found late s (subst (λ (d : Database). StandsFor d.trees name (Some s)) (sym found) has))
