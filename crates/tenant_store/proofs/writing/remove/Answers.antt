use Rattle.std.proofs.Common.{Some, arith, rules, sym, subst}
use mir.Syntax.{w64}
use mir.Val.{SFits}
use Rattle.std.proofs.lemmas.Int.{to_z-of_z}
use Rattle.std.proofs.lemmas.Result.{on_ok_weaker}
use Rattle.sqlite.specs.Effect.{Database}
use Rattle.sqlite.specs.Held.{state}
use Rattle.sqlite.specs.State.{HasCleanDisk, Survives}
use Rattle.tenant_tables.specs.Change.{Drops, IsNumber}
use Rattle.tenant_store.proofs.Changing.{is_dropped, is_number, remove_survives}
use Rattle.tenant_store.proofs.Refusing.{at_word}
use Rattle.tenant_store.proofs.writing.remove.Goals as goal

pub remove-requires-clause-there : goal.remove-requires-clause-there
remove-requires-clause-there g c mid =
    let tenant = c.in_ok-tenant.tenant in
    let old = (state g.S.Store c.args.tables.now.0).now in
    let early : HasCleanDisk (state g.S.Store c.args.tables.now.0) = omega (arith, mid, c.tenant_of.ensures.crash.clean) in
    let it = c.requires.there early (c.tenant_of.ensures.ready early) in
    let fits : SFits w64 c.in_ok-tenant.tenant.id = search rules in
    let number = is_number old.trees c.args.name.now it.0 tenant (c.in_ok-tenant.ensures.names mid) it.1 in
    let same = c.in_ok-tenant.ensures.kept mid c.in_ok-tenant.ensures.latches in
    subst (IsNumber (state g.S.Store c.tenant_of.new.tables.0).now.trees) (sym (to_z-of_z w64 tenant.id fits)) (subst (λ (d : Database). IsNumber d.trees tenant.id) (sym same) number)

pub returns-clause-made : goal.returns-clause-made
returns-clause-made g c clean =
    let tenant = c.in_ok-tenant.tenant in
    let old = (state g.S.Store c.args.tables.now.0).now in
    let found = (state g.S.Store c.tenant_of.new.tables.0).now in
    let new = (state g.S.Store c.remove.new.self.0).now.trees in
    let mid : HasCleanDisk (state g.S.Store c.tenant_of.new.tables.0) = omega (arith, clean, c.remove.ensures.crash.clean) in
    let early : HasCleanDisk (state g.S.Store c.args.tables.now.0) = omega (arith, mid, c.tenant_of.ensures.crash.clean) in
    let it = c.requires.there early (c.tenant_of.ensures.ready early) in
    let fits : SFits w64 c.in_ok-tenant.tenant.id = search rules in
    let same = c.in_ok-tenant.ensures.kept mid c.in_ok-tenant.ensures.latches in
    on_ok_weaker c.remove.result (λ done. is_dropped old.trees new c.args.name.now it.0 tenant (c.in_ok-tenant.ensures.names mid) it.1
    (subst (λ (d : Database). Drops tenant.id d.trees new) same (at_word (λ n. Drops n found.trees new) tenant.id fits done))) (c.remove.ensures.done clean)

pub returns-clause-crash : goal.returns-clause-crash
returns-clause-crash g c =
    let tenant = c.in_ok-tenant.tenant in
    let first = state g.S.Store c.tenant_of.new.tables.0 in
    let new = state g.S.Store c.remove.new.self.0 in
    let fits : SFits w64 c.in_ok-tenant.tenant.id = search rules in
    remove_survives (state g.S.Store c.args.tables.now.0) first new c.args.name.now tenant c.tenant_of.ensures.crash
    (at_word (λ n. Survives first new (Drops n first.now.trees)) tenant.id fits c.remove.ensures.crash)
    (λ mid. c.in_ok-tenant.ensures.kept mid c.in_ok-tenant.ensures.latches) c.in_ok-tenant.ensures.names (λ early. c.requires.there early (c.tenant_of.ensures.ready early))
