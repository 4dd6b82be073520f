use Rattle.std.proofs.Common.{Some, arith}
use Rattle.std.specs.BTreeMap.{get_by_text}
use Rattle.std.proofs.lemmas.Result.{on_ok_weaker}
use Rattle.sqlite.specs.Held.{state}
use Rattle.sqlite.specs.State.{HasCleanDisk}
use Rattle.tenant_tables.proofs.Turns.{created}
use Rattle.tenant_core.specs.tenant_state.specs.State.{fresh}
use Rattle.tenant_tables.specs.Change.{Creates}
use Rattle.tenant_store.specs.Laws.{keeps_states}
use Rattle.tenant_store.proofs.Changing.{forgotten_judged}
use Rattle.tenant_store.proofs.Refusing.{either_end}
use Rattle.tenant_store.proofs.Stopping.{as_it_was_or}
use Rattle.tenant_store.proofs.store.StoreTenantStore.create.Goals as goal

-- what is remembered stays true
pub invariant_of-self : goal.invariant_of-self
invariant_of-self g c live clean =
    let old = (state g.S.Store c.self.inside.tables.0).now in
    let new = (state g.S.Store c.create.new.self.0).now in
    let early : HasCleanDisk (state g.S.Store c.self.inside.tables.0) = omega (arith, clean, c.create.ensures.crash.clean) in
    let works = rw (← c.self.view_is) at c.requires.open in
    forgotten_judged c.create.result c.args.name.now (Some fresh) old new (get_by_text c.self.inside.judged) (get_by_text c.forget.new.judged)
    (on_ok_weaker c.create.result (created c.args.name.now old.trees new.trees) (c.create.ensures.done clean)) (c.create.ensures.kept clean live) (c.self.invariant works early) c.forget.ensures

pub returns-clause-made : goal.returns-clause-made
returns-clause-made g c honest =
    let old = (state g.S.Store c.self.inside.tables.0).now.trees in
    let new = (state g.S.Store c.create.new.self.0).now.trees in
    on_ok_weaker c.create.result (λ done. (created c.args.name.now old new done).own) (c.create.ensures.done honest.clean)

pub returns-clause-others : goal.returns-clause-others
returns-clause-others g c = rw (← c.self.view_is) (λ honest live t s apart.
    let old = (state g.S.Store c.self.inside.tables.0).now in
    let new = (state g.S.Store c.create.new.self.0).now in
    either_end c.create.result (c.create.ensures.done honest.clean) (c.create.ensures.kept honest.clean live)
    (λ done. (created c.args.name.now old.trees new.trees done).others t s apart) (λ kept. keeps_states old new kept t s))

pub returns-clause-crash : goal.returns-clause-crash
returns-clause-crash g c = rw (← c.self.view_is) (λ honest latched.
    let old = (state g.S.Store c.self.inside.tables.0).now.trees in
    let early : HasCleanDisk (state g.S.Store c.self.inside.tables.0) = omega (arith, honest.clean, c.create.ensures.crash.clean) in
    let works = rw (← c.self.view_is) at c.requires.open in
    as_it_was_or g.S.Store g.met.S.Store.settled honest.one_state (Creates c.args.name.now old) c.args.name.now (Some fresh) c.self.inside.tables c.create.new.self (c.create.ensures.ready early) c.create.ensures.crash
    (λ db made. created c.args.name.now old db made) honest.clean)
