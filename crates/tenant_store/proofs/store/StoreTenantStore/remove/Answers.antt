use Rattle.std.proofs.Common.{None, arith}
use Rattle.std.specs.BTreeMap.{get_by_text}
use Rattle.sqlite.specs.Held.{state}
use Rattle.sqlite.specs.State.{HasCleanDisk}
use Rattle.tenant_tables.specs.Changes.{Turns}
use Rattle.tenant_store.proofs.Changing.{forgotten_judged}
use Rattle.tenant_store.proofs.Stopping.{as_it_was_or}
use Rattle.tenant_store.proofs.store.StoreTenantStore.remove.Goals as goal

pub invariant_of-self : goal.invariant_of-self
invariant_of-self g c live clean =
    let early : HasCleanDisk (state g.S.Store c.self.inside.tables.0) = omega (arith, clean, c.remove.ensures.crash.clean) in
    let works = rw (← c.self.view_is) at c.requires.open in
    forgotten_judged c.remove.result c.args.name.now None (state g.S.Store c.self.inside.tables.0).now (state g.S.Store c.remove.new.tables.0).now (get_by_text c.self.inside.judged) (get_by_text c.forget.new.judged)
    (c.remove.ensures.made clean) (c.remove.ensures.kept clean live) (c.self.invariant works early) c.forget.ensures

pub returns-clause-crash : goal.returns-clause-crash
returns-clause-crash g c = rw (← c.self.view_is) (λ honest latched.
    let old = (state g.S.Store c.self.inside.tables.0).now.trees in
    let early : HasCleanDisk (state g.S.Store c.self.inside.tables.0) = omega (arith, honest.clean, c.remove.ensures.crash.clean) in
    let works = rw (← c.self.view_is) at c.requires.open in
    as_it_was_or g.S.Store g.met.S.Store.settled honest.one_state (Turns c.args.name.now None old) c.args.name.now None c.self.inside.tables c.remove.new.tables (c.remove.ensures.ready early) c.remove.ensures.crash
    (λ db made. made) honest.clean)
