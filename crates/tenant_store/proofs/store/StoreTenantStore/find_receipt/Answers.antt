use Rattle.std.proofs.Common.{arith, sym, subst}
use Rattle.std.specs.BTreeMap.{get_by_text}
use Rattle.sqlite.specs.Effect.{Database}
use Rattle.sqlite.specs.Held.{state}
use Rattle.sqlite.specs.State.{HasCleanDisk}
use Rattle.tenant_store.specs.Judged.{AreJudged}
use Rattle.tenant_store.proofs.Stopping.{as_it_was}
use Rattle.tenant_store.proofs.store.StoreTenantStore.find_receipt.Goals as goal

pub invariant_of-self : goal.invariant_of-self
invariant_of-self g c live clean =
    let early : HasCleanDisk (state g.S.Store c.self.inside.tables.0) = omega (arith, clean, c.find_receipt.ensures.crash.clean) in
    let works = rw (← c.self.view_is) at c.requires.open in
    subst (λ (d : Database). AreJudged d.trees (get_by_text c.self.inside.judged)) (sym (c.find_receipt.ensures.kept clean live)) (c.self.invariant works early)

pub returns-clause-crash : goal.returns-clause-crash
returns-clause-crash g c = rw (← c.self.view_is) (λ honest latched.
    let early : HasCleanDisk (state g.S.Store c.self.inside.tables.0) = omega (arith, honest.clean, c.find_receipt.ensures.crash.clean) in
    let works = rw (← c.self.view_is) at c.requires.open in
    as_it_was g.S.Store g.met.S.Store.settled c.self.inside.tables c.find_receipt.new.tables (c.find_receipt.ensures.ready early) c.find_receipt.ensures.crash honest.clean)
