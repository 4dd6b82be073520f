use Rattle.std.proofs.Common.{Some, arith}
use Rattle.std.proofs.lemmas.Result.{on_ok_weaker}
use Rattle.sqlite.specs.Held.{state}
use Rattle.sqlite.specs.State.{HasCleanDisk}
use Rattle.tenant_tables.specs.Changes.{Turns}
use Rattle.tenant_tables.specs.Rows.{StandsFor}
use Rattle.tenant_core.specs.tenant_state.specs.State.{CanMake, TenantState, after}
use Rattle.tenant_store.proofs.Changing.{can_make}
use Rattle.tenant_store.proofs.Stopping.{as_it_was_or}
use Rattle.tenant_store.proofs.store.StoreTenantStore.commit.Goals as goal

pub commit-requires-clause-judged : goal.commit-requires-clause-judged
commit-requires-clause-judged g c clean =
    let works = rw (← c.self.view_is) at c.requires.open in
    c.self.invariant works clean

pub returns-clause-made : goal.returns-clause-made
returns-clause-made g c = rw (← c.self.view_is) (λ honest s has.
    let old = (state g.S.Store c.self.inside.tables.0).now.trees in
    let early : HasCleanDisk (state g.S.Store c.self.inside.tables.0) = omega (arith, honest.clean, c.commit.ensures.crash.clean) in
    let works = rw (← c.self.view_is) at c.requires.open in
    let there = (rw (← c.self.view_is) at c.requires.there) (record { clean = early; ready = λ _. c.commit.ensures.ready early; one_state = honest.one_state }) in
    let can = can_make honest.one_state old c.args.name.now s there.0 c.args.change.now has there.1 there.2 in
    on_ok_weaker c.commit.result (λ turns. turns.own) (c.commit.ensures.made honest.clean s has can))

pub returns-clause-crash : goal.returns-clause-crash
returns-clause-crash g c = rw (← c.self.view_is) (λ honest latched s has.
    let old = (state g.S.Store c.self.inside.tables.0).now.trees in
    let early : HasCleanDisk (state g.S.Store c.self.inside.tables.0) = omega (arith, honest.clean, c.commit.ensures.crash.clean) in
    let works = rw (← c.self.view_is) at c.requires.open in
    let ready = c.commit.ensures.ready early in
    let there = (rw (← c.self.view_is) at c.requires.there) (record { clean = early; ready = λ _. ready; one_state = honest.one_state }) in
    let can = can_make honest.one_state old c.args.name.now s there.0 c.args.change.now has there.1 there.2 in
    as_it_was_or g.S.Store g.met.S.Store.settled honest.one_state (λ db. (u : TenantState) → StandsFor old c.args.name.now (Some u) → CanMake c.args.change.now u → Turns c.args.name.now (Some (after c.args.change.now u)) old db)
    c.args.name.now (Some (after c.args.change.now s)) c.self.inside.tables c.commit.new.tables ready c.commit.ensures.crash (λ db made. made s has can) honest.clean)
