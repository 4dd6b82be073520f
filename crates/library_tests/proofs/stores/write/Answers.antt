-- Each call finds the state that the one before it left.
use Rattle.std.proofs.Common.{◌≡◌, ◌∙◌, Option, Some, None, ap, option_map, refl, subst, sym}
use Rattle.tenant_core.specs.tenant_state.specs.State.{TenantState, after, fresh, inventory_of}
use Rattle.library_tests.proofs.stores.write.Goals as goal

-- a tenant that has nothing is absent
absent : (s : Option TenantState) → None ≡ option_map inventory_of s → s ≡ None
absent None none = refl
absent (Some s) none = cc

pub create-requires-clause-absent : goal.create-requires-clause-absent
create-requires-clause-absent g c = λ honest.
    let store = g.met.T.TenantStore in
    let states = g.T.TenantStore.has_state c.args.store.now in
    let found = c.in_ok-load.ensures.found honest in
    let works = c.in_ok-load.ensures.latch in
    let same = store.keeps_states c.args.store.now c.load.new.self honest c.requires.open works (c.in_ok-load.ensures.same honest works) in
    (same c.args.name.now None).0 (subst (states c.args.name.now) (absent found.0 (sym (ap (option_map (λ r. r.value)) c.in-None.is) ∙ found.2)) found.1)

pub commit-requires-clause-there : goal.commit-requires-clause-there
commit-requires-clause-there g c = λ honest. (fresh, c.in_ok-create.ensures.made honest, c.requires.makes)

pub remove-requires-clause-there : goal.remove-requires-clause-there
remove-requires-clause-there g c = λ honest.
    (after c.args.change.now fresh, c.in_ok-commit.ensures.made honest fresh (c.in_ok-create.ensures.made (c.in_ok-commit.ensures.honest honest)))
