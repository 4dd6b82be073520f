use Rattle.std.proofs.Common.{rules, ◌≡◌, ◌==◌, Some, ap, subst, sym, ◌∙◌}
use Rattle.std.specs.Prelude.{find}
use Rattle.tenant_core.specs.Cached.{IsCachedFor}
use Rattle.tenant_core.specs.States.{HasInventory}
use Rattle.tenant_cache.specs.Kept.{ReadyTenant, kept_at}
use Rattle.tenant_cache.specs.Ready.{AreNumbersOf}
use Rattle.tenant_state.specs.State.{TenantPool, pool}
use Rattle.tenant_cache.proofs.FoundFacts.{is_for, own_pool}
use Rattle.tenant_cache.proofs.NumberFacts.{known_among, known_renumbered, true_among, true_renumbered}
use Rattle.tenant_cache.proofs.ready_store.CachedStoreTenantStore.cached.Goals as goal

-- after a look-up no more is kept than before
pub invariant_of-self : goal.invariant_of-self
invariant_of-self g c =
    record {
      states = λ honest live. true_among (g.T.TenantStore.has_state c.self.inside.below) c.self.inside.kept c.get.new.self c.get.ensures.same (c.self.invariant.states honest live);
      numbers = known_among c.self.inside.cache c.self.inside.kept c.get.new.self c.get.ensures.same c.self.invariant.numbers;
    }

pub invariant_of-self-in_err-pool : goal.invariant_of-self-in_err-pool
invariant_of-self-in_err-pool g c =
    record {
      states = λ honest live. true_among (g.T.TenantStore.has_state c.self.inside.below) c.self.inside.kept c.get.new.self c.get.ensures.same (c.self.invariant.states honest live);
      numbers = known_among c.self.inside.cache c.self.inside.kept c.get.new.self c.get.ensures.same c.self.invariant.numbers;
    }

-- what was found is kept, with numbers that are known
pub find-requires : goal.find-requires
find-requires g c =
    let at : kept_at c.self.inside.kept c.args.name.now ≡ Some c.in-Ok-Some.ready.value = search rules in
    let inventory = c.deref-2.ensures ∙ c.inventory.ensures ∙ ap (λ (r : ReadyTenant). r.inventory) (c.deref.ensures ∙ sym c.deref-3.ensures) in
    let known = subst (AreNumbersOf c.self.inside.cache) (sym c.deref-3.ensures) (c.self.invariant.numbers c.args.name.now c.in-Ok-Some.ready.value at) in
    let found : Some c.in_ok-pool.pool.now ≡ find (λ p. p.parts.id == c.in_ok-id.id) c.pools.result.now = search rules in
    let its = sym (found ∙ ap (find (λ (p : TenantPool). p.parts.id == c.in_ok-id.id)) c.pools.ensures) in
    let there = subst (λ i. pool c.in_ok-pool.pool.now.parts.id i ≡ Some c.in_ok-pool.pool.now) inventory (own_pool c.in_ok-id.id c.deref-2.result.now c.in_ok-pool.pool.now its) in
    record { known = known; there = there }

-- beside the name there may be other numbers, which are those of the cache too
pub invariant_of-self-in_err-cached : goal.invariant_of-self-in_err-cached
invariant_of-self-in_err-cached g c =
    let at : kept_at c.self.inside.kept c.args.name.now ≡ Some c.in-Ok-Some.ready.value = search rules in
    let states = g.T.TenantStore.has_state c.self.inside.below in
    record {
      states = λ honest live. true_renumbered states c.find.new.cache c.get.new.self c.find.new.kept c.args.name.now c.deref-3.result.now
          (true_among states c.self.inside.kept c.get.new.self c.get.ensures.same (c.self.invariant.states honest live))
          (subst (λ (r : ReadyTenant). HasInventory states c.args.name.now (Some r.inventory)) (sym c.deref-3.ensures) (c.self.invariant.states honest live c.args.name.now c.in-Ok-Some.ready.value at))
          c.find.ensures.beside;
      numbers = known_renumbered c.self.inside.cache c.find.new.cache c.get.new.self c.find.new.kept c.args.name.now c.deref-3.result.now c.find.ensures.keeps
          (known_among c.self.inside.cache c.self.inside.kept c.get.new.self c.get.ensures.same c.self.invariant.numbers) c.find.ensures.beside;
    }

pub invariant_of-self-2 : goal.invariant_of-self-2
invariant_of-self-2 g c =
    let at : kept_at c.self.inside.kept c.args.name.now ≡ Some c.in-Ok-Some.ready.value = search rules in
    let states = g.T.TenantStore.has_state c.self.inside.below in
    record {
      states = λ honest live. true_renumbered states c.find.new.cache c.get.new.self c.find.new.kept c.args.name.now c.deref-3.result.now
          (true_among states c.self.inside.kept c.get.new.self c.get.ensures.same (c.self.invariant.states honest live))
          (subst (λ (r : ReadyTenant). HasInventory states c.args.name.now (Some r.inventory)) (sym c.deref-3.ensures) (c.self.invariant.states honest live c.args.name.now c.in-Ok-Some.ready.value at))
          c.find.ensures.beside;
      numbers = known_renumbered c.self.inside.cache c.find.new.cache c.get.new.self c.find.new.kept c.args.name.now c.deref-3.result.now c.find.ensures.keeps
          (known_among c.self.inside.cache c.self.inside.kept c.get.new.self c.get.ensures.same c.self.invariant.numbers) c.find.ensures.beside;
    }

pub invariant_of-self-in_default-clone : goal.invariant_of-self-in_default-clone
invariant_of-self-in_default-clone g c =
    let at : kept_at c.self.inside.kept c.args.name.now ≡ Some c.in-Ok-Some.ready.value = search rules in
    let states = g.T.TenantStore.has_state c.self.inside.below in
    record {
      states = λ honest live. true_renumbered states c.find.new.cache c.get.new.self c.find.new.kept c.args.name.now c.deref-3.result.now
          (true_among states c.self.inside.kept c.get.new.self c.get.ensures.same (c.self.invariant.states honest live))
          (subst (λ (r : ReadyTenant). HasInventory states c.args.name.now (Some r.inventory)) (sym c.deref-3.ensures) (c.self.invariant.states honest live c.args.name.now c.in-Ok-Some.ready.value at))
          c.find.ensures.beside;
      numbers = known_renumbered c.self.inside.cache c.find.new.cache c.get.new.self c.find.new.kept c.args.name.now c.deref-3.result.now c.find.ensures.keeps
          (known_among c.self.inside.cache c.self.inside.kept c.get.new.self c.get.ensures.same c.self.invariant.numbers) c.find.ensures.beside;
    }

-- what was found for the name is what the query asks for
pub returns-clause-fits : goal.returns-clause-fits
returns-clause-fits g c =
    let first = c.deref-2.ensures ∙ c.inventory.ensures ∙ ap (λ (r : ReadyTenant). r.inventory) (c.deref.ensures ∙ sym c.deref-3.ensures) in
    let second = ap (λ (r : ReadyTenant). r.inventory) (c.deref-3.ensures ∙ sym c.deref-4.ensures) ∙ sym c.inventory-2.ensures in
    let found : Some c.in_ok-pool.pool.now ≡ find (λ p. p.parts.id == c.in_ok-id.id) c.pools.result.now = search rules in
    let its = sym (found ∙ ap (find (λ (p : TenantPool). p.parts.id == c.in_ok-id.id)) c.pools.ensures) in
    let there = subst (λ i. pool c.in_ok-id.id i ≡ Some c.in_ok-pool.pool.now) first its in
    let fits = is_for c.args.query.now c.in_ok-id.id c.deref-3.result.now.inventory c.in_ok-pool.pool.now c.in_ok-id.asked c.in_ok-cached.cached c.in_ok-id.ensures there c.in_ok-cached.ensures.found in
    subst (λ i. IsCachedFor c.args.query.now i c.in_ok-cached.cached) (second ∙ sym c.in-Ok.ensures.cases) fits
