use Rattle.std.proofs.Common.{◌≡◌, Some, ap, subst, sym, ◌∙◌}
use Rattle.tenant_core.specs.States.{HasInventory}
use Rattle.tenant_cache.specs.Kept.{ReadyTenant, Updates}
use Rattle.tenant_cache.proofs.NumberFacts.{known_put, true_put}
use Rattle.tenant_cache.proofs.ready_store.CachedStore.keep.Goals as goal

-- what is kept of the name is what the caller says
pub invariant_of-self : goal.invariant_of-self
invariant_of-self g c =
    let value : c.in-Ok-new.ready.value ≡ c.new.result = c.in-Ok-new.ensures.ok in
    let updates = subst (λ n. Updates n (Some c.in-Ok-new.ready.value) c.self.inside.kept c.put.new.self) c.in-Ok-from_str.ensures.ok c.put.ensures.only in
    let inventory : c.args.inventory.now.value ≡ c.in-Ok-new.ready.value.inventory = sym (ap (λ (r : ReadyTenant). r.inventory) (value ∙ c.new.ensures) ∙ c.in-Ok.ensures.cases) in
    record {
      states = λ honest live. true_put (g.T.TenantStore.has_state c.self.inside.below) c.self.inside.kept c.put.new.self c.args.name.now c.in-Ok-new.ready.value (c.self.invariant.states honest live)
          (subst (λ i. HasInventory (g.T.TenantStore.has_state c.self.inside.below) c.args.name.now (Some i)) inventory ((rw (← c.self.view_is) at c.requires) honest live)) updates;
      numbers = known_put c.self.inside.cache c.self.inside.kept c.put.new.self c.args.name.now c.in-Ok-new.ready.value c.self.invariant.numbers (ap (λ (r : ReadyTenant). r.numbers) (value ∙ c.new.ensures)) updates;
    }
