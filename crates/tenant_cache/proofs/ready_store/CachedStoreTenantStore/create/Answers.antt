use Rattle.tenant_cache.proofs.NumberFacts.{known_without, true_without}
use Rattle.tenant_cache.proofs.ready_store.CachedStoreTenantStore.create.Goals as goal

-- nothing is kept of the name, and of other names the same as before
pub invariant_of-self : goal.invariant_of-self
invariant_of-self g c =
    let open' = rw (← c.self.view_is) at c.requires.open in
    record {
      states = λ honest live. true_without (g.T.TenantStore.has_state c.self.inside.below) (g.T.TenantStore.has_state c.create.new.self) c.self.inside.kept c.forget.new.self c.args.name.now
          (c.self.invariant.states (c.create.ensures.honest honest) open') c.forget.ensures (c.create.ensures.others honest live);
      numbers = known_without c.self.inside.cache c.self.inside.kept c.forget.new.self c.args.name.now c.self.invariant.numbers c.forget.ensures;
    }
