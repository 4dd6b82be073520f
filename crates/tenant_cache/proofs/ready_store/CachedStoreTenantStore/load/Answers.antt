use Rattle.std.proofs.Common.{◌≡◌, Some, ap, option_map, subst, sym, ◌∙◌}
use Rattle.tenant_core.specs.States.{HasInventory}
use Rattle.tenant_cache.specs.Kept.{ReadyTenant, kept_at}
use Rattle.tenant_cache.proofs.NumberFacts.{known_among, true_among, true_same}
use Rattle.tenant_cache.proofs.ready_store.CachedStoreTenantStore.load.Goals as goal

-- after a look-up no more is kept than before
pub invariant_of-self : goal.invariant_of-self
invariant_of-self g c =
    record {
      states = λ honest live. true_among (g.T.TenantStore.has_state c.self.inside.below) c.self.inside.kept c.get.new.self c.get.ensures.same (c.self.invariant.states honest live);
      numbers = known_among c.self.inside.cache c.self.inside.kept c.get.new.self c.get.ensures.same c.self.invariant.numbers;
    }

pub invariant_of-self-in_err-clone : goal.invariant_of-self-in_err-clone
invariant_of-self-in_err-clone g c =
    record {
      states = λ honest live. true_among (g.T.TenantStore.has_state c.self.inside.below) c.self.inside.kept c.get.new.self c.get.ensures.same (c.self.invariant.states honest live);
      numbers = known_among c.self.inside.cache c.self.inside.kept c.get.new.self c.get.ensures.same c.self.invariant.numbers;
    }

pub invariant_of-self-in-Some : goal.invariant_of-self-in-Some
invariant_of-self-in-Some g c =
    record {
      states = λ honest live. true_among (g.T.TenantStore.has_state c.self.inside.below) c.self.inside.kept c.get.new.self c.get.ensures.same (c.self.invariant.states honest live);
      numbers = known_among c.self.inside.cache c.self.inside.kept c.get.new.self c.get.ensures.same c.self.invariant.numbers;
    }

-- the states are the same after the load below
pub invariant_of-self-in_err-found : goal.invariant_of-self-in_err-found
invariant_of-self-in_err-found g c =
    let open' = rw (← c.self.view_is) at c.requires.open in
    record {
      states = λ honest live. true_same (g.T.TenantStore.has_state c.self.inside.below) (g.T.TenantStore.has_state c.load.new.self) c.get.new.self
          (g.met.T.TenantStore.keeps_states c.self.inside.below c.load.new.self honest open' live (c.load.ensures.same honest live))
          (true_among (g.T.TenantStore.has_state c.self.inside.below) c.self.inside.kept c.get.new.self c.get.ensures.same (c.self.invariant.states (c.load.ensures.honest honest) open'));
      numbers = known_among c.self.inside.cache c.self.inside.kept c.get.new.self c.get.ensures.same c.self.invariant.numbers;
    }

pub invariant_of-self-in-Some-found : goal.invariant_of-self-in-Some-found
invariant_of-self-in-Some-found g c =
    let open' = rw (← c.self.view_is) at c.requires.open in
    record {
      states = λ honest live. true_same (g.T.TenantStore.has_state c.self.inside.below) (g.T.TenantStore.has_state c.load.new.self) c.get.new.self
          (g.met.T.TenantStore.keeps_states c.self.inside.below c.load.new.self honest open' live (c.load.ensures.same honest live))
          (true_among (g.T.TenantStore.has_state c.self.inside.below) c.self.inside.kept c.get.new.self c.get.ensures.same (c.self.invariant.states (c.load.ensures.honest honest) open'));
      numbers = known_among c.self.inside.cache c.self.inside.kept c.get.new.self c.get.ensures.same c.self.invariant.numbers;
    }

pub invariant_of-self-in_default-found : goal.invariant_of-self-in_default-found
invariant_of-self-in_default-found g c =
    let open' = rw (← c.self.view_is) at c.requires.open in
    record {
      states = λ honest live. true_same (g.T.TenantStore.has_state c.self.inside.below) (g.T.TenantStore.has_state c.load.new.self) c.get.new.self
          (g.met.T.TenantStore.keeps_states c.self.inside.below c.load.new.self honest open' live (c.load.ensures.same honest live))
          (true_among (g.T.TenantStore.has_state c.self.inside.below) c.self.inside.kept c.get.new.self c.get.ensures.same (c.self.invariant.states (c.load.ensures.honest honest) open'));
      numbers = known_among c.self.inside.cache c.self.inside.kept c.get.new.self c.get.ensures.same c.self.invariant.numbers;
    }

-- what is kept of the name is what it has
pub returns-in-Some-clause-found : goal.returns-in-Some-clause-found
returns-in-Some-clause-found g c = rw (← c.self.view_is) (λ honest.
    let open' = rw (← c.self.view_is) at c.requires.open in
    let at : kept_at c.self.inside.kept c.args.name.now ≡ Some c.in-Some.ready.value = sym c.in_ok-ready.ensures.found ∙ ap (option_map (λ r. r.value)) c.in-Some.is in
    let same : c.in_ok-clone.field-0.value ≡ c.in-Some.ready.value.inventory = c.in_ok-clone.ensures.cases ∙ c.inventory.ensures ∙ ap (λ (r : ReadyTenant). r.inventory) c.deref.ensures in
    subst (λ i. HasInventory (g.T.TenantStore.has_state c.self.inside.below) c.args.name.now (Some i)) (sym same) (c.self.invariant.states honest open' c.args.name.now c.in-Some.ready.value at))
