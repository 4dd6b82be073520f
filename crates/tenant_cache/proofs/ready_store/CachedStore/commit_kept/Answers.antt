use Rattle.std.proofs.Common.{◌≡◌, [], Some, ap, option_map, subst, sym, ◌∙◌}
use Rattle.tenant_cache.specs.Kept.{ReadyTenant, Updates}
use Rattle.tenant_state.specs.State.{inventory_after}
use Rattle.tenant_cache.proofs.Following.{committed}
use Rattle.tenant_cache.proofs.NumberFacts.{known_among, known_put, known_without, true_among, true_same, true_without}
use Rattle.tenant_cache.proofs.ready_store.CachedStore.commit_kept.Goals as goal

-- after a look-up no more is kept than before
pub invariant_of-self : goal.invariant_of-self
invariant_of-self g c =
    record {
      states = λ honest live. true_among (g.T.TenantStore.has_state c.self.inside.below) c.self.inside.kept c.get.new.self c.get.ensures.same (c.self.invariant.states honest live);
      numbers = known_among c.self.inside.cache c.self.inside.kept c.get.new.self c.get.ensures.same c.self.invariant.numbers;
    }

pub invariant_of-self-in_err-next : goal.invariant_of-self-in_err-next
invariant_of-self-in_err-next g c =
    record {
      states = λ honest live. true_among (g.T.TenantStore.has_state c.self.inside.below) c.self.inside.kept c.get.new.self c.get.ensures.same (c.self.invariant.states honest live);
      numbers = known_among c.self.inside.cache c.self.inside.kept c.get.new.self c.get.ensures.same c.self.invariant.numbers;
    }

pub invariant_of-self-in_err-key : goal.invariant_of-self-in_err-key
invariant_of-self-in_err-key g c =
    record {
      states = λ honest live. true_among (g.T.TenantStore.has_state c.self.inside.below) c.self.inside.kept c.get.new.self c.get.ensures.same (c.self.invariant.states honest live);
      numbers = known_among c.self.inside.cache c.self.inside.kept c.get.new.self c.get.ensures.same c.self.invariant.numbers;
    }

-- a call that failed left the states unchanged
pub invariant_of-self-in_err-commit : goal.invariant_of-self-in_err-commit
invariant_of-self-in_err-commit g c =
    let open' = rw (← c.self.view_is) at c.requires.open in
    record {
      states = λ honest live. true_same (g.T.TenantStore.has_state c.self.inside.below) (g.T.TenantStore.has_state c.commit.new.self) c.get.new.self
          (g.met.T.TenantStore.keeps_states c.self.inside.below c.commit.new.self honest open' live (c.in_err-commit.ensures.err honest live))
          (true_among (g.T.TenantStore.has_state c.self.inside.below) c.self.inside.kept c.get.new.self c.get.ensures.same (c.self.invariant.states (c.commit.ensures.honest honest) open'));
      numbers = known_among c.self.inside.cache c.self.inside.kept c.get.new.self c.get.ensures.same c.self.invariant.numbers;
    }

-- what is kept of the name is what the state has after the change, with no number
pub invariant_of-self-in-Some-2 : goal.invariant_of-self-in-Some-2
invariant_of-self-in-Some-2 g c =
    let open' = rw (← c.self.view_is) at c.requires.open in
    let next = c.in-Some-2.next.value in
    let made : c.in-Some-2.next.value ≡ record { inventory = inventory_after c.args.change.now c.deref.result.now.inventory; numbers = [] } = rw c.in-Some-2.is at c.in_ok-next.ensures.next in
    let updates = subst (λ n. Updates n (Some next) c.get.new.self c.put.new.self) c.in_ok-key.ensures.ok c.put.ensures.only in
    record {
      states = λ honest live.
          let was_honest = c.commit.ensures.honest honest in
          let there = (rw (← c.self.view_is) at c.requires.there) was_honest in
          committed (g.T.TenantStore.has_state c.self.inside.below) (g.T.TenantStore.has_state c.commit.new.self) c.self.inside.kept c.get.new.self c.put.new.self c.args.name.now c.args.change.now
          c.in-Some.ready.value next (c.self.invariant.states was_honest open') c.get.ensures.same
          (sym c.in_ok-ready.ensures.found ∙ ap (option_map (λ r. r.value)) c.in-Some.is)
          (ap (λ (r : ReadyTenant). r.inventory) made ∙ ap (λ (r : ReadyTenant). inventory_after c.args.change.now r.inventory) c.deref.ensures)
          updates there.0 there.1 there.2 (λ x y is also. g.met.T.TenantStore.one_state c.self.inside.below c.args.name.now x y was_honest open' is also)
          (c.in_ok-commit.ensures.made honest there.0 there.1) (c.commit.ensures.others honest live);
      numbers = known_put c.self.inside.cache c.get.new.self c.put.new.self c.args.name.now next
          (known_among c.self.inside.cache c.self.inside.kept c.get.new.self c.get.ensures.same c.self.invariant.numbers) (ap (λ (r : ReadyTenant). r.numbers) made) updates;
    }

-- nothing is kept of the name, and of other names the same as before
pub invariant_of-self-2 : goal.invariant_of-self-2
invariant_of-self-2 g c =
    let open' = rw (← c.self.view_is) at c.requires.open in
    record {
      states = λ honest live. true_without (g.T.TenantStore.has_state c.self.inside.below) (g.T.TenantStore.has_state c.commit-2.new.self) c.get.new.self c.forget.new.self c.args.name.now
          (true_among (g.T.TenantStore.has_state c.self.inside.below) c.self.inside.kept c.get.new.self c.get.ensures.same (c.self.invariant.states (c.commit-2.ensures.honest honest) open'))
          c.forget.ensures (c.commit-2.ensures.others honest live);
      numbers = known_without c.self.inside.cache c.get.new.self c.forget.new.self c.args.name.now
          (known_among c.self.inside.cache c.self.inside.kept c.get.new.self c.get.ensures.same c.self.invariant.numbers) c.forget.ensures;
    }
