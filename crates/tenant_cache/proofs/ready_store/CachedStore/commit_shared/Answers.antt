use Rattle.std.proofs.Common.{rules, Some, ◌≡◌, false}
use Rattle.tenant_state.specs.State.{after}
use Rattle.tenant_cache.proofs.Loading.{left_or_made}
use Rattle.tenant_cache.proofs.NumberFacts.{known_without, true_without}
use Rattle.tenant_cache.proofs.ready_store.CachedStore.commit_shared.Goals as goal

-- nothing is kept of the name, and of other names the same as before: where the change failed, and
-- before the load
pub invariant_of-self : goal.invariant_of-self
invariant_of-self g c =
    let open' = rw (← c.self.view_is) at c.requires.open in
    record {
      states = λ honest live. true_without (g.T.TenantStore.has_state c.self.inside.below) (g.T.TenantStore.has_state c.commit.new.self) c.self.inside.kept c.forget.new.self c.args.name.now
          (c.self.invariant.states (c.commit.ensures.honest honest) open') c.forget.ensures (c.commit.ensures.others honest live);
      numbers = known_without c.self.inside.cache c.self.inside.kept c.forget.new.self c.args.name.now c.self.invariant.numbers c.forget.ensures;
    }

pub invariant_of-self-2 : goal.invariant_of-self-2
invariant_of-self-2 g c =
    let open' = rw (← c.self.view_is) at c.requires.open in
    record {
      states = λ honest live. true_without (g.T.TenantStore.has_state c.self.inside.below) (g.T.TenantStore.has_state c.commit.new.self) c.self.inside.kept c.forget.new.self c.args.name.now
          (c.self.invariant.states (c.commit.ensures.honest honest) open') c.forget.ensures (c.commit.ensures.others honest live);
      numbers = known_without c.self.inside.cache c.self.inside.kept c.forget.new.self c.args.name.now c.self.invariant.numbers c.forget.ensures;
    }

-- where the load failed for good
pub returns-clause-crash : goal.returns-clause-crash
returns-clause-crash g c = rw (← c.self.view_is) (λ honest latched s has.
    let before = c.load.ensures.honest honest in
    let works = c.in_ok-commit.ensures.latch in
    left_or_made (g.T.TenantStore.has_state c.self.inside.below) (g.T.TenantStore.has_state c.commit.new.self) (g.T.TenantStore.may_leave c.load.new.self) c.args.name.now (Some (after c.args.change.now s))
    (c.in_ok-commit.ensures.made before s has) (λ x y is also. g.met.T.TenantStore.one_state c.commit.new.self c.args.name.now x y before works is also)
    (c.commit.ensures.others before works) (c.load.ensures.crash honest latched))

-- the load found what the change made
pub returns-clause-made : goal.returns-clause-made
returns-clause-made g c = rw (← c.self.view_is) (λ honest s has.
    let before = c.load.ensures.honest honest in
    let made = c.in_ok-commit.ensures.made before s has in
    let stays : g.T.TenantStore.latched c.load.new.self ≡ false → g.T.TenantStore.has_state c.load.new.self c.args.name.now (Some (after c.args.change.now s)) = λ works. (g.met.T.TenantStore.keeps_states c.commit.new.self c.load.new.self honest c.in_ok-commit.ensures.latch works (c.load.ensures.same honest works) c.args.name.now (Some (after c.args.change.now s))).0 made in
    search rules)
