use Rattle.std.proofs.Common.{rules, ◌≡◌, true, Some, is_ok}
use Rattle.tenant_core.specs.tenant_state.specs.State.{after}
use Rattle.tenant_store.proofs.Watching.{left_missed}
use Rattle.tenant_store.proofs.watched_store.WatchedStoreTenantStore.commit.Goals as goal

-- the change was made, and an opening may find it
pub returns-then-misses_after-clause-crash : goal.returns-then-misses_after-clause-crash
returns-then-misses_after-clause-crash g c = rw c.misses_after.ensures.below (rw (← c.misses_before.ensures.below) (rw (← c.self.view_is) (λ honest latched s has.
    let store = g.T.TenantStore in
    let old = c.self.inside.below in
    let call = c.commit-made in
    let new = call.new.self in
    let before : store.is_honest new = honest in
    let ok : is_ok call.result ≡ true = search rules in
    left_missed (store.has_state old) (store.has_state new) (store.may_leave new) c.args.name.now (Some (after c.args.change.now s)) call.result (store.latched new) ok call.ensures.latch (call.ensures.made before s has)
    (λ works x y is also. g.met.T.TenantStore.one_state new c.args.name.now x y before works is also) (call.ensures.others before)
    (λ works t found there. g.met.T.TenantStore.settled new t found before works there))))
