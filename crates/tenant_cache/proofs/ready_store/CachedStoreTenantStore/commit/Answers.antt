use Rattle.tenant_cache.proofs.ready_store.CachedStoreTenantStore.commit.Goals as goal

pub returns-then-self-clause-crash : goal.returns-then-self-clause-crash
returns-then-self-clause-crash g c = rw c.give_up_touches.ensures at c.commit_shared.ensures.crash

pub returns-else-self-clause-crash : goal.returns-else-self-clause-crash
returns-else-self-clause-crash g c = rw c.give_up_touches.ensures at c.commit_kept.ensures.crash
