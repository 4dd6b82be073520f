use Rattle.tenant_cache_tests.proofs.watched.WatchedTenantStore.commit.Goals as goal

-- the call went through to the store below
pub returns-clause-crash : goal.returns-clause-crash
returns-clause-crash g c = λ honest latched.
    let below = rw c.in_ok-meet.ensures.latch at latched in
    (rw c.in_ok-meet.ensures.below at c.commit.ensures.crash) honest below
