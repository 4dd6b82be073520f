use Rattle.tenant_service.proofs.memory_store.MemoryStoreTenantStore.commit.Goals as goal

pub invariant_of-self : goal.invariant_of-self
invariant_of-self c = record { are_states = c.change_named.ensures.states c.args.self.now.are_states }
