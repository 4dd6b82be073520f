use Rattle.std.specs.BTreeMap.{get_by_text}
use Rattle.tenant_service.proofs.KeptStates.{states_left}
use Rattle.tenant_service.proofs.memory_store.MemoryStoreTenantStore.remove.Goals as goal

pub invariant_of-self : goal.invariant_of-self
invariant_of-self c = record {
  are_states = states_left (get_by_text c.args.self.now.states) (get_by_text c.take_out.new.states) c.args.name.now c.take_out.ensures c.args.self.now.are_states;
}
