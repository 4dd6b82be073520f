use Rattle.std.proofs.Common.{subst, sym}
use Rattle.std.specs.BTreeMap.{get_by_text}
use Rattle.tenant_service.proofs.KeptStates.{states_put}
use Rattle.tenant_core.specs.tenant_state.proofs.Leaving.{fresh_is_state}
use Rattle.tenant_core.specs.tenant_state.specs.Valid.{IsState}
use Rattle.tenant_service.proofs.memory_store.MemoryStoreTenantStore.create.Goals as goal

pub invariant_of-self-2 : goal.invariant_of-self-2
invariant_of-self-2 c = record {
  are_states = states_put c.put.result (get_by_text c.args.self.now.states) (get_by_text c.put.new.states) c.args.name.now _ c.put.ensures.ok c.put.ensures.err
      (subst IsState (sym c.in_ok-fresh.ensures) fresh_is_state) c.args.self.now.are_states;
}
