use Rattle.tenant_state.proofs.Leaving.{fresh_is_state, inventory_after_stays, state_stays}
use Rattle.tenant_state.proofs.laws.changes_leave_states.Goals as goal

pub returns-clause-fresh : goal.returns-clause-fresh
returns-clause-fresh c = fresh_is_state

pub returns-clause-stays : goal.returns-clause-stays
returns-clause-stays c = state_stays

pub returns-clause-inventory : goal.returns-clause-inventory
returns-clause-inventory c = inventory_after_stays
