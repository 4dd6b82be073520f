use Rattle.tenant_tables.proofs.OneState.{one_state}
use Rattle.tenant_tables.proofs.laws.names_stand_for_one_state.Goals as goal

pub returns : goal.returns
returns c = one_state c.written_maps_are_read_back.ensures.stored
