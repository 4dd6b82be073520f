use Rattle.tenant_tables.proofs.FirstState.{one_first_state}
use Rattle.tenant_tables.proofs.laws.names_of_schema_1_stand_for_one_state.Goals as goal

pub returns : goal.returns
returns c = one_first_state c.written_maps_are_read_back.ensures.stored
