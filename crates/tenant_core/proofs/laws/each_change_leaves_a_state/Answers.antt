use Rattle.tenant_core.proofs.Making.{reads_maps}
use Rattle.tenant_core.proofs.StatesLeft.{action_leaves_state}
use Rattle.tenant_core.proofs.laws.each_change_leaves_a_state.Goals as goal

pub returns : goal.returns
returns c = action_leaves_state (reads_maps c.texts_are_read_as_they_say.ensures.map)
