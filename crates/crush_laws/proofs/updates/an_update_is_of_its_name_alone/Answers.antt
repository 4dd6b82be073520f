use Rattle.crush_laws.proofs.Updated.{no_update, other_update, own_update}
use Rattle.crush_laws.proofs.updates.an_update_is_of_its_name_alone.Goals as goal

pub returns-clause-own : goal.returns-clause-own
returns-clause-own c = own_update

pub returns-clause-none : goal.returns-clause-none
returns-clause-none c = no_update

pub returns-clause-others : goal.returns-clause-others
returns-clause-others c = other_update
