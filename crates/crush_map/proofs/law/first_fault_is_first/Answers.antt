use Rattle.crush_map.proofs.First.{none_stands, fault_stands}
use Rattle.crush_map.proofs.law.first_fault_is_first.Goals as goal

pub returns-clause-none : goal.returns-clause-none
returns-clause-none c = none_stands

pub returns-clause-fault : goal.returns-clause-fault
returns-clause-fault c = fault_stands
