use Rattle.crush_types.proofs.Names.{kind_of_name, name_of_kind}
use Rattle.crush_types.proofs.laws.names_are_of_one_kind.Goals as goal

pub returns-clause-named : goal.returns-clause-named
returns-clause-named c = kind_of_name

pub returns-clause-only : goal.returns-clause-only
returns-clause-only c = name_of_kind
