use Rattle.crush_choose.specs.Firstn.{firstn}
use Rattle.crush_choose.proofs.Answering.{firstn_is}
use Rattle.crush_choose.proofs.Entering.{are_firstn_entries, entries_are}
use Rattle.crush_choose.proofs.laws.one_list_of_entries.Goals as goal

pub returns-clause-there : goal.returns-clause-there
returns-clause-there c = λ t w c. are_firstn_entries t w c (firstn t w c) (firstn_is t w c)

pub returns-clause-one : goal.returns-clause-one
returns-clause-one c = entries_are
