use Rattle.crush_choose.specs.Firstn.{firstn}
use Rattle.crush_choose.proofs.Answering.{firstn_is}
use Rattle.crush_choose.proofs.Entering.{are_firstn_entries, entries_are}
use Rattle.crush_choose.proofs.laws.entries_are_those_of_marks.Goals as goal

pub returns-clause-entries : goal.returns-clause-entries
returns-clause-entries c = are_firstn_entries

pub returns-clause-marks : goal.returns-clause-marks
returns-clause-marks c = λ t w c found are. (firstn t w c, firstn_is t w c, entries_are t w c found are)
