use Rattle.crush_choose.proofs.Entries.{are_entries}
use Rattle.crush_choose.proofs.laws.marks_are_entries.Goals as goal

pub returns : goal.returns
returns c = are_entries
