use Rattle.crush_ln.proofs.Table.{reciprocal_is}
use Rattle.crush_ln.proofs.laws.reciprocals_are_rounded_up.Goals as goal

pub returns : goal.returns
returns c = reciprocal_is
