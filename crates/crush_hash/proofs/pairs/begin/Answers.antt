use Rattle.crush_hash.proofs.Reaching.{two_first}
use Rattle.crush_hash.proofs.pairs.begin.Goals as goal

pub returns-else-first-eq0-clause-two : goal.returns-else-first-eq0-clause-two
returns-else-first-eq0-clause-two c = λ other. two_first c.args.row.now (0, c.args.first) (c.args.first, 0) c.requires
