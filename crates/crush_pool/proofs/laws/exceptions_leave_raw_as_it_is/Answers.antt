use Rattle.crush_pool.proofs.Excepting.{raw_same, seed_same}
use Rattle.crush_pool.proofs.laws.exceptions_leave_raw_as_it_is.Goals as goal

pub returns-clause-seed : goal.returns-clause-seed
returns-clause-seed c = seed_same

pub returns-clause-raw : goal.returns-clause-raw
returns-clause-raw c = raw_same
