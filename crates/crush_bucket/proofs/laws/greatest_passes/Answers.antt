use Rattle.crush_bucket.proofs.Greatest.{greatest_is}
use Rattle.crush_bucket.proofs.laws.greatest_passes.Goals as goal

pub returns : goal.returns
returns c = greatest_is
