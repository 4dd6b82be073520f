use Rattle.std.proofs.Common.{rules}
use Rattle.crush_hash.proofs.MemberLanes.{below_eight}
use Rattle.crush_bucket.proofs.list.first_words.Goals as goal

pub returns : goal.returns
returns c = below_eight _ (search rules) (search rules) (search rules) (search rules) (search rules) (search rules) (search rules) (search rules)
