use Rattle.std.proofs.Common.{rules, add-zero}
use Rattle.crush_hash.proofs.MemberLanes.{below_eight}
use Rattle.crush_bucket.proofs.list.words.Goals as goal

pub returns : goal.returns
returns c =
    below_eight _ (rw add-zero (search rules)) (search rules) (search rules) (search rules) (search rules) (search rules) (search rules) (search rules)
