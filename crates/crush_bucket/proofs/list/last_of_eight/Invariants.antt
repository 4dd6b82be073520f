use Rattle.crush_bucket.specs.Kinds.{takes}
use Rattle.crush_bucket.proofs.Greatest.{IsLast}
use Rattle.crush_bucket.proofs.list.last_of_eight.Given as goal

abbrev pub invariant-loop-lane : goal.invariant-loop-lane
invariant-loop-lane l = IsLast (takes l.fn.id l.items l.x l.r) l.from l.lane l.last
