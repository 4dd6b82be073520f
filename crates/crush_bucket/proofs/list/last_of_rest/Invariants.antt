use Rattle.std.proofs.Common.{◌≡◌, unwrap_or}
use Rattle.crush_bucket.specs.Kinds.{greatest, takes}
use Rattle.crush_bucket.proofs.list.last_of_rest.Given as goal

abbrev pub invariant-loop-place : goal.invariant-loop-place
invariant-loop-place l = l.last ≡ unwrap_or (greatest (takes l.fn.id l.items l.x l.r) l.place) 0
