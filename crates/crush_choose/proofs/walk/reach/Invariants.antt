use Rattle.std.proofs.Common.{◌≡◌, ◌<◌, ◌+◌, length}
use Rattle.crush_choose.specs.Reach.{step}
use Rattle.crush_choose.proofs.Reaching.{GoesOn}
use Rattle.crush_choose.proofs.walk.reach.Given as goal

abbrev pub invariant-down : goal.invariant-down
invariant-down l = record {
  in_range : l.bucket < length l.initial.scratch.buckets;
  same : l.scratch ≡ l.initial.scratch;
  on : GoesOn l.initial.scratch l.walk.x (λ b. l.attempts.start + step l.initial.scratch l.attempts.numrep l.attempts.round b) l.walk.wanted l.walk.from l.bucket;
}

abbrev pub decreases-down : goal.decreases-down
decreases-down l = l.bucket
