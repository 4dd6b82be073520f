use Rattle.std.proofs.Common.{◌≡◌, take}
use Rattle.tenant_state.specs.Size as spec
use Rattle.tenant_state.proofs.size.bucket_reach.Given as goal

-- the reach of the buckets so far
abbrev pub invariant-loop-bucket : goal.invariant-loop-bucket
invariant-loop-bucket l = l.reach ≡ spec.bucket_reach (take l.bucket-index l.buckets)
