use Rattle.std.proofs.Common.{◌≡◌, ◌-◌, ◌^◌, min, take}
use Rattle.tenant_state.specs.Size as spec
use Rattle.tenant_state.proofs.size.items_in.Given as goal

-- the items so far
abbrev pub invariant-loop-bucket : goal.invariant-loop-bucket
invariant-loop-bucket l = l.items ≡ min (spec.items_in (take l.bucket-index l.buckets)) (2 ^ 64 - 1)
