use Rattle.std.proofs.Common.{◌≡◌, take}
use Rattle.tenant_state.specs.Size as spec
use Rattle.tenant_state.proofs.size.group_reach.Given as goal

-- the reach of the pairs so far
abbrev pub invariant-loop-pair : goal.invariant-loop-pair
invariant-loop-pair l = l.reach ≡ spec.group_reach (take l.pair-index l.pairs)
