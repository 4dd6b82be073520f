use Rattle.std.proofs.Common.{◌≡◌, take}
use Rattle.tenant_state.specs.Size as spec
use Rattle.tenant_state.proofs.size.device_reach.Given as goal

-- the reach of the states so far
abbrev pub invariant-loop-state : goal.invariant-loop-state
invariant-loop-state l = l.reach ≡ spec.device_reach (take l.state-index l.states)
