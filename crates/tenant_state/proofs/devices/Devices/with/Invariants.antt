use Rattle.std.proofs.Common.{◌≡◌, take}
use Rattle.tenant_state.specs.State.{with_states}
use Rattle.tenant_state.proofs.devices.Devices.with.Given as goal

-- the states with those changed so far
abbrev pub invariant-loop-state : goal.invariant-loop-state
invariant-loop-state l = l.states.items ≡ with_states (take l.state-index l.changed) l.self
