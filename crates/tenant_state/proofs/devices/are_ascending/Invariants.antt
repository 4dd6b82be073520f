use Rattle.std.proofs.Common.{◌≡◌, length}
use Rattle.tenant_state.specs.Ordered.{is_ascending}
use Rattle.tenant_state.specs.State.{is_lower_device}
use Rattle.tenant_state.proofs.devices.are_ascending.Given as goal

-- the rest of the list ascends exactly where the whole list does
abbrev pub invariant-loop-rest : goal.invariant-loop-rest
invariant-loop-rest l = is_ascending is_lower_device l.rest ≡ is_ascending is_lower_device l.states

abbrev pub decreases-loop-rest : goal.decreases-loop-rest
decreases-loop-rest l = length l.rest
