use Rattle.std.proofs.Common.{◌≡◌, length, map}
use Rattle.tenant_state.specs.Ordered.{is_ascending}
use Rattle.tenant_state.specs.State.{is_lower_pool}
use Rattle.tenant_state.proofs.pools.are_ascending.Given as goal

-- the rest of the list ascends exactly where the whole list does
abbrev pub invariant-loop-rest : goal.invariant-loop-rest
invariant-loop-rest l = is_ascending is_lower_pool (map (λ p. p.value) l.rest) ≡ is_ascending is_lower_pool (map (λ p. p.value) l.pools)

abbrev pub decreases-loop-rest : goal.decreases-loop-rest
decreases-loop-rest l = length l.rest
