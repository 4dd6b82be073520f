use Rattle.std.proofs.Common.{◌≡◌, ◌-◌, ◌^◌, map, min, take}
use Rattle.std.specs.List.{sum_by}
use Rattle.tenant_state.specs.Size.{pool_size}
use Rattle.tenant_state.proofs.size.size_of_pools.Given as goal

-- the sum of the pools so far
abbrev pub invariant-loop-pool : goal.invariant-loop-pool
invariant-loop-pool l = l.total ≡ min (sum_by pool_size (map (λ p. p.value) (take l.pool-index l.pools))) (2 ^ 64 - 1)
