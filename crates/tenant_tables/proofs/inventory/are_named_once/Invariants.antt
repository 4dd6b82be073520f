use Rattle.std.proofs.Common.{◌≡◌, length, map}
use Rattle.tenant_state.specs.Valid.{are_named_once}
use Rattle.tenant_tables.proofs.inventory.are_named_once.Given as goal

-- the remaining pools decide
abbrev pub invariant-loop-rest : goal.invariant-loop-rest
invariant-loop-rest l = are_named_once (map (λ p. p.value) l.rest) ≡ are_named_once (map (λ p. p.value) l.pools)

abbrev pub decreases-loop-rest : goal.decreases-loop-rest
decreases-loop-rest l = length l.rest
