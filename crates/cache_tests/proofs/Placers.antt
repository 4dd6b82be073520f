-- A placer that is there is that of its parts.
use Rattle.std.proofs.Common.{◌≡◌, Option, Some, None, option_map}
use Rattle.crush_map.specs.declared.draft.Rule.{Rule}
use Rattle.crush_pool.specs.Placers.{PoolOnMap}

pub same_placer : (rule : Option Rule) (p q : PoolOnMap) → option_map (λ (r : Rule). p) rule ≡ Some q → p ≡ q
same_placer (Some r) p q is = cc
same_placer None p q is = cc
