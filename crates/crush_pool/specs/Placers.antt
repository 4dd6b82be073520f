-- A pool on a map, and how the rule of the pool runs for its groups.
use Rattle.std.specs.Prelude.{List, [], Option, Some, None}
use Rattle.crush_map.specs.Map.{Map}
use Rattle.crush_map.specs.declared.draft.Rule.{Rule}
use Rattle.crush_map.specs.declared.draft.Step.{Step}
use Rattle.crush_pool.specs.Placements.{rule_numbered}
use Rattle.crush_pool.specs.declared.exceptions.Pair.{Pair}
use Rattle.crush_pool.specs.declared.pool.PoolParts.{PoolParts}
use Rattle.crush_pool.specs.declared.states.DeviceState.{DeviceState}

-- a pool on a map, with its pairs and with states of devices
pub record PoolOnMap : Type 0 where
  pub map : Map
  pub states : List DeviceState
  pub pool : PoolParts
  pub pairs : List Pair

abbrev pub steps_in : Option Rule → List Step
steps_in None = []
steps_in (Some rule) = rule.steps

-- the steps of the rule that the pool has; no step where the map lacks it
abbrev pub steps_of : PoolOnMap → List Step
steps_of p = steps_in (rule_numbered p.map p.pool.rule)
