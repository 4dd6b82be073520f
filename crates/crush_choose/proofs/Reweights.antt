-- The reweight of an id among those of all ids.
use Rattle.std.proofs.Common.{◌≡◌, ℕ, List, ap, ◌∙◌}
use Rattle.crush_map.specs.crush_types.specs.DeviceValues.{Values, values_of}
use Rattle.crush_map.specs.crush_types.proofs.DeviceValues.{value-values_of}
use Rattle.crush_choose.specs.Weights.{reweight_of, weights_of, weight_at}
use Rattle.crush_choose.specs.declared.weights.TheConstants.{FULL}

pub weight_of : (given : List (ℕ × ℕ)) (id : ℕ) → weight_at (weights_of given) id ≡ reweight_of given id
unfolding weights_of values_of
weight_of given id = value-values_of FULL given id

-- the same of a table by device id, whose rest is 1.0
pub rest_is : (given : List (ℕ × ℕ)) (table : Values ℕ) → table ≡ values_of FULL given → table.rest ≡ FULL
unfolding values_of
rest_is given table e = ap (λ (t : Values ℕ). t.rest) e

pub each_is : (given : List (ℕ × ℕ)) (table : Values ℕ) → table ≡ values_of FULL given → (id : ℕ) → weight_at table.values id ≡ reweight_of given id
unfolding weights_of
each_is given table e id = ap (λ (t : Values ℕ). weight_at t.values id) e ∙ weight_of given id
