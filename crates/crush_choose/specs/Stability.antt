-- Second reweights under which a run of a rule stays as it was.
use Rattle.std.specs.Prelude.{◌≡◌, ℕ, ◌≤◌, List, true}
use Rattle.crush_map.specs.Faults.{has_number}
use Rattle.crush_choose.specs.Weights.{weight_at}

-- the second reweights are nowhere higher than the first, and the same for each of `devices`: any
-- number of others may be lowered
pub record AreLoweredOutside (devices first second : List ℕ) : Type 0 where
  pub lower : (device : ℕ) → weight_at second device ≤ weight_at first device
  pub same : (device : ℕ) → has_number devices device ≡ true → weight_at second device ≡ weight_at first device
