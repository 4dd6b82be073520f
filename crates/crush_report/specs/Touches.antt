-- Which groups of a pool each device can touch, as one list of pairs.
use Rattle.std.specs.Prelude.{◌≡◌, ℕ, ◌==◌, List, map, filter, Some}
use Rattle.crush_pool.specs.Placers.{PoolOnMap}
use Rattle.crush_report.specs.Reports.{impact}
use Rattle.crush_report.specs.declared.touches.Touch.{Touch}

-- the groups of a device, in the order of the pairs
abbrev pub groups_in : List Touch → ℕ → List ℕ
groups_in pairs device = map (λ t. t.group) (filter (λ t. t.device == device) pairs)

-- of each device the pairs have the groups that it can touch, in order
abbrev pub AreTouchesOn : PoolOnMap → List Touch → Type 0
AreTouchesOn p pairs = (device : ℕ) → Some (groups_in pairs device) ≡ impact p.map p.states p.pool p.pairs device
