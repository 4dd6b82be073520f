-- The up lists of all groups of a pool.
use Rattle.std.specs.Prelude.{◌≡◌, List, map, option_map, Some}
use Rattle.crush_choose.specs.Marks.{Slot}
use Rattle.crush_pool.specs.Placements.{rule_numbered}
use Rattle.crush_pool.specs.Placers.{PoolOnMap}
use Rattle.crush_report.specs.Reports.{groups, up_by}

-- the map has the pool's rule, and the lists are the up lists of the groups, in order
abbrev pub AreUpListsOn : PoolOnMap → List (List Slot) → Type 0
AreUpListsOn p lists = option_map (λ rule. map (up_by p.map p.states p.pool p.pairs rule) (groups p.pool)) (rule_numbered p.map p.pool.rule) ≡ Some lists
