-- Reports on a pool: each is a count or a filter over the placements of all its groups, on a map,
-- with the pairs of the pool and with states of devices.
use Rattle.std.specs.Prelude.{ℕ, Bool, List, map, Option, option_map, option_and_then}
use Rattle.std.specs.List.{range_with_len}
use Rattle.crush_map.specs.Map.{Map}
use Rattle.crush_map.specs.declared.draft.Rule.{Rule}
use Rattle.crush_map.specs.declared.draft.Step.{Step}
use Rattle.crush_bucket.specs.Tables.{TablesView, tables_of}
use Rattle.crush_choose.specs.Marks.{Slot}
use Rattle.crush_choose.specs.Weights.{weights_of}
use Rattle.crush_pool.specs.Placements.{placed, rule_numbered}
use Rattle.crush_pool.specs.States.{flags_of, reweights}
use Rattle.crush_pool.specs.declared.exceptions.Pair.{Pair}
use Rattle.crush_pool.specs.declared.pool.PoolParts.{PoolParts}
use Rattle.crush_pool.specs.declared.states.DeviceState.{DeviceState}
use Rattle.crush_report.specs.Usage.{usage_rows}
use Rattle.crush_report.specs.Moves.{move_rows}
use Rattle.crush_report.specs.Impact.{touched}
use Rattle.crush_report.specs.declared.rows.UsageRow.{UsageRow}
use Rattle.crush_report.specs.declared.rows.MoveRow.{MoveRow}

-- the groups of a pool, in order
abbrev pub groups : PoolParts → List ℕ
groups p = range_with_len 0 p.pg_num

-- the up list of a group: by the tables of a map, reweights, which devices are up, and the steps of
-- the pool's rule
abbrev pub up_list : TablesView → List ℕ → List Bool → List Step → PoolParts → List Pair → ℕ → List Slot
up_list t w flags steps p pairs group = (placed t w flags steps p pairs group).up

-- ---- on a map, by a rule of it

abbrev pub up_by : Map → List DeviceState → PoolParts → List Pair → Rule → ℕ → List Slot
up_by m states p pairs rule = up_list (tables_of m) (weights_of (reweights states)) (flags_of states) rule.steps p pairs

-- the raw list of a group
abbrev pub raw_by : Map → List DeviceState → PoolParts → List Pair → Rule → ℕ → List Slot
raw_by m states p pairs rule group = (placed (tables_of m) (weights_of (reweights states)) (flags_of states) rule.steps p pairs group).raw

abbrev pub usage_by : Map → List DeviceState → PoolParts → List Pair → Rule → List UsageRow
usage_by m states p pairs rule = usage_rows m.devices (map (up_by m states p pairs rule) (groups p))

abbrev pub moves_by : Map → Map → List DeviceState → PoolParts → List Pair → Rule → Rule → List MoveRow
moves_by from to states p pairs first second = move_rows (up_by from states p pairs first) (up_by to states p pairs second) (groups p)

abbrev pub impact_by : Map → List DeviceState → PoolParts → List Pair → ℕ → Rule → List ℕ
impact_by m states p pairs device rule = touched (tables_of m) (weights_of (reweights states)) rule.steps p pairs device (groups p)

-- ---- on maps, by the rule of the pool; none where a map lacks it

abbrev pub usage : Map → List DeviceState → PoolParts → List Pair → Option (List UsageRow)
usage m states p pairs = option_map (usage_by m states p pairs) (rule_numbered m p.rule)

abbrev pub moves : Map → Map → List DeviceState → PoolParts → List Pair → Option (List MoveRow)
moves from to states p pairs =
    option_and_then (λ first. option_map (moves_by from to states p pairs first) (rule_numbered to p.rule)) (rule_numbered from p.rule)

abbrev pub impact : Map → List DeviceState → PoolParts → List Pair → ℕ → Option (List ℕ)
impact m states p pairs device = option_map (impact_by m states p pairs device) (rule_numbered m p.rule)
