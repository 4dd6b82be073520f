-- Reports on a pool on a map that has the pool's rule.
use Rattle.std.proofs.Common.{◌≡◌, ◌≤◌, ℕ, List, length, map, Option, Some, None, option_map, option_and_then, is_some, true, refl, ap, sym, arith}
use Rattle.std.proofs.lemmas.Bool.{false≢true}
use Rattle.crush_map.specs.Map.{Map}
use Rattle.crush_map.specs.declared.draft.Rule.{Rule}
use Rattle.crush_bucket.specs.Tables.{tables_of}
use Rattle.crush_choose.specs.Marks.{Slot}
use Rattle.crush_choose.specs.Rules.{rule_answer}
use Rattle.crush_choose.specs.Weights.{weights_of}
use Rattle.crush_pool.specs.Exceptions.{excepted}
use Rattle.crush_pool.specs.Placements.{placed, placement, rule_numbered, up_of}
use Rattle.crush_pool.specs.Placers.{PoolOnMap, steps_in, steps_of}
use Rattle.crush_pool.specs.Pools.{is_pool, seed_of}
use Rattle.crush_pool.specs.States.{flags_of, reweights}
use Rattle.crush_pool.specs.declared.exceptions.Pair.{Pair}
use Rattle.crush_pool.specs.declared.placing.Placement.{Placement}
use Rattle.crush_pool.specs.declared.pool.PoolParts.{PoolParts}
use Rattle.crush_pool.specs.declared.states.DeviceState.{DeviceState}
use Rattle.crush_report.specs.Impact.{touched}
use Rattle.crush_report.specs.Moves.{move_rows}
use Rattle.crush_report.specs.OnMaps.{answer_on, up_on, touched_on}
use Rattle.crush_report.specs.Reports.{groups, impact, impact_by, moves, moves_by, up_list, usage, usage_by}
use Rattle.crush_report.specs.Usage.{usage_rows}
use Rattle.crush_report.proofs.Short.{answer_few as rule_few, up_short, size_few}
use Rattle.crush_choose.specs.declared.limits.TheConstants.{SIZE_LIMIT}

-- ---- the up list of a group

-- an up list by a rule that was looked for
abbrev up_found : Map → List DeviceState → PoolParts → List Pair → Option Rule → ℕ → List Slot
up_found m states p pairs found = up_list (tables_of m) (weights_of (reweights states)) (flags_of states) (steps_in found) p pairs

-- the up list of a group for which the rule gave the answer `raw`
abbrev pub up_from : PoolOnMap → ℕ → List Slot → List Slot
up_from p group raw = up_of p.pool.erasure (flags_of p.states) (excepted (tables_of p.map) (weights_of (reweights p.states)) p.pairs group raw)

-- that of what the rule answers
pub up_of_answer : (p : PoolOnMap) (group : ℕ) (raw : List Slot)
    → raw ≡ rule_answer (tables_of p.map) (weights_of (reweights p.states)) (steps_of p) (seed_of p.pool group) p.pool.size
    → up_from p group raw ≡ up_on p group
unfolding placed
up_of_answer p group raw e =
    ap (λ (slots : List Slot). up_of p.pool.erasure (flags_of p.states) (excepted (tables_of p.map) (weights_of (reweights p.states)) p.pairs group slots)) e

-- an answer has at most SIZE_LIMIT slots
pub answer_few : (p : PoolOnMap) (group : ℕ) (raw : List Slot) → raw ≡ answer_on p group → p.pool.size ≤ SIZE_LIMIT → length raw ≤ SIZE_LIMIT
answer_few p group raw e few =
    let short = rule_few (tables_of p.map) (weights_of (reweights p.states)) (steps_of p) (seed_of p.pool group) p.pool.size in
    rw e (omega (arith, short, few))

-- an up list has at most SIZE_LIMIT slots
pub up_few : (p : PoolOnMap) → is_pool p.pool ≡ true → (group : ℕ) → length (up_on p group) ≤ SIZE_LIMIT
up_few p is group =
    let short = up_short (tables_of p.map) (weights_of (reweights p.states)) (flags_of p.states) (steps_of p) p.pool p.pairs group in
    omega (arith, short, size_few p.pool is)

-- ---- reports

usage_found : (m : Map) (states : List DeviceState) (p : PoolParts) (pairs : List Pair) (found : Option Rule) → is_some found ≡ true
    → Some (usage_rows m.devices (map (up_found m states p pairs found) (groups p))) ≡ option_map (usage_by m states p pairs) found
usage_found m states p pairs None there = absurd (false≢true there)
usage_found m states p pairs (Some rule) there = refl

pub usage_on : (p : PoolOnMap) → is_some (rule_numbered p.map p.pool.rule) ≡ true → Some (usage_rows p.map.devices (map (up_on p) (groups p.pool))) ≡ usage p.map p.states p.pool p.pairs
usage_on p there = usage_found p.map p.states p.pool p.pairs (rule_numbered p.map p.pool.rule) there

moves_found : (from to : Map) (states : List DeviceState) (p : PoolParts) (pairs : List Pair) (first second : Option Rule) → is_some first ≡ true → is_some second ≡ true
    → Some (move_rows (up_found from states p pairs first) (up_found to states p pairs second) (groups p))
    ≡ option_and_then (λ rule. option_map (moves_by from to states p pairs rule) second) first
moves_found from to states p pairs None second there also = absurd (false≢true there)
moves_found from to states p pairs (Some first) None there also = absurd (false≢true also)
moves_found from to states p pairs (Some first) (Some second) there also = refl

pub moves_on : (from to : PoolOnMap) → to.states ≡ from.states → to.pool ≡ from.pool → to.pairs ≡ from.pairs
    → is_some (rule_numbered from.map from.pool.rule) ≡ true → is_some (rule_numbered to.map to.pool.rule) ≡ true
    → Some (move_rows (up_on from) (up_on to) (groups from.pool)) ≡ moves from.map to.map from.states from.pool from.pairs
moves_on from to states pool pairs there also =
    rw (states, pool, pairs) (moves_found from.map to.map from.states from.pool from.pairs (rule_numbered from.map from.pool.rule) (rule_numbered to.map from.pool.rule) there (rw pool at also))

impact_found : (m : Map) (states : List DeviceState) (p : PoolParts) (pairs : List Pair) (device : ℕ) (found : Option Rule) → is_some found ≡ true
    → Some (touched (tables_of m) (weights_of (reweights states)) (steps_in found) p pairs device (groups p)) ≡ option_map (impact_by m states p pairs device) found
impact_found m states p pairs device None there = absurd (false≢true there)
impact_found m states p pairs device (Some rule) there = refl

pub impact_on : (p : PoolOnMap) (device : ℕ) → is_some (rule_numbered p.map p.pool.rule) ≡ true → Some (touched_on p device (groups p.pool)) ≡ impact p.map p.states p.pool p.pairs device
impact_on p device there = impact_found p.map p.states p.pool p.pairs device (rule_numbered p.map p.pool.rule) there
