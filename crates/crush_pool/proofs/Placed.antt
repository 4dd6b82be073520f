-- The placement of a group, from what the rule of the pool answered.
use Rattle.std.proofs.Common.{◌≡◌, ℕ, List, Some, refl, ap, ◌∙◌}
use Rattle.crush_map.specs.Map.{Map}
use Rattle.crush_map.specs.declared.draft.Rule.{Rule}
use Rattle.crush_bucket.specs.Tables.{tables_of}
use Rattle.crush_choose.specs.Marks.{Slot}
use Rattle.crush_choose.specs.Rules.{rule_answer}
use Rattle.crush_choose.specs.Weights.{weights_of}
use Rattle.crush_pool.specs.Exceptions.{excepted}
use Rattle.crush_pool.specs.Placements.{placed, placement, primary_of, rule_numbered, up_of}
use Rattle.crush_pool.specs.Placers.{steps_in}
use Rattle.crush_pool.specs.Pools.{seed_of}
use Rattle.crush_pool.specs.States.{flags_of, reweights}
use Rattle.crush_pool.specs.declared.exceptions.Pair.{Pair}
use Rattle.crush_pool.specs.declared.placing.Placement.{Placement}
use Rattle.crush_pool.specs.declared.pool.PoolParts.{PoolParts}
use Rattle.crush_pool.specs.declared.states.DeviceState.{DeviceState}

of_parts : (q : Placement) (seed : ℕ) (raw up : List Slot) (primary : Slot) → q.seed ≡ seed → q.raw ≡ raw → q.up ≡ up → q.primary ≡ primary
    → record { seed = seed; raw = raw; up = up; primary = primary } ≡ q
of_parts q seed raw up primary a b c d = rw (← a, ← b, ← c, ← d) refl

pub placed_by : (m : Map) (states : List DeviceState) (p : PoolParts) (pairs : List Pair) (rule : Rule) (group : ℕ) (raw : List Slot) (q : Placement)
    → rule_numbered m p.rule ≡ Some rule
    → raw ≡ rule_answer (tables_of m) (weights_of (reweights states)) (steps_in (rule_numbered m p.rule)) (seed_of p group) p.size
    → q.seed ≡ seed_of p group → q.raw ≡ raw
    → q.up ≡ up_of p.erasure (flags_of states) (excepted (tables_of m) (weights_of (reweights states)) pairs group raw) → q.primary ≡ primary_of q.up
    → placement m states p pairs group ≡ Some q
unfolding placed
placed_by m states p pairs rule group raw q found answer seed same up primary =
    let made = rule_answer (tables_of m) (weights_of (reweights states)) rule.steps (seed_of p group) p.size in
    let list = λ (slots : List Slot). up_of p.erasure (flags_of states) (excepted (tables_of m) (weights_of (reweights states)) pairs group slots) in
    let answered : raw ≡ made = rw found at answer in
    let ups = up ∙ ap list answered in
    let is = of_parts q (seed_of p group) made (list made) (primary_of (list made)) seed (same ∙ answered) ups (primary ∙ ap (λ (slots : List Slot). primary_of slots) ups) in
    rw found (ap (λ (one : Placement). Some one) is)
