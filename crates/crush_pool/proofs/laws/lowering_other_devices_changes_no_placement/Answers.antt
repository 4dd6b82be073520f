use Rattle.std.proofs.Common.{◌≡◌, ◌||◌, ◌++◌, ℕ, Bool, true, false, Some, refl, ap, ◌∙◌}
use Rattle.std.proofs.lemmas.List.Folds.{list_any-append}
use Rattle.crush_map.specs.Faults.{has_number}
use Rattle.crush_bucket.specs.Tables.{tables_of}
use Rattle.crush_choose.specs.Weights.{weights_of}
use Rattle.crush_choose.specs.Stability.{AreLoweredOutside}
use Rattle.crush_choose.specs.Trace.{rule_trace}
use Rattle.crush_pool.specs.Exceptions.{targets_of}
use Rattle.crush_pool.specs.Pools.{seed_of}
use Rattle.crush_pool.specs.States.{flags_of, reweights}
use Rattle.crush_pool.specs.declared.placing.Placement.{Placement}
use Rattle.crush_pool.proofs.Excepting.{placed_stays}
use Rattle.crush_pool.proofs.laws.lowering_other_devices_changes_no_placement.Goals as goal

in_first : (a b : Bool) → a ≡ true → (a || b) ≡ true
in_first true b e = refl
in_first false b e = cc

in_second : (a b : Bool) → b ≡ true → (a || b) ≡ true
in_second true b e = refl
in_second false b e = e

pub returns : goal.returns
returns c = λ m states lowered p pairs rule group found flags others.
    let t = tables_of m in
    let w = weights_of (reweights states) in
    let low = weights_of (reweights lowered) in
    let trace = rule_trace t w rule.steps (seed_of p group) p.size in
    let targets = targets_of pairs group in
    let both : (device : ℕ) → has_number (trace ++ targets) device ≡ (has_number trace device || has_number targets device) = λ device. list_any-append _ trace targets in
    let outside : AreLoweredOutside trace w low = record { lower = others.lower; same = λ device there. others.same device (both device ∙ in_first (has_number trace device) (has_number targets device) there) } in
    let is = (c.traces_ascend.ensures t w rule.steps (seed_of p group) p.size trace).1 refl in
    let answer = c.lowering_outside_the_trace_changes_nothing.ensures.answer t w low rule.steps (seed_of p group) p.size trace is outside in
    let stays = placed_stays t w low (flags_of states) rule.steps p pairs group answer (λ device there. others.same device (both device ∙ in_second (has_number trace device) (has_number targets device) there)) in
    rw (found, flags) (ap (λ (q : Placement). Some q) stays)
