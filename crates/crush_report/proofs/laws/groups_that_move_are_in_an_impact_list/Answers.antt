use Rattle.std.proofs.Common.{refl, sym, ap, ◌∙◌, inl, inr}
use Rattle.crush_map.specs.Faults.{has_number}
use Rattle.crush_bucket.specs.Tables.{tables_of}
use Rattle.crush_choose.specs.Rules.{IsTrace}
use Rattle.crush_choose.specs.Trace.{rule_trace}
use Rattle.crush_choose.specs.Weights.{weights_of}
use Rattle.crush_pool.specs.Exceptions.{targets_of}
use Rattle.crush_pool.specs.Pools.{seed_of}
use Rattle.crush_pool.specs.States.{flags_of, reweights}
use Rattle.crush_pool.specs.declared.placing.Placement.{Placement}
use Rattle.crush_pool.proofs.Excepting.{placed_stays}
use Rattle.crush_report.specs.Impact.{touches, trace_of}
use Rattle.crush_report.proofs.Moving.{at_first, at_second, lowered_or_same, passes, raw_is}
use Rattle.crush_report.proofs.laws.groups_that_move_are_in_an_impact_list.Goals as goal

pub returns-clause-raw : goal.returns-clause-raw
returns-clause-raw c m states lowered p pairs rule group lt lower moved =
    let t = tables_of m in
    let w = weights_of (reweights states) in
    let seed = seed_of p group in
    let trace = rule_trace t w rule.steps seed p.size in
    let is : IsTrace t w rule.steps seed p.size trace = (c.traces_ascend.ensures t w rule.steps seed p.size trace).1 refl in
    let found = c.a_changed_answer_has_a_lowered_device_in_its_trace.ensures t w (weights_of (reweights lowered)) rule.steps seed p.size trace is lower
    (λ e. moved (raw_is m lowered p pairs rule group ∙ e ∙ sym (raw_is m states p pairs rule group))) in
    let touched = at_first (has_number (trace_of t w rule.steps p group) found.0) (has_number (targets_of pairs group) found.0) found.1 in
    (found.0, found.2, passes (touches t w rule.steps p pairs found.0) p.pg_num group lt touched)

-- a lowered device in the trace or among the targets is in the impact list; without one nothing
-- changes
pub returns-clause-up : goal.returns-clause-up
returns-clause-up c m states lowered p pairs rule group lt flags lower moved =
    let t = tables_of m in
    let w = weights_of (reweights states) in
    let low = weights_of (reweights lowered) in
    let seed = seed_of p group in
    let trace = rule_trace t w rule.steps seed p.size in
    let targets = targets_of pairs group in
    elim (lowered_or_same w low trace lower) [
      | inl found ↦ (
        found.0,
        found.1,
        passes (touches t w rule.steps p pairs found.0) p.pg_num group lt
            (at_first (has_number trace found.0) (has_number targets found.0) found.2),
      )
      | inr same ↦ elim (lowered_or_same w low targets lower) [
        | inl found ↦ (
          found.0,
          found.1,
          passes (touches t w rule.steps p pairs found.0) p.pg_num group lt
              (at_second (has_number trace found.0) (has_number targets found.0) found.2),
        )
        | inr also ↦
            (let is = (c.traces_ascend.ensures t w rule.steps seed p.size trace).1 refl in
            let answer = c.lowering_outside_the_trace_changes_nothing.ensures.answer t w low rule.steps seed p.size trace is (record { lower = lower; same = same }) in
            let stays = placed_stays t w low (flags_of states) rule.steps p pairs group answer also in
            absurd (moved (rw flags (ap (λ (q : Placement). q.up) stays))))
      ]
    ]
