use Rattle.std.proofs.Common.{◌≡◌, ◌||◌, ◌++◌, ◌∙◌, false, sym, ap, subst}
use Rattle.std.specs.List.{list_any}
use Rattle.crush_map.specs.Faults.{has_number}
use Rattle.crush_bucket.specs.Tables.{tables_of}
use Rattle.crush_choose.specs.Weights.{weights_of}
use Rattle.crush_pool.specs.Exceptions.{is_of_group, targets_of}
use Rattle.crush_pool.specs.Placers.{steps_of}
use Rattle.crush_pool.specs.Pools.{seed_of}
use Rattle.crush_pool.specs.States.{reweights}
use Rattle.crush_report.specs.OnMaps.{trace_on}
use Rattle.crush_report.specs.Private.Touching.{AreOnce}
use Rattle.crush_report.proofs.Touching.{no_targets, once_rising, touches_without}
use Rattle.crush_report.proofs.touches.find_devices.Goals as goal

-- the devices are those of the trace first
pub returns-in_ok-add_targets-clause-each : goal.returns-in_ok-add_targets-clause-each
returns-in_ok-add_targets-clause-each c =
    let p = c.args.placer.now in
    let group = c.args.group in
    let traced : c.run_next.new.out.trace ≡ trace_on p group =
    (c.traces_ascend.ensures (tables_of p.map) (weights_of (reweights p.states)) (steps_of p) (seed_of p.pool group) p.pool.size c.run_next.new.out.trace).0 c.run_next.ensures.trace in
    let items : c.extend_from_slice.new.self.items ≡ trace_on p group =
    c.in_ok-extend_from_slice.ensures.items ∙ (ap (λ xs. xs ++ c.trace.result.now) c.clear.ensures.items ∙ (c.trace.ensures ∙ traced)) in
    let pairs = c.pairs.ensures.same ∙ c.exceptions-exceptions.ensures.same in
    λ d. c.in_ok-add_targets.ensures.each d
    ∙ (ap (λ xs. has_number xs d || has_number (targets_of c.pairs.result.now group) d) items ∙ ap (λ ps. has_number (trace_on p group) d || has_number (targets_of ps group) d) pairs)

pub returns-in_ok-add_targets-clause-once : goal.returns-in_ok-add_targets-clause-once
returns-in_ok-add_targets-clause-once c =
    let items : c.extend_from_slice.new.self.items ≡ c.run_next.new.out.trace =
    c.in_ok-extend_from_slice.ensures.items ∙ (ap (λ xs. xs ++ c.trace.result.now) c.clear.ensures.items ∙ c.trace.ensures) in
    c.in_ok-add_targets.ensures.once (subst AreOnce (sym items) (once_rising c.run_next.new.out.trace c.run_next.ensures.trace.rising))

pub returns-else-concern-clause-each : goal.returns-else-concern-clause-each
returns-else-concern-clause-each c =
    let p = c.args.placer.now in
    let group = c.args.group in
    let traced : c.run_next.new.out.trace ≡ trace_on p group =
    (c.traces_ascend.ensures (tables_of p.map) (weights_of (reweights p.states)) (steps_of p) (seed_of p.pool group) p.pool.size c.run_next.new.out.trace).0 c.run_next.ensures.trace in
    let items : c.extend_from_slice.new.self.items ≡ trace_on p group =
    c.in_ok-extend_from_slice.ensures.items ∙ (ap (λ xs. xs ++ c.trace.result.now) c.clear.ensures.items ∙ (c.trace.ensures ∙ traced)) in
    let none : list_any (is_of_group group) p.pairs ≡ false =
    ap (list_any (is_of_group group)) (sym c.exceptions-exceptions.ensures.same) ∙ (sym c.concern.ensures ∙ c.if-concern.false) in
    λ d. ap (λ xs. has_number xs d) items ∙ touches_without (trace_on p group) (targets_of p.pairs group) d (no_targets p.pairs group none)

pub returns-else-concern-clause-once : goal.returns-else-concern-clause-once
returns-else-concern-clause-once c =
    let items : c.extend_from_slice.new.self.items ≡ c.run_next.new.out.trace =
    c.in_ok-extend_from_slice.ensures.items ∙ (ap (λ xs. xs ++ c.trace.result.now) c.clear.ensures.items ∙ c.trace.ensures) in
    subst AreOnce (sym items) (once_rising c.run_next.new.out.trace c.run_next.ensures.trace.rising)
