use Rattle.std.proofs.Common.{◌≡◌, ◌||◌, Bool, true, false, refl, sym, ◌∙◌}
use Rattle.crush_map.specs.Faults.{has_number}
use Rattle.crush_pool.specs.Exceptions.{targets_of}
use Rattle.crush_report.specs.OnMaps.{trace_on}
use Rattle.crush_report.proofs.Moving.{at_second}
use Rattle.crush_report.proofs.touched_groups.is_touched.Goals as goal

pub returns-then-lead_to-clause-touched : goal.returns-then-lead_to-clause-touched
returns-then-lead_to-clause-touched c =
    let p = c.args.placer.now in
    let leads : has_number (targets_of p.pairs c.args.group) c.args.device ≡ true = sym (rw c.exceptions.ensures.same at c.lead_to.ensures) ∙ c.if-lead_to.true in
    sym (at_second (has_number (trace_on p c.args.group) c.args.device) (has_number (targets_of p.pairs c.args.group) c.args.device) leads)

first_alone : (a b : Bool) → b ≡ false → a ≡ (a || b)
first_alone true b none = refl
first_alone false b none = sym none

pub returns-in-Some-clause-touched : goal.returns-in-Some-clause-touched
returns-in-Some-clause-touched c =
    let p = c.args.placer.now in
    let none : has_number (targets_of p.pairs c.args.group) c.args.device ≡ false = sym (rw c.exceptions.ensures.same at c.lead_to.ensures) ∙ c.if-lead_to.false in
    c.in-Some.ensures c.args.device c.requires.traced ∙ first_alone (has_number (trace_on p c.args.group) c.args.device) (has_number (targets_of p.pairs c.args.group) c.args.device) none

pub returns-in-None-clause-touched : goal.returns-in-None-clause-touched
returns-in-None-clause-touched c =
    let p = c.args.placer.now in
    let none : has_number (targets_of p.pairs c.args.group) c.args.device ≡ false = sym (rw c.exceptions.ensures.same at c.lead_to.ensures) ∙ c.if-lead_to.false in
    c.is_traced.ensures.traced ∙ first_alone (has_number (trace_on p c.args.group) c.args.device) (has_number (targets_of p.pairs c.args.group) c.args.device) none
