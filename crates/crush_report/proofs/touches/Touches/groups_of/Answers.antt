use Rattle.std.proofs.Common.{◌+◌, ◌-◌, ◌∙◌, ap, drop, length, subst, sym, take}
use Rattle.crush_report.specs.Touches.{groups_in}
use Rattle.crush_report.proofs.Touching.{Ends, of_device}
use Rattle.crush_report.proofs.touches.Touches.groups_of.Goals as goal

pub returns : goal.returns
returns c = rw (← c.self.view_is) (
    let pairs = c.as_slice-pairs.result.now in
    let a = c.place_of-first.result in
    let n = c.place_of-count.result in
    let first = subst (λ d. Ends pairs d a) c.from.ensures c.place_of-first.ensures.place in
    let last = subst (λ d. Ends (take (length pairs - a) (drop a pairs)) (d + 1) n) c.from-2.ensures c.place_of-count.ensures.place in
    let part = of_device pairs c.args.device a n first last in
    c.new.ensures ∙ (c.in_ok-groups_of.ensures ∙ (sym part ∙ ap (λ ps. groups_in ps c.args.device) c.as_slice-pairs.ensures.value)))
