use Rattle.std.proofs.Common.{rules, ◌∙◌, Some, ap, subst, sym}
use Rattle.std.specs.List.Sorted.{IsNonDecreasingBy}
use Rattle.std.proofs.lemmas.Fn.{always_returns_same}
use Rattle.std.proofs.lemmas.List.Sorted.{IsNonDecreasingBy-from_sort_by_key}
use Rattle.crush_report.specs.Touches.{AreTouchesOn, groups_in}
use Rattle.crush_report.proofs.Touching.{groups_sorted}
use Rattle.crush_report.proofs.touches.Touches.build.Goals as goal

pub invariant_of-result : goal.invariant_of-result
invariant_of-result c =
    let sorted = IsNonDecreasingBy-from_sort_by_key (λ t. t.device) c.sort_by_key.new.self.items c.in_ok-sort_by_key.ensures.sorted (λ a r q k. search rules) in
    subst (IsNonDecreasingBy (λ t. t.device)) (sym c.shrink_to_fit.ensures.items) sorted

pub returns : goal.returns
returns c =
    let p = c.args.placer.now in
    let found : AreTouchesOn p c.in-Some.pairs.items = rw c.in-Some.is at c.in_ok-pairs.ensures in
    let stable = c.in_ok-sort_by_key.ensures.stable (λ t. t.device) (always_returns_same _ _ _ (λ a r q k. search rules)) in
    λ device. ap Some (ap (λ ts. groups_in ts device) c.shrink_to_fit.ensures.items ∙ groups_sorted c.in-Some.pairs.items c.sort_by_key.new.self.items device stable) ∙ found device
