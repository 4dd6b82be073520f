use Rattle.std.proofs.Common.{◌≡◌, ◌<◌, ◌∙◌, nat_le, false, arith}
use Rattle.std.proofs.lemmas.Bool.Decides.{nat_tests}
use Rattle.crush_map.specs.declared.limits.TheConstants.{BUCKET_LIMIT}
use Rattle.crush_choose.specs.Private.Reachable.{marked, leafy, can_choose}
use Rattle.crush_choose.proofs.WalkEnds.{can_reach_same, placed_alike}
use Rattle.crush_choose.proofs.reachable.can_choose.Goals as goal

pub returns : goal.returns
unfolding can_choose
returns c =
    let t = c.args.tables.now in
    let w = c.args.weights.now in
    let low : c.args.walk.from < BUCKET_LIMIT = omega (arith, c.place.ensures) in
    let near : nat_le BUCKET_LIMIT c.args.walk.from ≡ false = grind (arith, nat_tests, low) in
    let marks = c.mark_reachable-found.ensures.each c.args.walk.from (omega arith) in
    let alike = placed_alike t w c.args.walk.x c.args.chosen.now (marked c.mark_leafy-leafy.result) (leafy t w c.args.walk.x c.args.leaf c.args.leaves.now) c.args.walk.from (λ k less. c.mark_leafy-leafy.ensures k (omega arith)) in
    rw (near, c.place-2.ensures) (marks ∙ can_reach_same t c.args.walk.wanted _ _ c.args.walk.from c.items_are_below.ensures alike c.requires)
