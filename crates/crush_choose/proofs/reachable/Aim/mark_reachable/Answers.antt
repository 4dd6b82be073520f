use Rattle.std.proofs.Common.{◌≡◌, ◌<◌, ◌∙◌, length, arith}
use Rattle.std.specs.List.{list_any}
use Rattle.crush_bucket.specs.Pickable.{pickable}
use Rattle.crush_bucket.specs.Tables.{bucket_at, bucket_numbered}
use Rattle.crush_choose.specs.Private.Reachable.{can_be_placed, can_end_at, marked}
use Rattle.crush_choose.proofs.WalkEnds.{next_mark, more_marked}
use Rattle.crush_choose.proofs.reachable.Aim.mark_reachable.Goals as goal

pub loop-place-preserved : goal.loop-place-preserved
loop-place-preserved c =
    let s = c.args.self.now in
    let t = s.tables.now in
    let passes = can_be_placed t s.weights.now s.x s.chosen.now (marked s.leafy.now) in
    let lt : c.loop-place.place < length t.buckets = omega arith in
    let here : c.can_end_below.result ≡ list_any (λ e. can_end_at t s.wanted passes (marked c.loop-place.found) e.0 (bucket_numbered t e.0)) (pickable (bucket_at t c.loop-place.place)) = rw c.new.ensures at c.can_end_below.ensures in
    let own = here ∙ next_mark t s.wanted passes c.loop-place.found c.loop-place.place c.items_are_below.ensures lt c.loop-place.invariant.each in
    more_marked t s.wanted passes c.loop-place.found c.loop-place.place c.can_end_below.result (omega arith) c.loop-place.invariant own
