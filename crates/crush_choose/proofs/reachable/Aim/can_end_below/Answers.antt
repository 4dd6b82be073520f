use Rattle.std.proofs.Common.{◌≡◌, ◌∙◌, sym, true, false}
use Rattle.crush_bucket.specs.Bucket.{WeightedItem}
use Rattle.crush_bucket.specs.Pickable.{picks_by_weight}
use Rattle.crush_bucket.specs.Tables.{bucket_at, bucket_numbered}
use Rattle.crush_choose.specs.Private.Reachable.{can_be_placed, can_end_at, marked}
use Rattle.crush_choose.proofs.Picks.{any_by_weight, any_without_weights}
use Rattle.crush_choose.proofs.reachable.Aim.can_end_below.Goals as goal

pub returns-then-picks_by_weight : goal.returns-then-picks_by_weight
returns-then-picks_by_weight c =
    let s = c.args.self.now in
    let t = s.tables.now in
    let b = bucket_at t c.args.bucket in
    let ends = λ (e : WeightedItem). can_end_at t s.wanted (can_be_placed t s.weights.now s.x s.chosen.now (marked s.leafy.now)) (marked c.args.found.now) e.0 (bucket_numbered t e.0) in
    let some : picks_by_weight b.kind b.items ≡ true = rw (c.kind-kind.ensures, c.items-items.ensures) at (sym c.picks_by_weight.ensures ∙ c.if-picks_by_weight.true) in
    rw c.items-items.ensures at c.can_end_among.ensures ∙ any_by_weight ends b some

pub returns-else-picks_by_weight : goal.returns-else-picks_by_weight
returns-else-picks_by_weight c =
    let s = c.args.self.now in
    let t = s.tables.now in
    let b = bucket_at t c.args.bucket in
    let ends = λ (e : WeightedItem). can_end_at t s.wanted (can_be_placed t s.weights.now s.x s.chosen.now (marked s.leafy.now)) (marked c.args.found.now) e.0 (bucket_numbered t e.0) in
    let none : picks_by_weight b.kind b.items ≡ false = rw (c.kind-kind.ensures, c.items-items.ensures) at (sym c.picks_by_weight.ensures ∙ c.if-picks_by_weight.false) in
    rw (c.without_weights.ensures, c.kind-kind.ensures, c.items-items.ensures) at c.can_end_among-else-picks_by_weight.ensures ∙ any_without_weights ends b none
