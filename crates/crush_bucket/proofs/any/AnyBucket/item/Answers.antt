use Rattle.std.proofs.Common.{◌≡◌, ◌<◌, length, slice_index_or, ap, arith, sym, ◌∙◌}
use Rattle.std.proofs.lemmas.List.{get_or_default}
use Rattle.crush_bucket.specs.Bucket.{BucketView, WeightedItem, no_item}
use Rattle.crush_bucket.proofs.any.AnyBucket.item.Goals as goal

pub returns-clause-item : goal.returns-clause-item
returns-clause-item c =
    let items = c.self.inside.items.items in
    let low : c.args.place < length items = omega (arith, c.requires, ap (λ (b : BucketView). length b.items) c.self.view_is) in
    let is : slice_index_or items c.args.place no_item ≡ c.index.result.now = get_or_default items c.args.place no_item c.index.result.now low ∙ sym c.index.ensures in
    (c.args.place, c.requires, rw (← c.self.view_is) (ap (λ (e : WeightedItem). e.0) is))
