use Rattle.std.proofs.Common.{◌≡◌, ◌-◌, ◌/◌, length, min, ap, arith, ◌∙◌}
use Rattle.crush_bucket.specs.Bucket.{item_at}
use Rattle.crush_bucket.specs.Private.Walks.{IsPickAt}
use Rattle.crush_bucket.proofs.Ways.{way_ends}
use Rattle.crush_bucket.proofs.tree.TreeRef.item_at.Goals as goal

pub returns : goal.returns
returns c =
    let b = c.self.inside.bucket.now in
    let place : c.min.result ≡ min (c.args.leaf / 2) (length b.items - 1) = omega (arith, c.size.ensures.value) in
    let picked : IsPickAt b c.args.leaf c.item.result = way_ends b c.args.leaf c.item.result c.self.invariant.tree (c.item.ensures.value ∙ ap (λ n. item_at b.items n) place) c.item.ensures.item in
    rw c.self.view_is at picked
