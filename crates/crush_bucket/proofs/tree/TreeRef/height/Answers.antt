use Rattle.crush_bucket.specs.Private.Walks.{Keeps}
use Rattle.crush_bucket.proofs.tree.TreeRef.height.Goals as goal

pub returns : goal.returns
returns c =
    let inside = c.self.inside in
    let k : Keeps c.args.self.now inside.tree.now.height inside.tree.now.nodes.items = rw c.self.view_is at c.self.invariant in
    k.height_is
