use Rattle.std.proofs.Common.{◌≡◌, ap, arith, ◌∙◌}
use Rattle.crush_bucket.specs.Bucket.{BucketView}
use Rattle.crush_bucket.specs.Private.Walks.{Keeps, tree_height}
use Rattle.crush_bucket.proofs.Nodes.{at_root, down_is, few_nodes}
use Rattle.crush_bucket.proofs.tree.TreeRef.place_for.Goals as goal

pub loop-level-init : goal.loop-level-init
loop-level-init c =
    let b = c.args.self.now in
    let inside = c.self.inside in
    let k : Keeps b inside.tree.now.height inside.tree.now.nodes.items = rw c.self.view_is at c.self.invariant in
    record { at = rw (c.places-node.ensures, k.height_is) (at_root b.id b.items c.args.x c.args.r (tree_height b)); low = omega (arith, k.height_is) }

pub down-node-requires-clause-small : goal.down-node-requires-clause-small
down-node-requires-clause-small c =
    let b = c.args.self.now in
    let inside = c.self.inside in
    let k : Keeps b inside.tree.now.height inside.tree.now.nodes.items = rw c.self.view_is at c.self.invariant in
    rw c.as_slice-nodes.ensures.value (omega (arith, few_nodes (tree_height b) k.low, k.size))

pub two_down-node-requires-clause-small : goal.two_down-node-requires-clause-small
two_down-node-requires-clause-small c =
    let b = c.args.self.now in
    let inside = c.self.inside in
    let k : Keeps b inside.tree.now.height inside.tree.now.nodes.items = rw c.self.view_is at c.self.invariant in
    rw c.as_slice-nodes.ensures.value (omega (arith, few_nodes (tree_height b) k.low, k.size))

pub last_down-node-requires-clause-small : goal.last_down-node-requires-clause-small
last_down-node-requires-clause-small c =
    let b = c.args.self.now in
    let inside = c.self.inside in
    let k : Keeps b inside.tree.now.height inside.tree.now.nodes.items = rw c.self.view_is at c.self.invariant in
    rw c.as_slice-nodes.ensures.value (omega (arith, few_nodes (tree_height b) k.low, k.size))

pub loop-level-preserved : goal.loop-level-preserved
loop-level-preserved c =
    let b = c.args.self.now in
    let inside = c.self.inside in
    let k : Keeps b inside.tree.now.height inside.tree.now.nodes.items = rw c.self.view_is at c.self.invariant in
    let id : c.id-id.result ≡ b.id = c.id-id.ensures ∙ ap (λ (b : BucketView). b.id) c.self.view_is in
    let at = down_is b.id b.items inside.tree.now.nodes.items c.args.x c.args.r (tree_height b) 3 c.loop-level.level c.loop-level.node (omega arith) k.weights c.loop-level.invariant.at in
    record { at = rw (c.down-node.ensures, c.as_slice-nodes.ensures.value, id) at; low = omega arith }
