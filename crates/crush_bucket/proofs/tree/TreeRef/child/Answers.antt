use Rattle.std.proofs.Common.{◌≡◌, ◌^◌, length, arith}
use Rattle.crush_bucket.specs.Private.Descent.{child}
use Rattle.crush_bucket.specs.Private.Walks.{Keeps}
use Rattle.crush_bucket.proofs.Ways.{node_within, way_waits, way_steps}
use Rattle.crush_bucket.proofs.tree.TreeRef.child.Goals as goal

pub returns-then-left-self : goal.returns-then-left-self
returns-then-left-self c =
    let inside = c.self.inside in
    let k : Keeps c.args.self.now inside.tree.now.height inside.tree.now.nodes.items = rw c.self.view_is at c.self.invariant in
    way_waits c.args.self.now c.args.left c.args.node c.args.hash (omega (arith, k.height_is))

pub places-requires : goal.places-requires
places-requires c =
    let inside = c.self.inside in
    let k : Keeps c.args.self.now inside.tree.now.height inside.tree.now.nodes.items = rw c.self.view_is at c.self.invariant in
    omega (arith, k.height_is, k.low)

pub child-requires-clause-left : goal.child-requires-clause-left
child-requires-clause-left c =
    let inside = c.self.inside in
    let k : Keeps c.args.self.now inside.tree.now.height inside.tree.now.nodes.items = rw c.self.view_is at c.self.invariant in
    (node_within c.args.self.now c.args.left c.args.node c.places.result (length inside.tree.now.nodes.items) (omega (arith, k.height_is)) k.low c.places.ensures k.size c.requires).left

pub child-requires-clause-right : goal.child-requires-clause-right
child-requires-clause-right c =
    let inside = c.self.inside in
    let k : Keeps c.args.self.now inside.tree.now.height inside.tree.now.nodes.items = rw c.self.view_is at c.self.invariant in
    let right = (node_within c.args.self.now c.args.left c.args.node c.places.result (length inside.tree.now.nodes.items) (omega (arith, k.height_is)) k.low c.places.ensures k.size c.requires).right in
    omega (arith, right)

pub child-requires-clause-inside : goal.child-requires-clause-inside
child-requires-clause-inside c =
    let inside = c.self.inside in
    let k : Keeps c.args.self.now inside.tree.now.height inside.tree.now.nodes.items = rw c.self.view_is at c.self.invariant in
    rw c.deref.ensures.value (node_within c.args.self.now c.args.left c.args.node c.places.result (length inside.tree.now.nodes.items) (omega (arith, k.height_is)) k.low c.places.ensures k.size c.requires).inside

pub returns : goal.returns
returns c =
    let inside = c.self.inside in
    let k : Keeps c.args.self.now inside.tree.now.height inside.tree.now.nodes.items = rw c.self.view_is at c.self.invariant in
    let is : c.child.result ≡ child inside.tree.now.nodes.items c.args.hash c.args.node (2 ^ c.args.left) = rw (c.deref.ensures.value, c.places.ensures) at c.child.ensures in
    way_steps c.args.self.now inside.tree.now.nodes.items c.args.left c.args.node c.args.hash c.child.result (omega (arith, k.height_is)) k.weights is
