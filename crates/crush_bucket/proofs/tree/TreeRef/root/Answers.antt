use Rattle.std.proofs.Common.{ℕ, ◌^◌, ap, arith, ◌∙◌}
use Rattle.std.proofs.Math.Nat.{pow-succ'}
use Rattle.crush_bucket.proofs.Nodes.{few_nodes}
use Rattle.crush_bucket.specs.Private.Walks.{Keeps, tree_height}
use Rattle.crush_bucket.proofs.tree.TreeRef.root.Goals as goal

pub overflow_cast-result : goal.overflow_cast-result
overflow_cast-result c =
    let inside = c.self.inside in
    let k : Keeps c.args.self.now inside.tree.now.height inside.tree.now.nodes.items = rw c.self.view_is at c.self.invariant in
    omega (arith, few_nodes (tree_height c.args.self.now) k.low, pow-succ' 2 (tree_height c.args.self.now), c.places.ensures ∙ ap (λ (h : ℕ). 2 ^ h) k.height_is)

pub returns : goal.returns
returns c =
    let inside = c.self.inside in
    let k : Keeps c.args.self.now inside.tree.now.height inside.tree.now.nodes.items = rw c.self.view_is at c.self.invariant in
    c.places.ensures ∙ ap (λ (h : ℕ). 2 ^ h) k.height_is
