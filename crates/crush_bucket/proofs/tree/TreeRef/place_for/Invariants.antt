use Rattle.std.proofs.Common.{◌≤◌}
use Rattle.crush_bucket.specs.Private.Kept.{AtNode}
use Rattle.crush_bucket.specs.Private.Walks.{tree_height}
use Rattle.crush_bucket.proofs.tree.TreeRef.place_for.Given as goal

abbrev pub invariant-loop-level : goal.invariant-loop-level
invariant-loop-level l = record {
  at : AtNode l.self.id l.self.items l.x l.r (tree_height l.self) l.level l.node;
  low : l.level ≤ tree_height l.self;
}

abbrev pub decreases-loop-level : goal.decreases-loop-level
decreases-loop-level l = l.level
