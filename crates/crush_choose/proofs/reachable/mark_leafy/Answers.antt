use Rattle.std.proofs.Common.{true, false, ◌∙◌, arith}
use Rattle.std.proofs.lemmas.List.{get_or-replicate}
use Rattle.crush_map.specs.declared.limits.TheConstants.{BUCKET_LIMIT}
use Rattle.crush_choose.proofs.WalkEnds.{leaves_marked}
use Rattle.crush_choose.proofs.reachable.mark_leafy.Goals as goal

pub returns-then-leaf : goal.returns-then-leaf
returns-then-leaf c = λ k less.
    rw c.if-leaf.true (c.mark_reachable.ensures.each k less ∙ leaves_marked c.args.tables.now c.args.weights.now c.args.x c.args.leaves.now k c.items_are_below.ensures (omega arith) (omega arith))

pub returns-else-leaf : goal.returns-else-leaf
returns-else-leaf c = λ k less. rw c.if-leaf.false (get_or-replicate BUCKET_LIMIT k true false (omega arith))
