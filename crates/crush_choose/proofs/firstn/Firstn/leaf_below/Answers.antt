use Rattle.std.proofs.Common.{◌≡◌, ℕ, ◌+◌, false, ◌∙◌, sym, arith, rules}
use Rattle.crush_choose.specs.Firstn.{leaf_by, leaf_below}
use Rattle.crush_choose.proofs.Least.{least_found}
use Rattle.crush_choose.proofs.Hopeless.{neither, no_leaf}
use Rattle.crush_choose.proofs.firstn.Firstn.leaf_below.Goals as goal

pub returns-then-is_some-clause-value : goal.returns-then-is_some-clause-value
unfolding leaf_below
returns-then-is_some-clause-value c =
    least_found (λ (g : ℕ). leaf_by c.args.scratch.now c.args.self.now.weights.now c.args.self.now.call.now c.args.self.now.leaves.now c.args.bucket (c.args.start + g)) c.loop-g.g c.args.self.now.call.now.leaf_tries c.leaf_by-leaf.result c.loop-g.invariant.none (omega arith) (rw c.loop-g.invariant.same at c.leaf_by-leaf.ensures.value) (sym c.is_some.ensures ∙ c.if-is_some.true)

pub returns-then-not-can_have_leaf-clause-value : goal.returns-then-not-can_have_leaf-clause-value
returns-then-not-can_have_leaf-clause-value c =
    let fails : c.can_have_leaf.result ≡ false = search rules in
    let leafless = neither c.can_have_leaf.result _ _ (rw (c.tables-tables.ensures, c.leaf_by-leaf.ensures.same, c.loop-g.invariant.same) at c.can_have_leaf.ensures) fails in
    sym (no_leaf c.a_pick_is_pickable.ensures.pickable c.args.scratch.now c.args.self.now.weights.now c.args.self.now.call.now c.args.self.now.leaves.now c.args.bucket c.args.start leafless)
