use Rattle.std.proofs.Common.{◌≡◌, false, ◌∙◌, sym, arith, rules}
use Rattle.crush_choose.specs.Indep.{indep_leaf_by, indep_leaf}
use Rattle.crush_choose.proofs.Least.{least_found}
use Rattle.crush_choose.proofs.Hopeless.{neither}
use Rattle.crush_choose.proofs.HopelessRounds.{no_leaf}
use Rattle.crush_choose.proofs.indep.Indep.leaf_below.Goals as goal

pub returns-then-is_some-clause-value : goal.returns-then-is_some-clause-value
unfolding indep_leaf
returns-then-is_some-clause-value c =
    least_found (indep_leaf_by c.args.scratch.now c.args.self.now.weights.now c.args.self.now.call.now c.args.bucket c.args.start) c.loop-round.round c.args.self.now.call.now.leaf_tries c.leaf_by-leaf.result c.loop-round.invariant.none (omega arith) (rw c.loop-round.invariant.same at c.leaf_by-leaf.ensures.value) (sym c.is_some.ensures ∙ c.if-is_some.true)

pub returns-then-not-can_have_leaf-clause-value : goal.returns-then-not-can_have_leaf-clause-value
returns-then-not-can_have_leaf-clause-value c =
    let fails : c.can_have_leaf.result ≡ false = search rules in
    let leafless = neither c.can_have_leaf.result _ _ (rw (c.tables-tables.ensures, c.leaf_by-leaf.ensures.same, c.loop-round.invariant.same) at c.can_have_leaf.ensures) fails in
    sym (no_leaf c.a_pick_is_pickable.ensures.pickable c.args.scratch.now c.args.self.now.weights.now c.args.self.now.call.now c.args.bucket c.args.start leafless)
