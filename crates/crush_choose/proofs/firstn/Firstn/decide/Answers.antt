use Rattle.std.proofs.Common.{◌∙◌, sym, arith}
use Rattle.crush_choose.specs.Firstn.{firstn_try, decided}
use Rattle.crush_choose.proofs.Least.{least_found}
use Rattle.crush_choose.proofs.firstn.Firstn.decide.Goals as goal

pub returns-then-is_some-clause-value : goal.returns-then-is_some-clause-value
unfolding decided
returns-then-is_some-clause-value c =
    least_found (firstn_try c.args.scratch.now c.args.self.now.weights.now c.args.self.now.call.now c.args.self.now.items.now c.args.self.now.leaves.now c.args.rep) c.loop-round.round c.args.self.now.call.now.tries c.firstn_try-mark.result c.loop-round.invariant.none (omega arith) (rw c.loop-round.invariant.same at c.firstn_try-mark.ensures.value) (sym c.is_some.ensures ∙ c.if-is_some.true)
