use Rattle.std.proofs.Common.{arith}
use Rattle.crush_bucket.proofs.Heights.{below_pow, pow_more, height_next, low_height}
use Rattle.crush_bucket.proofs.tree.height_for.Goals as goal

pub overflow_add-height : goal.overflow_add-height
overflow_add-height c = omega (arith, below_pow c.loop-width.height)

pub loop-width-preserved : goal.loop-width-preserved
loop-width-preserved c =
    let more = pow_more c.loop-width.height in
    let is = c.loop-width.invariant in
    record { width = omega (arith, more); near = omega arith; rest = height_next c.args.size c.loop-width.height (omega arith) is.rest }

pub returns-clause-low : goal.returns-clause-low
returns-clause-low c = low_height c.loop-width.height (omega arith)
