use Rattle.std.proofs.Common.{◌+◌, ◌-◌, ◌*◌, ◌/◌, ◌%◌, ◌^◌, ◌≤◌, refl, arith}
use Rattle.crush_ln.specs.Log.{mantissa_log}
use Rattle.crush_ln.proofs.Table.{small_log, small_rest}
use Rattle.crush_ln.proofs.Parts.{product_below}
use Rattle.crush_ln.proofs.mantissa_log.Goals as goal

pub overflow_mul-rest : goal.overflow_mul-rest
overflow_mul-rest c =
    rw (c.from.ensures, c.reciprocal.ensures) (omega (arith, product_below c.args.mantissa (c.args.mantissa / 256 - 128) c.requires.low c.requires.high refl))

small_sum : (c : goal.After-rest_log) → c.log_at.result + c.rest_log.result ≤ 2 ^ 49
small_sum c =
    let a : c.log_at.result ≤ 2 ^ 48 = rw c.log_at.ensures (small_log (c.args.mantissa / 256 - 128) (omega arith)) in
    let b : c.rest_log.result ≤ 2 ^ 48 = rw c.rest_log.ensures (small_rest (c.from.result * c.reciprocal.result / 2 ^ 48 % 256) (omega arith)) in
    omega (arith, a, b)

pub overflow_add-result : goal.overflow_add-result
overflow_add-result c = omega (arith, small_sum c)

pub returns-clause-value : goal.returns-clause-value
unfolding mantissa_log
returns-clause-value c = rw (c.log_at.ensures, c.rest_log.ensures, c.from.ensures, c.reciprocal.ensures) refl

pub returns-clause-small : goal.returns-clause-small
returns-clause-small c = omega (arith, small_sum c)
