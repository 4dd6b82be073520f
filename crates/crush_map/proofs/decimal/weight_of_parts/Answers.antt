use Rattle.std.proofs.Common.{arith, length}
use Rattle.crush_map.proofs.Digits.{below_thirty}
use Rattle.crush_map.proofs.decimal.weight_of_parts.Goals as goal

pub overflow_mul-weight : goal.overflow_mul-weight
overflow_mul-weight c =
    let m = below_thirty c.number.result c.number-2.result (length c.args.whole.now) (length c.args.fraction.now) c.number.ensures.bound c.requires.few_whole c.number-2.ensures.bound c.requires.few_fraction in
    rw (c.pow-parts.ensures) (omega arith)
