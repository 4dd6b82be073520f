use Rattle.std.proofs.Common.{arith, get_or}
use Rattle.crush_map.proofs.Digits.{below_more, digit_at, digit_to, number_more}
use Rattle.crush_map.proofs.decimal.number.Goals as goal

pub loop-digit-preserved : goal.loop-digit-preserved
loop-digit-preserved c =
    let d = digit_at c.args.digits.now c.loop-digit.digit-index c.loop-digit-test.true c.requires.digits in
    record {
      value = omega (arith, number_more c.loop-digit.number c.args.digits.now c.loop-digit.digit-index c.loop-digit-test.true c.loop-digit.invariant.value);
      bound = below_more _ _ _ c.loop-digit.invariant.bound (omega (arith, digit_to (get_or c.args.digits.now c.loop-digit.digit-index 0) d));
    }
