use Rattle.std.proofs.Common.{arith, ◌<◌, ◌^◌, ◌∙◌}
use Rattle.crush_map.specs.declared.limits.TheConstants.{DIGIT_LIMIT}
use Rattle.crush_grammar.proofs.Digits.{more_below, more_fits, more_value, others_are}
use Rattle.crush_grammar.proofs.number.number.Goals as goal

pub overflow_mul-number : goal.overflow_mul-number
overflow_mul-number c =
    let h : c.loop-byte.number < 10 ^ DIGIT_LIMIT = more_fits _ _ _ c.loop-byte.invariant.bound (omega arith) c.requires.few in
    omega arith

pub overflow_add-number : goal.overflow_add-number
overflow_add-number c =
    let h : c.loop-byte.number < 10 ^ DIGIT_LIMIT = more_fits _ _ _ c.loop-byte.invariant.bound (omega arith) c.requires.few in
    omega arith

pub loop-byte-preserved : goal.loop-byte-preserved
loop-byte-preserved c = record {
  value = more_value _ _ _ _ c.loop-byte-test.true c.digit.ensures.value ∙ c.loop-byte.invariant.value;
  digits = others_are _ _ c.loop-byte-test.true c.loop-byte.invariant.digits;
  bound = more_below _ _ _ c.loop-byte.invariant.bound c.digit.ensures.bound;
}
