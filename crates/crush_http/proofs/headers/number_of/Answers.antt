use Rattle.std.proofs.Common.{arith, refl}
use Rattle.crush_http.proofs.Numbers.{one_more}
use Rattle.crush_http.proofs.headers.number_of.Goals as goal

pub overflow_add-number : goal.overflow_add-number
overflow_add-number c =
    let more = one_more c.args.text.now c.loop-byte.byte-index c.loop-byte.number c.from.result c.requires.digits c.requires.small c.loop-byte-test.true c.loop-byte.invariant c.from.ensures in
    omega (arith, more.1)

pub overflow_mul-number : goal.overflow_mul-number
overflow_mul-number c =
    let more = one_more c.args.text.now c.loop-byte.byte-index c.loop-byte.number _ c.requires.digits c.requires.small c.loop-byte-test.true c.loop-byte.invariant refl in
    omega (arith, more.1)

pub loop-byte-preserved : goal.loop-byte-preserved
loop-byte-preserved c = (one_more c.args.text.now c.loop-byte.byte-index c.loop-byte.number c.from.result c.requires.digits c.requires.small c.loop-byte-test.true c.loop-byte.invariant c.from.ensures).0
