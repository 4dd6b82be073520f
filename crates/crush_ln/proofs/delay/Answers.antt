use Rattle.std.proofs.Common.{arith}
use Rattle.crush_ln.specs.Log.{log, delay}
use Rattle.crush_ln.proofs.delay.Goals as goal

pub returns-clause-value : goal.returns-clause-value
unfolding log delay
returns-clause-value c =
    rw (← c.scaled-exponent.ensures.value) (rw (← c.mantissa_log.ensures.value) (omega arith))
