use Rattle.std.proofs.Common.{◌<◌, arith}
use Rattle.crush_ln.specs.Log.{delay}
use Rattle.crush_ln.proofs.Rising.{delay_falls, no_sooner, at_the_end}
use Rattle.crush_ln.proofs.laws.a_greater_draw_is_no_later.Goals as goal

pub returns-clause-falls : goal.returns-clause-falls
returns-clause-falls c = delay_falls

pub returns-clause-greatest : goal.returns-clause-greatest
returns-clause-greatest c u few = no_sooner u 65535 (omega arith) few (omega arith)

pub returns-clause-but : goal.returns-clause-but
returns-clause-but c = let (a, b, d) = at_the_end in let less : delay 65534 < delay 65535 = omega (arith, a, b) in less
