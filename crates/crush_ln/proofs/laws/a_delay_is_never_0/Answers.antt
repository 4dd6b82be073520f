use Rattle.std.proofs.Common.{arith}
use Rattle.crush_ln.proofs.Rising.{least_delay, at_the_end, at_0, delay_small}
use Rattle.crush_ln.proofs.laws.a_delay_is_never_0.Goals as goal

pub returns-clause-least : goal.returns-clause-least
returns-clause-least c = least_delay

pub returns-clause-is : goal.returns-clause-is
returns-clause-is c = let (least, greatest, before) = at_the_end in least

pub returns-clause-most : goal.returns-clause-most
returns-clause-most c u = omega (arith, delay_small u, at_0)

pub returns-clause-at_0 : goal.returns-clause-at_0
returns-clause-at_0 c = at_0
