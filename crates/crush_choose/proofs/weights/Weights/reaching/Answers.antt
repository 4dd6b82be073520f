use Rattle.crush_choose.proofs.Reweights.{rest_is, each_is}
use Rattle.crush_choose.proofs.weights.Weights.reaching.Goals as goal

pub invariant_of-result : goal.invariant_of-result
invariant_of-result c = rest_is c.args.given.now c.in_ok-by_device.by_device (c.in_ok-by_device.ensures {u = tt}).all

pub returns-clause-each : goal.returns-clause-each
returns-clause-each c = each_is c.args.given.now c.in_ok-by_device.by_device (c.in_ok-by_device.ensures {u = tt}).all
