use Rattle.std.proofs.Common.{◌∙◌, ap}
use Rattle.crush_choose.proofs.Reweights.{weight_of}
use Rattle.crush_choose.specs.Weights.{weight_at}
use Rattle.crush_pool.specs.States.{reweights}
use Rattle.tenant_resources.proofs.devices.reweight.Goals as goal

pub returns : goal.returns
returns c = c.get.ensures ∙ (ap (λ w. weight_at w c.args.device) c.weights.ensures ∙ weight_of (reweights c.args.states.now) c.args.device)
