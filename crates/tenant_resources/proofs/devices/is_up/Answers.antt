use Rattle.std.proofs.Common.{◌∙◌, ap}
use Rattle.crush_pool.specs.States.{up_at}
use Rattle.crush_pool.proofs.Flags.{flag_of}
use Rattle.tenant_resources.proofs.devices.is_up.Goals as goal

pub returns : goal.returns
returns c = c.is_up.ensures ∙ (ap (λ flags. up_at flags c.args.device) c.flags.ensures ∙ flag_of c.args.states.now c.args.device)
