use Rattle.std.proofs.Common.{◌==◌}
use Rattle.tenant_resources.proofs.Mapped.{any-map}
use Rattle.tenant_resources.proofs.devices.has_device.Goals as goal

pub returns : goal.returns
returns c = cc (any-map (λ id. id == c.args.device) (λ d. d.id) c.args.version.now.devices)
