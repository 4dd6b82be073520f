use Rattle.crush_pool.proofs.Excepting.{placed_once}
use Rattle.crush_pool.proofs.laws.exceptions_put_no_device_twice.Goals as goal

pub returns : goal.returns
returns c = placed_once
