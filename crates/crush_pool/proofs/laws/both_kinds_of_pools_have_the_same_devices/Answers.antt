use Rattle.crush_pool.proofs.Uplists.{same_devices, first_up_is_primary}
use Rattle.crush_pool.proofs.laws.both_kinds_of_pools_have_the_same_devices.Goals as goal

pub returns-clause-devices : goal.returns-clause-devices
returns-clause-devices c = same_devices

pub returns-clause-primary : goal.returns-clause-primary
returns-clause-primary c = first_up_is_primary
