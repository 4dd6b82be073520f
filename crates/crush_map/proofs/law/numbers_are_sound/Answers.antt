use Rattle.crush_map.proofs.Sound.{types_sound, devices_sound, device_type_sound, tunables_sound}
use Rattle.crush_map.proofs.law.numbers_are_sound.Goals as goal

pub returns-clause-types : goal.returns-clause-types
returns-clause-types c = types_sound

pub returns-clause-devices : goal.returns-clause-devices
returns-clause-devices c = devices_sound

pub returns-clause-device_type : goal.returns-clause-device_type
returns-clause-device_type c = device_type_sound

pub returns-clause-tunables : goal.returns-clause-tunables
returns-clause-tunables c = tunables_sound
