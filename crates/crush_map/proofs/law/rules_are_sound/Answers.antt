use Rattle.crush_map.proofs.Sound.{rules_sound}
use Rattle.crush_map.proofs.law.rules_are_sound.Goals as goal

pub returns : goal.returns
returns c = rules_sound
