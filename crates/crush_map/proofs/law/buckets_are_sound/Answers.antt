use Rattle.crush_map.proofs.Sound.{buckets_sound}
use Rattle.crush_map.proofs.law.buckets_are_sound.Goals as goal

pub returns : goal.returns
returns c = buckets_sound
