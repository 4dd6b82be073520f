use Rattle.crush_bucket.proofs.Picking.{no_device_bucket}
use Rattle.crush_bucket.proofs.laws.no_bucket_of_a_map_has_type_0.Goals as goal

pub returns : goal.returns
returns c = λ m is. no_device_bucket m (λ i. c.buckets_are_sound.ensures m i is)
