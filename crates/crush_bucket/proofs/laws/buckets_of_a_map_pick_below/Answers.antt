use Rattle.crush_bucket.proofs.Picking.{picks_below}
use Rattle.crush_bucket.proofs.laws.buckets_of_a_map_pick_below.Goals as goal

pub returns : goal.returns
returns c = λ m is. picks_below c.permutation_has_each_place.ensures.places m (λ i. c.buckets_are_sound.ensures m i is)
