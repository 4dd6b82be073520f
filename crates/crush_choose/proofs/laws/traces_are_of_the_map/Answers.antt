use Rattle.crush_choose.proofs.OfMap.{trace_of}
use Rattle.crush_choose.proofs.laws.traces_are_of_the_map.Goals as goal

pub returns : goal.returns
returns c = λ m w steps x size is. trace_of m (λ i. c.buckets_are_sound.ensures m i is) (c.buckets_of_a_map_pick_below.ensures m is) w steps x size
