use Rattle.crush_report.proofs.OfMap.{answer_of}
use Rattle.crush_report.proofs.usage_laws.answers_are_of_the_map.Goals as goal

pub returns : goal.returns
returns c = λ m rule id w x size is.
    answer_of m (λ i. c.buckets_are_sound.ensures m i is) (λ i. c.rules_are_sound.ensures m i is) (c.buckets_of_a_map_pick_below.ensures m is) rule id w x size
