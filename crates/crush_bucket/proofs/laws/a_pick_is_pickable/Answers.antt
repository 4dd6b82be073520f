use Rattle.crush_bucket.proofs.Pickable.{pick_pickable, pick_weighed}
use Rattle.crush_bucket.proofs.laws.a_pick_is_pickable.Goals as goal

pub returns-clause-pickable : goal.returns-clause-pickable
returns-clause-pickable c = pick_pickable c.permutation_has_each_place.ensures.places

pub returns-clause-weighed : goal.returns-clause-weighed
returns-clause-weighed c = pick_weighed
