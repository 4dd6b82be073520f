use Rattle.crush_bucket.proofs.Picking.{pick_item}
use Rattle.crush_bucket.proofs.laws.a_pick_is_an_item.Goals as goal

pub returns : goal.returns
returns c = pick_item c.permutation_has_each_place.ensures.places
