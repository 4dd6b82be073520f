use Rattle.crush_bucket.proofs.Without.{without_item}
use Rattle.crush_bucket.proofs.straw2_laws.a_pick_with_an_item_more_is_that_item_or_the_pick_without_it.Goals as goal

pub returns : goal.returns
returns c = without_item
