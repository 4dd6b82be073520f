use Rattle.crush_bucket.proofs.Changes.{at_once}
use Rattle.crush_bucket.proofs.straw2_laws.another_order_changes_a_pick_only_between_items_that_arrive_at_once.Goals as goal

pub returns : goal.returns
returns c = at_once
