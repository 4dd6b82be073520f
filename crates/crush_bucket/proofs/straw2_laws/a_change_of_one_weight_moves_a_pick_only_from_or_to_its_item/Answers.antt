use Rattle.crush_bucket.proofs.Changes.{one_change, rises, falls}
use Rattle.crush_bucket.proofs.straw2_laws.a_change_of_one_weight_moves_a_pick_only_from_or_to_its_item.Goals as goal

pub returns-clause-either : goal.returns-clause-either
returns-clause-either c = one_change

pub returns-clause-rises : goal.returns-clause-rises
returns-clause-rises c = rises

pub returns-clause-falls : goal.returns-clause-falls
returns-clause-falls c = falls
