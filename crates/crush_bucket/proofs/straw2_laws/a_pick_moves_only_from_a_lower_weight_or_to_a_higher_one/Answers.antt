use Rattle.crush_bucket.proofs.Changes.{moves}
use Rattle.crush_bucket.proofs.straw2_laws.a_pick_moves_only_from_a_lower_weight_or_to_a_higher_one.Goals as goal

pub returns : goal.returns
returns c = moves
