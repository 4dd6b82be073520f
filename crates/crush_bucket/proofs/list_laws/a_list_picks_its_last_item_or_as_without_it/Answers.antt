use Rattle.crush_bucket.proofs.Appended.{pick_either, pick_with_last}
use Rattle.crush_bucket.proofs.list_laws.a_list_picks_its_last_item_or_as_without_it.Goals as goal

pub returns-clause-either : goal.returns-clause-either
returns-clause-either c = pick_either

pub returns-clause-which : goal.returns-clause-which
returns-clause-which c = pick_with_last
