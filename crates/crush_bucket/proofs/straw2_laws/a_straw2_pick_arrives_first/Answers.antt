use Rattle.crush_bucket.proofs.First.{first_is, is_place}
use Rattle.crush_bucket.proofs.straw2_laws.a_straw2_pick_arrives_first.Goals as goal

pub returns-clause-is : goal.returns-clause-is
returns-clause-is c = first_is

pub returns-clause-only : goal.returns-clause-only
returns-clause-only c = is_place
