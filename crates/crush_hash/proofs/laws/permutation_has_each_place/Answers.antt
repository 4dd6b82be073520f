use Rattle.crush_hash.proofs.Members.{IsPermutation-permutation, member_below}
use Rattle.crush_hash.proofs.laws.permutation_has_each_place.Goals as goal

pub returns-clause-once : goal.returns-clause-once
returns-clause-once c = IsPermutation-permutation

pub returns-clause-places : goal.returns-clause-places
returns-clause-places c = member_below
