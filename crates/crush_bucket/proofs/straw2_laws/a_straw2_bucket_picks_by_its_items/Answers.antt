use Rattle.std.proofs.Common.{refl, ap}
use Rattle.crush_map.specs.crush_types.specs.declared.Kind.{Kind}
use Rattle.crush_bucket.specs.Pick.{pick, pick_as}
use Rattle.crush_bucket.proofs.Changes.{at_place}
use Rattle.crush_bucket.proofs.straw2_laws.a_straw2_bucket_picks_by_its_items.Goals as goal

pub returns-clause-pick : goal.returns-clause-pick
unfolding pick
returns-clause-pick c b x r is = ap (λ (k : Kind). pick_as k b x r) is

pub returns-clause-place : goal.returns-clause-place
returns-clause-place c items x r = at_place items x r _ refl
