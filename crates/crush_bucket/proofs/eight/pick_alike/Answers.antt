use Rattle.std.proofs.Common.{ℕ, ◌<◌, List, Option, IfSome, [], ◌∷◌, Bor, slice_index, slice_index_or, subst}
use Rattle.std.proofs.lemmas.Simd.{get_or-replicate}
use Rattle.crush_map.specs.crush_types.specs.declared.ItemId.{ItemId}
use Rattle.crush_bucket.specs.declared.any.AnyBucket.{AnyBucket}
use Rattle.crush_bucket.specs.Eight.{IsPickedBy}
use Rattle.crush_hash.specs.Permutation.{no_id}
use Rattle.crush_bucket.proofs.Ahead.{if_some}
use Rattle.crush_bucket.proofs.eight.pick_alike.Goals as goal

-- what eight lanes of one bucket pick is what that bucket picks
of_one : (bucket : Bor AnyBucket) (xs : List ℕ) (r : ℕ) (found : Option (List ItemId)) → IfSome found (λ items. (lane : ℕ) (d : _) → lane < 8 → IsPickedBy (slice_index_or (bucket ∷ bucket ∷ bucket ∷ bucket ∷ bucket ∷ bucket ∷ bucket ∷ bucket ∷ []) lane d).now (slice_index xs lane) r (slice_index_or items lane no_id)) → IfSome found (λ items. (lane : ℕ) → lane < 8 → IsPickedBy bucket.now (slice_index xs lane) r (slice_index_or items lane no_id))
of_one bucket xs r found =
    if_some (λ (items : List ItemId). (lane : ℕ) (d : _) → lane < 8 → IsPickedBy (slice_index_or (bucket ∷ bucket ∷ bucket ∷ bucket ∷ bucket ∷ bucket ∷ bucket ∷ bucket ∷ []) lane d).now (slice_index xs lane) r (slice_index_or items lane no_id)) (λ (items : List ItemId). (lane : ℕ) → lane < 8 → IsPickedBy bucket.now (slice_index xs lane) r (slice_index_or items lane no_id)) found
    (λ items is lane low. subst (λ t. IsPickedBy t.now (slice_index xs lane) r (slice_index_or items lane no_id)) (get_or-replicate 8 lane bucket bucket low) (is lane bucket low))

pub returns-in-Tree : goal.returns-in-Tree
returns-in-Tree c = of_one c.args.bucket c.args.xs.now c.args.r c.pick_trees.result c.pick_trees.ensures

pub returns-in-Uniform : goal.returns-in-Uniform
returns-in-Uniform c = of_one c.args.bucket c.args.xs.now c.args.r c.pick_uniforms.result c.pick_uniforms.ensures
