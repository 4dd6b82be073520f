-- What holds of the tables of every map.
use Rattle.std.specs.Prelude.{◌≡◌, ℕ, negsuc, ◌<◌, ◌^◌, List, length, slice_index_or, Option, None}
use Rattle.std.specs.List.{position_from}
use Rattle.std.specs.Ordering.{int_eq}
use Rattle.crush_map.specs.declared.draft.Bucket.{Bucket}
use Rattle.crush_map.specs.crush_types.specs.declared.Kind.TheVariants.{Uniform}
use Rattle.crush_bucket.specs.Bucket.{total_weight, HasEqualWeights}
use Rattle.crush_bucket.specs.Tables.{TypedBucket, TablesView, bucket_at, HasItemsBelow}

-- what a bucket must be so that tables can have it: few items, a sum of weights that is a word,
-- equal weights where it is uniform
pub record IsFit (b : Bucket) : Type 0 where
  pub few : length b.items < 2 ^ 16
  pub light : total_weight b.items < 2 ^ 32
  pub equal : b.alg ≡ Uniform → HasEqualWeights b.items

-- the buckets have ids below 0
abbrev pub HasNegativeIds : TablesView → Type 0
HasNegativeIds t = (number : ℕ) → number < length t.buckets → (n : ℕ) × ((bucket_at t number).id.0 ≡ negsuc n)

-- the buckets have ids below 0, and each of their items is a bucket of a smaller number or a device
pub record IsLaid (t : TablesView) : Type 0 where
  pub negative : HasNegativeIds t
  pub below : HasItemsBelow t

-- at each n the number of the bucket -1 - n
abbrev pub IsIndexOf : List TypedBucket → List (Option ℕ) → Type 0
IsIndexOf buckets index = (n : ℕ) → slice_index_or index n None ≡ position_from (λ b. int_eq b.bucket.id.0 (negsuc n)) 0 buckets
