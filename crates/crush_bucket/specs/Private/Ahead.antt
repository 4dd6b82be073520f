-- What a scratch has of the tables it is of.
use Rattle.std.specs.Prelude.{◌≡◌, ℕ, ◌<◌, ◌≤◌, ◌^◌, List, length, slice_index, slice_index_or}
use Rattle.crush_map.specs.crush_types.specs.declared.ItemId.{ItemId}
use Rattle.crush_map.specs.crush_types.specs.declared.Kind.TheVariants.{Uniform}
use Rattle.crush_bucket.specs.Bucket.{BucketView}
use Rattle.crush_hash.specs.Permutation.{no_id}
use Rattle.crush_bucket.specs.Ahead.{ArePicks}
use Rattle.crush_bucket.specs.Tables.{TypedBucket, TablesView, bucket_at, no_bucket}
use Rattle.crush_bucket.specs.declared.scratch.AheadPick.{AheadPick}

-- no uniform bucket has more items than `most`
pub record IsWidest (buckets : List TypedBucket) (most : ℕ) : Type 0 where
  pub small : most < 2 ^ 16
  pub each : (number : ℕ) → number < length buckets → (slice_index_or buckets number no_bucket).bucket.kind ≡ Uniform → length (slice_index_or buckets number no_bucket).bucket.items ≤ most

-- the bucket is one of those of the tables
pub record IsBucketOf (t : TablesView) (b : BucketView) : Type 0 where
  pub number : ℕ
  pub within : number < length t.buckets
  pub is : bucket_at t number ≡ b

-- the step has what was picked ahead for the inputs
abbrev pub IsStep : TablesView → List ℕ → AheadPick → Type 0
IsStep t xs step = ArePicks t step.buckets xs step.r step.items

-- in a lane of a step the bucket picked the item at attempt r
pub record HasPick (lane bucket r : ℕ) (item : ItemId) (step : AheadPick) : Type 0 where
  pub of_bucket : slice_index step.buckets lane ≡ bucket
  pub at_r : step.r ≡ r
  pub is_item : slice_index_or step.items lane no_id ≡ item
