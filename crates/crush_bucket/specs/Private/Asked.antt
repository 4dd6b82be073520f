-- What an attempt asks of a uniform bucket.
use Rattle.std.specs.Prelude.{◌≡◌, ℕ, ◌%◌, ◌<◌, length}
use Rattle.crush_map.specs.crush_types.specs.declared.ItemId.{ItemId}
use Rattle.crush_map.specs.crush_types.specs.declared.Kind.TheVariants.{Uniform}
use Rattle.crush_bucket.specs.Bucket.{BucketView}

-- the attempt asks the bucket, which is uniform and has this id and size, for a place
pub record IsAsked (b : BucketView) (place r : ℕ) (id : ItemId) (size : ℕ) : Type 0 where
  pub uniform : b.kind ≡ Uniform
  pub of_id : id ≡ b.id
  pub of_size : size ≡ length b.items
  pub at : place ≡ r % length b.items
  pub within : place < size
