-- What eight buckets pick, side by side.
use Rattle.std.specs.Prelude.{◌≡◌, ℕ}
use Rattle.crush_map.specs.crush_types.specs.declared.ItemId.{ItemId}
use Rattle.crush_bucket.specs.Bucket.{BucketView, IsItemOf}
use Rattle.crush_bucket.specs.Pick.{pick}

-- the item is what a bucket picks, and one of its items
pub record IsPickedBy (b : BucketView) (x r : ℕ) (item : ItemId) : Type 0 where
  pub picked : item ≡ pick b x r
  pub is_item : IsItemOf b.items item
