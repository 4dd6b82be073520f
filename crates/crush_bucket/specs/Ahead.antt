-- What is picked from eight buckets of a map at once, each for an input of its own.
use Rattle.std.specs.Prelude.{◌≡◌, ℕ, ◌<◌, List, slice_index, slice_index_or}
use Rattle.crush_map.specs.crush_types.specs.declared.ItemId.{ItemId}
use Rattle.crush_bucket.specs.Bucket.{IsItemOf}
use Rattle.crush_hash.specs.Permutation.{no_id}
use Rattle.crush_bucket.specs.Tables.{TablesView, bucket_at, pick_at}

-- the item is what the bucket with a number picks, and one of its items
pub record IsPick (t : TablesView) (bucket x r : ℕ) (item : ItemId) : Type 0 where
  pub picked : item ≡ pick_at t bucket x r
  pub is_item : IsItemOf (bucket_at t bucket).items item

-- in each of eight lanes stands the item that the lane's bucket picks for the lane's input
abbrev pub ArePicks : TablesView → List ℕ → List ℕ → ℕ → List ItemId → Type 0
ArePicks t buckets xs r items =
    (lane : ℕ) → lane < 8 → IsPick t (slice_index buckets lane) (slice_index xs lane) r (slice_index_or items lane no_id)
