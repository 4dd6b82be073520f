-- The buckets and devices of a map, as choosing walks over them.
use Rattle.std.specs.Prelude.{◌≡◌, ℕ, pos, ◌<◌, ◌==◌, Bool, true, List, [], length, map, slice_index_or, Option, MatchOption}
use Rattle.std.specs.List.{list_any, position_from}
use Rattle.std.specs.Ordering.{int_eq}
use Rattle.crush_map.specs.crush_types.specs.declared.ItemId.{ItemId}
use Rattle.crush_map.specs.crush_types.specs.declared.Kind.{Kind}
use Rattle.crush_map.specs.crush_types.specs.declared.Kind.TheVariants.{Uniform}
use Rattle.crush_map.specs.declared.draft.Bucket.{Bucket}
use Rattle.crush_map.specs.declared.draft.Tunables.{Tunables}
use Rattle.crush_map.specs.Map.{Map}
use Rattle.crush_bucket.specs.Bucket.{BucketView, item_at}
use Rattle.crush_bucket.specs.Pick.{pick}
-- a bucket and the number of its type
pub use Rattle.crush_bucket.specs.declared.typed.TypedBucket.{TypedBucket}

-- the buckets in order of declaration, in which each has its place as its number; the ids of the
-- devices; the tunables
pub record TablesView : Type 0 where
  pub buckets : List TypedBucket
  pub devices : List ℕ
  pub tunables : Tunables

-- ---- the tables of a map

abbrev pub typed_bucket : Bucket → TypedBucket
typed_bucket b = record { of_type = b.kind_of; bucket = record { id = b.id; kind = b.alg; items = b.items } }

abbrev pub tables_of : Map → TablesView
tables_of m = record { buckets = map typed_bucket m.buckets; devices = map (λ d. d.id) m.devices; tunables = m.tunables }

-- ---- the buckets by number

-- what stands where there is no bucket
abbrev pub no_bucket : TypedBucket
no_bucket = record { of_type = 0; bucket = record { id = record { 0 = pos 0 }; kind = Uniform; items = [] } }

abbrev pub bucket_at : TablesView → ℕ → BucketView
bucket_at t number = (slice_index_or t.buckets number no_bucket).bucket

abbrev pub type_at : TablesView → ℕ → ℕ
type_at t number = (slice_index_or t.buckets number no_bucket).of_type

abbrev pub kind_at : TablesView → ℕ → Kind
kind_at t number = (bucket_at t number).kind

abbrev pub size_at : TablesView → ℕ → ℕ
size_at t number = length (bucket_at t number).items

-- what the bucket picks for an input x and an attempt r
unfoldable pub pick_at : TablesView → ℕ → ℕ → ℕ → ItemId
pick_at t number x r = pick (bucket_at t number) x r

-- ---- items

-- the number of the bucket with an id
abbrev pub bucket_numbered : TablesView → ItemId → Option ℕ
bucket_numbered t item = position_from (λ b. int_eq b.bucket.id.0 item.0) 0 t.buckets

-- whether a device has this id
abbrev pub has_device : TablesView → ℕ → Bool
has_device t id = list_any (λ d. d == id) t.devices

-- the item is a device of the map
abbrev pub IsDevice : TablesView → ItemId → Type 0
IsDevice t item = (id : ℕ) × (item.0 ≡ pos id) × (has_device t id ≡ true)

-- the item is a bucket of a smaller number, or else a device
abbrev pub IsBelow : TablesView → ℕ → ItemId → Type 0
IsBelow t number item = MatchOption (bucket_numbered t item) (IsDevice t item) (λ below. below < number)

-- each item of each bucket is a bucket of a smaller number, or else a device
abbrev pub HasItemsBelow : TablesView → Type 0
HasItemsBelow t = (number place : ℕ) → number < length t.buckets → place < size_at t number → IsBelow t number (item_at (bucket_at t number).items place)

-- ---- the scratch

-- what contracts see of a scratch of tables: the tables themselves. It has permutations, and picks
-- that were made ahead, of no other buckets
abbrev pub scratch_of : TablesView → TablesView
scratch_of t = t
