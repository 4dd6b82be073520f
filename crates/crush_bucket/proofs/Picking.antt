-- What a bucket picks is an item of it; on the tables of a map it is below the bucket.
use Rattle.std.proofs.Common.{◌≡◌, ◌≢◌, ℕ, ◌<◌, ◌==◌, length, slice_index_or, false, Some, ap, sym, arith, ◌%◌, ◌-◌, List, min, slice_index, Bool, Option, None, unwrap_or, refl, MatchOption}
use Rattle.std.proofs.lemmas.List.{get_or-map, length-map}
use Rattle.crush_map.specs.declared.draft.Bucket.{Bucket}
use Rattle.crush_map.specs.Map.{Map}
use Rattle.crush_bucket.specs.Private.Laid.{IsLaid}
use Rattle.crush_bucket.specs.Laws.{PicksBelow, HasNoDeviceBucket, IsGreatest, NonePasses}
use Rattle.crush_bucket.specs.Tables.{TypedBucket, TablesView, tables_of, typed_bucket, no_bucket, bucket_at, type_at, pick_at}
use Rattle.crush_bucket.proofs.Numbered.{numbered_within}
use Rattle.crush_bucket.proofs.Validity.{HasSoundBuckets, sound_at, no_declaration, is_laid}
use Rattle.crush_map.specs.crush_types.specs.declared.ItemId.{ItemId}
use Rattle.crush_map.specs.crush_types.specs.declared.Kind.{Kind}
use Rattle.crush_map.specs.crush_types.specs.declared.Kind.TheVariants.{Uniform, List as ListKind, Tree, Straw2}
use Rattle.crush_bucket.specs.Bucket.{BucketView, WeightedItem, item_at, IsItemOf}
use Rattle.crush_bucket.specs.Kinds.{uniform_pick, takes, greatest, list_pick, place_within, height_of, tree_pick, straw2_pick, straw2_place}
use Rattle.crush_hash.specs.Permutation.{permutation}
use Rattle.crush_bucket.specs.Pick.{pick, pick_as}
use Rattle.crush_bucket.proofs.Greatest.{greatest_is}
use Rattle.crush_bucket.proofs.First.{first_is}

-- the item at a place of the bucket is an item of it
at_place : (items : List WeightedItem) (place : ℕ) → place < length items → IsItemOf items (item_at items place)
at_place items place lt = (place, lt, refl)

-- each member of a permutation is a place
abbrev pub HasPlaces : Type 0
HasPlaces = (id : ItemId) (size x place : ℕ) → place < size → slice_index (permutation id size x) place < size

uniform_item : HasPlaces → (id : ItemId) (items : List WeightedItem) (x r : ℕ) → 0 < length items → IsItemOf items (uniform_pick id items x r)
unfolding uniform_pick
uniform_item places id items x r some =
    at_place items _ (places id (length items) x (r % length items) (omega arith))

found_within : (p : ℕ → Bool) (n : ℕ) (found : Option ℕ) → 0 < n → MatchOption found (NonePasses p n) (IsGreatest p n) → unwrap_or found 0 < n
found_within p n None some is = some
found_within p n (Some i) some is = is.below

list_item : (id : ItemId) (items : List WeightedItem) (x r : ℕ) → 0 < length items → IsItemOf items (list_pick id items x r)
unfolding list_pick
list_item id items x r some =
    at_place items _ (found_within (takes id items x r) (length items) (greatest (takes id items x r) (length items)) some (greatest_is (takes id items x r) (length items)))

tree_item : (id : ItemId) (items : List WeightedItem) (x r : ℕ) → 0 < length items → IsItemOf items (tree_pick id items x r)
unfolding tree_pick
tree_item id items x r some =
    at_place items (min (place_within id items x r 0 (height_of (length items))) (length items - 1)) (omega arith)

straw2_item : (items : List WeightedItem) (x r : ℕ) → 0 < length items → IsItemOf items (straw2_pick items x r)
unfolding straw2_pick
straw2_item items x r some = let first = first_is items x r some in at_place items (straw2_place items x r) first.within

as_item : HasPlaces → (kind : Kind) (b : BucketView) (x r : ℕ) → 0 < length b.items → IsItemOf b.items (pick_as kind b x r)
as_item places Uniform b x r some = uniform_item places b.id b.items x r some
as_item places ListKind b x r some = list_item b.id b.items x r some
as_item places Tree b x r some = tree_item b.id b.items x r some
as_item places Straw2 b x r some = straw2_item b.items x r some

pub pick_item : HasPlaces → (b : BucketView) (x r : ℕ) → 0 < length b.items → IsItemOf b.items (pick b x r)
unfolding pick
pick_item places b x r some = as_item places b.kind b x r some

laid_below : HasPlaces → (t : TablesView) → IsLaid t → PicksBelow t
unfolding pick_at
laid_below places t laid bucket x r lt some =
    let is = pick_item places (bucket_at t bucket) x r some in
    rw is.2 at (laid.below bucket is.0 lt is.1)

pub picks_below : HasPlaces → (m : Map) → HasSoundBuckets m → PicksBelow (tables_of m)
picks_below places m are = laid_below places (tables_of m) (is_laid m are)

type_is : (m : Map) (i : ℕ) (d : Bucket) → i < length m.buckets → type_at (tables_of m) i ≡ (slice_index_or m.buckets i d).kind_of
type_is m i d below = ap (λ (b : TypedBucket). b.of_type) (get_or-map typed_bucket m.buckets i d no_bucket below)

no_zero : (n : ℕ) → (n == 0) ≡ false → n ≢ 0
no_zero n h e = let bad : (0 == 0) ≡ false = rw e at h in cc

pub no_device_bucket : (m : Map) → HasSoundBuckets m → HasNoDeviceBucket (tables_of m)
no_device_bucket m are item i numbered =
    let d = no_declaration in
    let few : i < length (tables_of m).buckets = numbered_within (tables_of m) item (Some i) (sym numbered) in
    let below : i < length m.buckets = omega (arith, few, length-map m.buckets typed_bucket) in
    rw (type_is m i d below) (no_zero (slice_index_or m.buckets i d).kind_of (sound_at m are i d below).no_device)
