-- The tables of a map, of which the law on its buckets holds.
use Rattle.std.proofs.Common.{◌≡◌, ℕ, ℤ, pos, negsuc, zero, suc, ◌<◌, ◌==◌, ◌||◌, List, [], ◌∷◌, length, map, take, slice_index_or, Bool, true, refl, ap, sym, ◌∙◌, arith}
use Rattle.std.specs.List.{list_any, All, slice_get}
use Rattle.std.specs.Option.{IfSome}
use Rattle.std.proofs.lemmas.Bool.Decides.{Decides-eqb}
use Rattle.std.proofs.lemmas.List.{get_or-map, length-map, get_or-take, length-take-le}
use Rattle.std.proofs.lemmas.List.Folds.{Any-from_list_any}
use Rattle.std.proofs.lemmas.List.Sums.{AllPass-from_list_all}
use Rattle.std.proofs.lemmas.Option.{slice_get-get_or}
use Rattle.crush_map.specs.declared.draft.Bucket.{Bucket}
use Rattle.crush_map.specs.declared.draft.Device.{Device}
use Rattle.crush_map.specs.crush_types.specs.declared.ItemId.{ItemId}
use Rattle.crush_map.specs.crush_types.specs.declared.Kind.TheVariants.{Uniform}
use Rattle.crush_map.specs.Faults.{is_bucket_id}
use Rattle.crush_map.specs.crush_types.specs.Kinds.{is_uniform}
use Rattle.crush_map.specs.crush_types.specs.Weights.{has_equal_weights}
use Rattle.crush_map.specs.Map.{Map}
use Rattle.crush_map.specs.Sound as sound
use Rattle.crush_bucket.specs.Bucket.{BucketView, WeightedItem, item_at, no_item, HasEqualWeights}
use Rattle.crush_bucket.specs.Tables.{TypedBucket, tables_of, typed_bucket, no_bucket, bucket_at, IsBelow}
use Rattle.crush_bucket.specs.Private.Laid.{IsFit, IsLaid, HasNegativeIds}
use Rattle.crush_bucket.proofs.Numbered.{has_that_id, position_some, same_id, none_of_device}

-- what the law says of a map
abbrev pub HasSoundBuckets : Map → Type 0
HasSoundBuckets m = (i : ℕ) → IfSome (slice_get m.buckets i) (λ b. sound.IsBucketAt m i b)

-- what it says of the bucket at a place, and of an item of it
pub sound_at : (m : Map) → HasSoundBuckets m → (i : ℕ) (d : Bucket) → i < length m.buckets → sound.IsBucketAt m i (slice_index_or m.buckets i d)
sound_at m are i d below = rw (slice_get-get_or m.buckets i d below) at (are i)

item_sound_at : (m : Map) (i : ℕ) (b : Bucket) → sound.IsBucketAt m i b → (place : ℕ) → place < length b.items → sound.IsItemAt m i place b.items (item_at b.items place).0
item_sound_at m i b is place below = rw (slice_get-get_or b.items place no_item below) at (is.items place)

-- ---- a bucket

like_first : (first : WeightedItem) (items : List WeightedItem) → All (λ (e : WeightedItem). (e.1.0 == first.1.0) ≡ true) items → All (λ (e : WeightedItem). e.1.0 ≡ first.1.0) (first ∷ items)
like_first first items rest zero d below = refl
like_first first items rest (suc k) d below = (Decides-eqb (slice_index_or items k d).1.0 first.1.0).0 (rest k d (omega arith))

equal_weights : (items : List WeightedItem) → has_equal_weights items ≡ true → HasEqualWeights items
equal_weights [] even = λ k d below. absurd (omega arith)
equal_weights (first ∷ items) even =
    like_first first items (AllPass-from_list_all (λ (e : WeightedItem). e.1.0 == first.1.0) items even)

is_fit : (m : Map) (i : ℕ) (b : Bucket) → sound.IsBucketAt m i b → IsFit b
is_fit m i b is = record {
  few = omega (arith, is.few);
  light = is.light;
  equal = λ uniform. equal_weights b.items (is.even (ap is_uniform uniform));
}

pub all_fit : (m : Map) → HasSoundBuckets m → All IsFit m.buckets
all_fit m are = λ i d below. is_fit m i (slice_index_or m.buckets i d) (sound_at m are i d below)

-- ---- ids

negative_id : (id : ℤ) → is_bucket_id id ≡ true → (n : ℕ) × (id ≡ negsuc n)
negative_id (pos n) h = cc
negative_id (negsuc n) h = (n, refl)

-- the bucket of the tables at a place, whatever stands where there is none
at_number : (m : Map) (i : ℕ) (d : Bucket) → i < length m.buckets → bucket_at (tables_of m) i ≡ (typed_bucket (slice_index_or m.buckets i d)).bucket
at_number m i d below = ap (λ (b : TypedBucket). b.bucket) (get_or-map typed_bucket m.buckets i d no_bucket below)

pub no_declaration : Bucket
no_declaration = record { id = record { 0 = pos 0 }; name = []; kind_of = 0; alg = Uniform; items = [] }

has_negative_ids : (m : Map) → HasSoundBuckets m → HasNegativeIds (tables_of m)
has_negative_ids m are i few =
    let d = no_declaration in
    let below : i < length m.buckets = omega (arith, few, length-map m.buckets typed_bucket) in
    let n = negative_id (slice_index_or m.buckets i d).id.0 (sound_at m are i d below).id in
    (n.0, ap (λ (b : BucketView). b.id.0) (at_number m i d below) ∙ n.1)

-- ids that the map's law calls the same
are_same : (x y : ℤ) → sound.same_id x y ≡ true → x ≡ y
are_same (pos a) (pos b) h = ap (λ (n : ℕ). pos n) ((Decides-eqb a b).0 h)
are_same (pos a) (negsuc b) h = cc
are_same (negsuc a) (pos b) h = cc
are_same (negsuc a) (negsuc b) h = ap (λ (n : ℕ). negsuc n) ((Decides-eqb a b).0 h)

-- ---- an item of a bucket

same_devices : (devices : List Device) (id : ℕ) → list_any (λ (n : ℕ). n == id) (map (λ (d : Device). d.id) devices) ≡ sound.has_device devices id
same_devices [] id = refl
same_devices (d ∷ devices) id = ap (λ (b : Bool). (d.id == id) || b) (same_devices devices id)

-- a bucket among the first is found, and not behind them
found_below : (m : Map) (i : ℕ) (item : ItemId) → i < length m.buckets → sound.has_bucket (take i m.buckets) item.0 ≡ true → IsBelow (tables_of m) i item
found_below m i item within has =
    let d = no_declaration in
    let (j, b, few, is, same) = Any-from_list_any (λ (b : Bucket). sound.same_id b.id.0 item.0) (take i m.buckets) has in
    let low : j < i = omega (arith, length-take-le i m.buckets (omega arith)) in
    let at : slice_index_or m.buckets j b ≡ b = sym (get_or-take i m.buckets j b low) ∙ is in
    let id : (bucket_at (tables_of m) j).id.0 ≡ item.0 = ap (λ (v : BucketView). v.id.0) (at_number m j b (omega arith)) ∙ (ap (λ (b : Bucket). b.id.0) at ∙ are_same b.id.0 item.0 same) in
    let found = position_some (has_that_id item.0) 0 (tables_of m).buckets no_bucket j (omega (arith, length-map m.buckets typed_bucket)) (same_id (bucket_at (tables_of m) j).id.0 item.0 id) in
    rw found.1 (omega (arith, found.2))

item_below : (m : Map) → HasSoundBuckets m → (i : ℕ) → i < length m.buckets → (item : ItemId) (id : ℤ) → item.0 ≡ id → sound.has_item m.devices (take i m.buckets) id ≡ true → IsBelow (tables_of m) i item
item_below m are i within item (pos n) e has =
    rw (none_of_device (tables_of m) item n (has_negative_ids m are) e) (n, e, same_devices m.devices n ∙ has)
item_below m are i within item (negsuc n) e has = found_below m i item within (rw (← e) at has)

-- ---- the tables

pub is_laid : (m : Map) → HasSoundBuckets m → IsLaid (tables_of m)
is_laid m are = record {
  negative = has_negative_ids m are;
  below = λ i place few short. (
      let d = no_declaration in
      let within : i < length m.buckets = omega (arith, few, length-map m.buckets typed_bucket) in
      let b = slice_index_or m.buckets i d in
      let at = at_number m i d within in
      let is = item_sound_at m i b (sound_at m are i d within) place (rw at at short) in
      rw at (item_below m are i within (item_at b.items place) (item_at b.items place).0 refl is.declared));
}
