-- What the buckets of a map pick is an item of the map, and each device of a trace a device of it.
use Rattle.std.proofs.Common.{◌≡◌, ℕ, ℤ, pos, negsuc, ◌+◌, ◌<◌, ◌==◌, ◌||◌, List, [], ◌∷◌, length, map, Bool, true, false, cond, Option, Some, None, IfSome, MatchOption, slice_get, slice_index_or, refl, ap, sym, ◌∙◌, arith, inl, inr}
use Rattle.std.specs.List.{All, Contains, list_any, position_from}
use Rattle.std.specs.Ordering.{int_eq}
use Rattle.std.proofs.lemmas.Bool.{cases_lt}
use Rattle.std.proofs.lemmas.Bool.Decides.{Decides-eqb, Decides-int_eq, nat_tests}
use Rattle.std.proofs.lemmas.List.{get_or_past}
use Rattle.std.proofs.lemmas.List.Elements.{All-weaker}
use Rattle.std.proofs.lemmas.List.Folds.{Any-from_list_any}
use Rattle.std.proofs.lemmas.Option.{slice_get-get_or}
use Rattle.crush_map.specs.Faults.{is_bucket_id}
use Rattle.crush_map.specs.Map.{Map}
use Rattle.crush_map.specs.Sound.{IsBucketAt, has_bucket, has_device, has_item, same_id}
use Rattle.crush_map.specs.declared.draft.Bucket.{Bucket}
use Rattle.crush_map.specs.declared.draft.Device.{Device}
use Rattle.crush_map.specs.declared.draft.Step.{Step}
use Rattle.crush_map.specs.crush_types.specs.declared.ItemId.{ItemId}
use Rattle.crush_bucket.specs.Laws.{PicksBelow}
use Rattle.crush_bucket.specs.declared.typed.TypedBucket.{TypedBucket}
use Rattle.crush_bucket.specs.Tables.{TablesView, IsDevice, bucket_numbered, no_bucket, pick_at, size_at, tables_of, typed_bucket}
use Rattle.crush_choose.specs.Trace.{rule_trace}
use Rattle.crush_choose.proofs.Staying.{eq_of}
use Rattle.crush_choose.proofs.Items.{ArePicks, NumberIs, trace_are}

-- the item is one of the map
abbrev pub IsOf : Map → ItemId → Type 0
IsOf m item = has_item m.devices m.buckets item.0 ≡ true

-- the law of the map that is cited here
abbrev pub HasSoundBuckets : Map → Type 0
HasSoundBuckets m = (i : ℕ) → IfSome (slice_get m.buckets i) (λ b. IsBucketAt m i b)

-- ---- devices

-- the tables have the devices of the map
pub same_devices : (devices : List Device) (id : ℕ) → list_any (λ (n : ℕ). n == id) (map (λ (d : Device). d.id) devices) ≡ has_device devices id
same_devices [] id = refl
same_devices (d ∷ devices) id = ap (λ (b : Bool). (d.id == id) || b) (same_devices devices id)

device_is : (m : Map) (item : ItemId) → IsDevice (tables_of m) item → IsOf m item
device_is m item (n, e, has) = rw e (sym (same_devices m.devices n) ∙ has)

-- the ids of devices are those of the map
listed : (devices : List Device) (id : ℕ) → has_device devices id ≡ true → Contains (map (λ (d : Device). d.id) devices) id
listed devices id has =
    let (j, n, few, there, same) = Any-from_list_any (λ (n : ℕ). n == id) (map (λ (d : Device). d.id) devices) (same_devices devices id ∙ has) in
    let e : n ≡ id = eq_of n id same in
    (j, few, rw e at there)

-- ---- buckets

is_itself : (id : ℤ) → same_id id id ≡ true
is_itself (pos n) = grind (arith, nat_tests)
is_itself (negsuc n) = grind (arith, nat_tests)

is_same : (x y : ℤ) → x ≡ y → same_id x y ≡ true
is_same x y e = rw e (is_itself y)

are_same : (x y : ℤ) → same_id x y ≡ true → x ≡ y
are_same (pos a) (pos b) h = ap (λ (n : ℕ). pos n) ((Decides-eqb a b).0 h)
are_same (pos a) (negsuc b) h = cc
are_same (negsuc a) (pos b) h = cc
are_same (negsuc a) (negsuc b) h = ap (λ (n : ℕ). negsuc n) ((Decides-eqb a b).0 h)

or_left : (a b : Bool) → a ≡ true → (a || b) ≡ true
or_left true b e = refl
or_left false b e = cc

or_right : (a b : Bool) → b ≡ true → (a || b) ≡ true
or_right true b e = refl
or_right false b e = e

-- a number that an item has is that of a bucket with its id
first_or_later : (b : Bucket) (buckets : List Bucket) (id : ℤ) (i : ℕ) (later : Option ℕ) (k : ℕ) (test : Bool) → int_eq b.id.0 id ≡ test → cond test (Some i) later ≡ Some k
    → (later ≡ Some k → has_bucket buckets id ≡ true) → has_bucket (b ∷ buckets) id ≡ true
first_or_later b buckets id i later k true is e more = or_left _ _ (is_same b.id.0 id ((Decides-int_eq b.id.0 id).0 is))
first_or_later b buckets id i later k false is e more = or_right (same_id b.id.0 id) _ (more e)

numbered_has : (buckets : List Bucket) (id : ℤ) (i k : ℕ) → position_from (λ b. int_eq b.bucket.id.0 id) i (map typed_bucket buckets) ≡ Some k → has_bucket buckets id ≡ true
numbered_has [] id i k e = absurd cc
numbered_has (b ∷ buckets) id i k e =
    first_or_later b buckets id i (position_from (λ b. int_eq b.bucket.id.0 id) (i + 1) (map typed_bucket buckets)) k (int_eq b.id.0 id) refl e (numbered_has buckets id (i + 1) k)

-- an id that a bucket has is no device's
bucket_item : (devices : List Device) (buckets : List Bucket) (id : ℤ) → is_bucket_id id ≡ true → has_bucket buckets id ≡ true → has_item devices buckets id ≡ true
bucket_item devices buckets (pos n) is has = cc
bucket_item devices buckets (negsuc n) is has = has

bucket_is : (m : Map) → HasSoundBuckets m → (id : ℤ) → has_bucket m.buckets id ≡ true → has_item m.devices m.buckets id ≡ true
bucket_is m sound id has =
    let (j, b, few, at, same) = Any-from_list_any (λ (b : Bucket). same_id b.id.0 id) m.buckets has in
    let there : slice_get m.buckets j ≡ Some b = slice_get-get_or m.buckets j b few ∙ ap (λ (b : Bucket). Some b) at in
    let is : IsBucketAt m j b = rw there at (sound j) in
    let e : b.id.0 ≡ id = are_same b.id.0 id same in
    bucket_item m.devices m.buckets id (rw e at is.id) has

-- ---- picks

below_is_of : (m : Map) → HasSoundBuckets m → (bucket : ℕ) (item : ItemId) (o : Option ℕ) → bucket_numbered (tables_of m) item ≡ o
    → MatchOption o (IsDevice (tables_of m) item) (λ below. below < bucket) → IsOf m item
below_is_of m sound bucket item None e is = device_is m item is
below_is_of m sound bucket item (Some k) e is = bucket_is m sound item.0 (numbered_has m.buckets item.0 0 k e)

-- a bucket that has items is one of the tables
sized_within : (t : TablesView) (bucket : ℕ) → 0 < size_at t bucket → bucket < length t.buckets
sized_within t bucket some = elim (cases_lt bucket (length t.buckets)) [
  | inl lt ↦ lt
  | inr ge ↦ (let past : slice_index_or t.buckets bucket no_bucket ≡ no_bucket = get_or_past t.buckets bucket no_bucket ge in let none : size_at t bucket ≡ 0 = ap (λ (b : TypedBucket). length b.bucket.items) past in absurd (omega (arith, none, some)))
]

pub picks_of : (m : Map) → HasSoundBuckets m → PicksBelow (tables_of m) → ArePicks (IsOf m) (tables_of m)
picks_of m sound below bucket x r some =
    let item = pick_at (tables_of m) bucket x r in
    below_is_of m sound bucket item (bucket_numbered (tables_of m) item) refl (below bucket x r (sized_within (tables_of m) bucket some) some)

-- ---- the trace

pub trace_of : (m : Map) → HasSoundBuckets m → PicksBelow (tables_of m) → (w : List ℕ) (steps : List Step) (x size : ℕ)
    → All (Contains (map (λ (d : Device). d.id) m.devices)) (rule_trace (tables_of m) w steps x size)
trace_of m buckets below w steps x size =
    All-weaker (NumberIs (IsOf m)) (Contains (map (λ (d : Device). d.id) m.devices)) (listed m.devices) (rule_trace (tables_of m) w steps x size)
    (trace_are (IsOf m) (tables_of m) (picks_of m buckets below) w steps x size)
