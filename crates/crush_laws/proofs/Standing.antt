-- Where the buckets of a map stand in its tables.
use Rattle.std.proofs.Common.{◌≡◌, ℕ, ℤ, suc, ◌+◌, ◌<◌, List, [], ◌∷◌, length, map, slice_index_or, Bool, true, false, Some, Contains, refl, ap, sym, ◌∙◌, arith}
use Rattle.std.specs.List.{position_from, slice_get}
use Rattle.std.proofs.lemmas.Bool.Decides.{Decides-int_eq}
use Rattle.std.proofs.lemmas.List.{get_or-map, length-map}
use Rattle.std.proofs.lemmas.Option.{slice_get_read}
use Rattle.crush_map.specs.crush_types.specs.declared.ItemId.{ItemId}
use Rattle.crush_map.specs.declared.draft.Bucket.{Bucket}
use Rattle.crush_map.specs.Map.{Map}
use Rattle.crush_map.specs.Sound.{IsEachOnce}
use Rattle.crush_bucket.specs.declared.typed.TypedBucket.{TypedBucket}
use Rattle.crush_bucket.specs.Tables.{tables_of, typed_bucket, no_bucket, bucket_at, type_at, bucket_numbered}
use Rattle.crush_bucket.proofs.Numbered.{has_that_id, position_some, same_id}
use Rattle.crush_bucket.proofs.Validity.{HasSoundBuckets}

abbrev pub bucket_ids : Map → List ItemId
bucket_ids m = map (λ (b : Bucket). b.id) m.buckets

-- what the laws on maps say of the buckets of a map
pub record HasLaws (m : Map) : Type 0 where
  pub sound : HasSoundBuckets m
  pub once : IsEachOnce (bucket_ids m)

-- a bucket of a map stands in the tables at the number k
pub record StandsAt (m : Map) (b : Bucket) (k : ℕ) : Type 0 where
  pub within : k < length m.buckets
  pub numbered : bucket_numbered (tables_of m) b.id ≡ Some k
  pub view : bucket_at (tables_of m) k ≡ (typed_bucket b).bucket
  pub typed : type_at (tables_of m) k ≡ b.kind_of

pub same_item : (a b : ItemId) → a.0 ≡ b.0 → a ≡ b
same_item a b e = ap (λ (z : ℤ). record { 0 = z }) e

-- what is found passes
position_passes : {X : Type 0} (p : X → Bool) (i : ℕ) (xs : List X) (d : X) (k : ℕ) → position_from p i xs ≡ Some k
    → (j : ℕ) × (k ≡ i + j) × (j < length xs) × (p (slice_index_or xs j d) ≡ true)
position_passes p i [] d k found = cc
position_passes {X} p i (x ∷ xs) d k found =
    let by : (b : Bool) → p x ≡ b → (j : ℕ) × (k ≡ i + j) × (j < suc (length xs)) × (p (slice_index_or (x ∷ xs) j d) ≡ true) = λ b. elim b as (λ v. p x ≡ v → (j : ℕ) × (k ≡ i + j) × (j < suc (length xs)) × (p (slice_index_or (x ∷ xs) j d) ≡ true)) [
      | true ↦ λ e. (let here : Some i ≡ Some k = rw e at found in let same : i ≡ k = cc in (0, omega arith, omega arith, e))
      | false ↦ λ e. (let deep = position_passes p (i + 1) xs d k (rw e at found) in (suc deep.0, omega (arith, deep.1), omega (arith, deep.2), deep.3))
    ] in by (p x) refl

-- the id at a place of a map's buckets
pub id_at : (m : Map) (i : ℕ) (b : Bucket) → i < length m.buckets → (slice_index_or m.buckets i b).id ≡ b.id → slice_get (bucket_ids m) i ≡ Some b.id
id_at m i b few e =
    slice_get_read (bucket_ids m) (length (bucket_ids m)) i b.id refl (omega (arith, length-map m.buckets (λ (b : Bucket). b.id)))
    (sym (get_or-map (λ (b : Bucket). b.id) m.buckets i b b.id few ∙ e))

-- the number of a bucket is the place at which it is declared
pub stands_at : (m : Map) → IsEachOnce (bucket_ids m) → (b : Bucket) (there : Contains m.buckets b) → StandsAt m b there.0
stands_at m once b (j, few, is) =
    let rows = (tables_of m).buckets in
    let row : slice_index_or rows j no_bucket ≡ typed_bucket b = get_or-map typed_bucket m.buckets j b no_bucket few ∙ ap typed_bucket is in
    let found = position_some (has_that_id b.id.0) 0 rows no_bucket j (omega (arith, length-map m.buckets typed_bucket)) (same_id _ _ (ap (λ (r : TypedBucket). r.bucket.id.0) row)) in
    let (n, at, low, passes) = position_passes (has_that_id b.id.0) 0 rows no_bucket found.0 found.1 in
    let short : n < length m.buckets = omega (arith, length-map m.buckets typed_bucket, low) in
    let other : slice_index_or rows n no_bucket ≡ typed_bucket (slice_index_or m.buckets n b) = get_or-map typed_bucket m.buckets n b no_bucket short in
    let id : (slice_index_or m.buckets n b).id ≡ b.id = same_item _ _ (ap (λ (r : TypedBucket). r.bucket.id.0) (sym other) ∙ (Decides-int_eq _ _).0 passes) in
    let same : n ≡ j = once b.id n j (id_at m n b short id) (id_at m j b few (ap (λ (b : Bucket). b.id) is)) in
    record {
      within = few;
      numbered = found.1 ∙ ap (λ (n : ℕ). Some n) (omega (arith, at, same));
      view = ap (λ (r : TypedBucket). r.bucket) row;
      typed = ap (λ (r : TypedBucket). r.of_type) row;
    }
