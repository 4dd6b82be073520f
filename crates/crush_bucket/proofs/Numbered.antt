-- The first place at which a test passes, and the table of bucket numbers.
use Rattle.std.proofs.Common.{◌≡◌, ◌≢◌, ℕ, ℤ, pos, negsuc, zero, suc, ◌+◌, ◌<◌, ◌≤◌, List, [], ◌∷◌, length, drop, slice_index_or, slice_set, Bool, true, false, Option, Some, None, refl, ap, sym, ◌∙◌, arith, ◌⊎◌, inl, inr}
use Rattle.std.specs.List.{position_from}
use Rattle.std.specs.Ordering.{int_eq}
use Rattle.std.specs.Option.{IfSome}
use Rattle.std.proofs.lemmas.List.{get_or-set_same, get_or-set_other, drop_more}
use Rattle.std.proofs.lemmas.Bool.Decides.{Decides-int_eq}
use Rattle.std.proofs.lemmas.Bool.{false_from_ne_true}
use Rattle.crush_map.specs.crush_types.specs.declared.ItemId.{ItemId}
use Rattle.crush_bucket.specs.Tables.{TypedBucket, TablesView, no_bucket, bucket_at, bucket_numbered}
use Rattle.crush_bucket.specs.Private.Laid.{HasNegativeIds}

-- whether a bucket has this id
abbrev pub has_that_id : ℤ → TypedBucket → Bool
has_that_id id b = int_eq b.bucket.id.0 id

-- ---- the first place

here : {X : Type 0} (p : X → Bool) (i : ℕ) (x : X) (xs : List X) → p x ≡ true → position_from p i (x ∷ xs) ≡ Some i
here p i x xs h = rw h refl

further : {X : Type 0} (p : X → Bool) (i : ℕ) (x : X) (xs : List X) → p x ≡ false → position_from p i (x ∷ xs) ≡ position_from p (i + 1) xs
further p i x xs h = rw h refl

-- it is a place of the list
pub position_within : {X : Type 0} (p : X → Bool) (i : ℕ) (xs : List X) → IfSome (position_from p i xs) (λ k. k < i + length xs)
position_within p i [] = tt
position_within {X} p i (x ∷ xs) =
    let by : (b : Bool) → p x ≡ b → IfSome (position_from p i (x ∷ xs)) (λ k. k < i + suc (length xs)) = λ b. elim b as (λ v. p x ≡ v → IfSome (position_from p i (x ∷ xs)) (λ k. k < i + suc (length xs))) [
      | true ↦ λ h. rw (here p i x xs h) (omega arith)
      | false ↦ λ h. rw (further p i x xs h) (let e : i + suc (length xs) ≡ i + 1 + length xs = omega arith in rw e (position_within p (i + 1) xs))
    ] in by (p x) refl

-- where no element passes there is none
pub position_none : {X : Type 0} (p : X → Bool) (i : ℕ) (xs : List X) (d : X) → ((k : ℕ) → k < length xs → p (slice_index_or xs k d) ≡ false) → position_from p i xs ≡ None
position_none p i [] d h = refl
position_none p i (x ∷ xs) d h =
    further p i x xs (h 0 (omega arith)) ∙ position_none p (i + 1) xs d (λ k below. h (suc k) (omega arith))

-- where one passes, it is at that place or before it
pub position_some : {X : Type 0} (p : X → Bool) (i : ℕ) (xs : List X) (d : X) (j : ℕ) → j < length xs → p (slice_index_or xs j d) ≡ true → (k : ℕ) × (position_from p i xs ≡ Some k) × (k ≤ i + j)
position_some p i [] d j below h = absurd (omega arith)
position_some p i (x ∷ xs) d zero below h = (i, here p i x xs h, omega arith)
position_some {X} p i (x ∷ xs) d (suc j) below h =
    let by : (b : Bool) → p x ≡ b → (k : ℕ) × (position_from p i (x ∷ xs) ≡ Some k) × (k ≤ i + suc j) = λ b. elim b as (λ v. p x ≡ v → (k : ℕ) × (position_from p i (x ∷ xs) ≡ Some k) × (k ≤ i + suc j)) [
      | true ↦ λ e. (i, here p i x xs e, omega arith)
      | false ↦ λ e. (let deep = position_some p (i + 1) xs d j (omega arith) h in (deep.0, further p i x xs e ∙ deep.1, omega (arith, deep.2)))
    ] in by (p x) refl

-- ---- ids

pub same_id : (x y : ℤ) → x ≡ y → int_eq x y ≡ true
same_id x y e = (Decides-int_eq x y).1 e

pub other_id : (x y : ℤ) → (x ≡ y → ⊥) → int_eq x y ≡ false
other_id x y n = false_from_ne_true (int_eq x y) (λ e. n ((Decides-int_eq x y).0 e))

-- ---- the table, one bucket further to the front

pub index_set : (rows : List TypedBucket) (index : List (Option ℕ)) (p q m : ℕ) → p < length rows → q ≡ p + 1 → m < length index → (slice_index_or rows p no_bucket).bucket.id.0 ≡ negsuc m
    → ((n : ℕ) → slice_index_or index n None ≡ position_from (has_that_id (negsuc n)) q (drop q rows))
    → (n : ℕ) → slice_index_or (slice_set index m (Some p)) n None ≡ position_from (has_that_id (negsuc n)) p (drop p rows)
index_set rows index p q m within e low id each n =
    let row = slice_index_or rows p no_bucket in
    let front : position_from (has_that_id (negsuc n)) p (drop p rows) ≡ position_from (has_that_id (negsuc n)) p (row ∷ drop (p + 1) rows) = ap (λ (bs : List TypedBucket). position_from (has_that_id (negsuc n)) p bs) (drop_more rows p no_bucket within) in
    let either : (n ≡ m) ⊎ (n ≢ m) = grind arith in
    elim either [
      | inl same ↦
          let test : has_that_id (negsuc n) row ≡ true = same_id row.bucket.id.0 (negsuc n) (id ∙ ap (λ (k : ℕ). negsuc k) (sym same)) in
          ap (λ (k : ℕ). slice_index_or (slice_set index m (Some p)) k None) same ∙ get_or-set_same index m (Some p) None low ∙ sym (front ∙ here (has_that_id (negsuc n)) p row (drop (p + 1) rows) test)
      | inr other ↦
          let test : has_that_id (negsuc n) row ≡ false = other_id row.bucket.id.0 (negsuc n) (λ same. other (let bad : negsuc n ≡ negsuc m = sym same ∙ id in cc)) in
          get_or-set_other index m n (Some p) None other ∙ (each n ∙ (rw e refl ∙ sym (front ∙ further (has_that_id (negsuc n)) p row (drop (p + 1) rows) test)))
    ]

-- ---- ids of devices

-- no bucket of laid tables has the id of a device
pub none_of_device : (t : TablesView) (item : ItemId) (d : ℕ) → HasNegativeIds t → item.0 ≡ pos d → bucket_numbered t item ≡ None
none_of_device t item d negative e =
    position_none (has_that_id item.0) 0 t.buckets no_bucket (λ k below.
    other_id (bucket_at t k).id.0 item.0 (λ same. (let n = negative k below in let bad : negsuc n.0 ≡ pos d = sym n.1 ∙ (same ∙ e) in cc)))

-- a number that an id has is that of a bucket
pub numbered_within : (t : TablesView) (item : ItemId) (o : Option ℕ) → o ≡ bucket_numbered t item → IfSome o (λ n. n < length t.buckets)
numbered_within t item o e =
    let zero_more : 0 + length t.buckets ≡ length t.buckets = omega arith in
    rw (e, ← zero_more) (position_within (has_that_id item.0) 0 t.buckets)
