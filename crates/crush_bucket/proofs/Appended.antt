-- What a list bucket picks with one more item at its end.
use Rattle.std.proofs.Common.{◌≡◌, ℕ, zero, suc, ◌+◌, ◌*◌, ◌/◌, ◌%◌, ◌<◌, nat_lt, List, [], ◌∷◌, ◌++◌, length, Bool, true, false, if◌then◌else◌, Option, Some, None, MatchOption, IfSome, unwrap_or, slice_index_or, refl, ap, sym, ◌∙◌, arith, ◌⊎◌, inl, inr, length-append}
use Rattle.std.proofs.Math.Seq.{get_or-append_seam}
use Rattle.std.proofs.lemmas.List.{take-append-le, get_or_append_left}
use Rattle.crush_hash.specs.Hash.{hash4}
use Rattle.crush_map.specs.crush_types.specs.declared.ItemId.{ItemId}
use Rattle.crush_map.specs.crush_types.specs.declared.Kind.{Kind}
use Rattle.crush_bucket.specs.Bucket.{WeightedItem, BucketView, word, no_item, item_at, total_weight, weight_within}
use Rattle.crush_bucket.specs.Kinds.{takes, greatest, list_pick}
use Rattle.crush_bucket.specs.Laws.{IsGreatest, NonePasses}
use Rattle.crush_bucket.specs.Pick.{pick, pick_as}
use Rattle.crush_bucket.specs.Appended.{IsList, with_last}
use Rattle.crush_bucket.proofs.Greatest.{greatest_is}

-- ---- places before the end

-- whether an item takes the input, with this sum up to it
abbrev item_takes : ItemId → ℕ → ℕ → WeightedItem → ℕ → Bool
item_takes id x r item sum = nat_lt (hash4 x (word item.0) r (word id) % 65536 * sum / 65536) item.1.0

takes_same : (id : ItemId) (items : List WeightedItem) (last : WeightedItem) (x r place : ℕ) → place < length items
    → takes id (items ++ last ∷ []) x r place ≡ takes id items x r place
takes_same id items last x r place lt =
    let item : slice_index_or (items ++ last ∷ []) place no_item ≡ slice_index_or items place no_item = get_or_append_left items (last ∷ []) no_item place lt in
    let sum : weight_within (items ++ last ∷ []) 0 (place + 1) ≡ weight_within items 0 (place + 1) = ap total_weight (take-append-le (place + 1) items (last ∷ []) (omega arith)) in
    let by_item : takes id (items ++ last ∷ []) x r place ≡ item_takes id x r (slice_index_or items place no_item) (weight_within (items ++ last ∷ []) 0 (place + 1)) =
    ap (λ (e : WeightedItem). item_takes id x r e (weight_within (items ++ last ∷ []) 0 (place + 1))) item in
    by_item ∙ ap (λ (s : ℕ). item_takes id x r (slice_index_or items place no_item) s) sum

greatest_same : (p q : ℕ → Bool) (n : ℕ) → ((i : ℕ) → i < n → p i ≡ q i) → greatest p n ≡ greatest q n
greatest_same p q zero same = refl
greatest_same p q (suc n) same = rw (same n (omega arith), greatest_same p q n (λ i lt. same i (omega arith))) refl

below_of : (p : ℕ → Bool) (n : ℕ) (found : Option ℕ) → MatchOption found (NonePasses p n) (IsGreatest p n) → IfSome found (λ i. i < n)
below_of p n None none = tt
below_of p n (Some i) is = is.below

-- ---- the place

-- the item at the end, or at a place before it
at_place : (items : List WeightedItem) (last : WeightedItem) (b : Bool) (found same : Option ℕ) → found ≡ same → IfSome same (λ i. i < length items) → 0 < length items
    → item_at (items ++ last ∷ []) (unwrap_or (if b then Some (length items) else found) 0) ≡ (if b then last.0 else item_at items (unwrap_or same 0))
at_place items last true found same e within some = ap (λ (item : WeightedItem). item.0) (get_or-append_seam items last [] no_item)
at_place items last false found None e within some = rw e (ap (λ (item : WeightedItem). item.0) (get_or_append_left items (last ∷ []) no_item 0 some))
at_place items last false found (Some i) e within some = rw e (ap (λ (item : WeightedItem). item.0) (get_or_append_left items (last ∷ []) no_item i within))

list_with_last : (id : ItemId) (items : List WeightedItem) (last : WeightedItem) (x r : ℕ) → 0 < length items
    → list_pick id (items ++ last ∷ []) x r ≡ (if takes id (items ++ last ∷ []) x r (length items) then last.0 else list_pick id items x r)
unfolding list_pick
list_with_last id items last x r some =
    let long : length (items ++ last ∷ []) ≡ suc (length items) = grind (arith, length-append) in
    ap (λ (n : ℕ). item_at (items ++ last ∷ []) (unwrap_or (greatest (takes id (items ++ last ∷ []) x r) n) 0)) long
    ∙ at_place items last (takes id (items ++ last ∷ []) x r (length items)) (greatest (takes id (items ++ last ∷ []) x r) (length items)) (greatest (takes id items x r) (length items))
    (greatest_same _ _ (length items) (λ place lt. takes_same id items last x r place lt))
    (below_of (takes id items x r) (length items) _ (greatest_is (takes id items x r) (length items))) some

-- ---- the pick

pub pick_with_last : (b : BucketView) (last : WeightedItem) (x r : ℕ) → IsList b → 0 < length b.items
    → pick (with_last b last) x r ≡ (if takes b.id (with_last b last).items x r (length b.items) then last.0 else pick b x r)
unfolding pick
pick_with_last b last x r is some =
    let longer : pick (with_last b last) x r ≡ list_pick b.id (b.items ++ last ∷ []) x r = ap (λ (k : Kind). pick_as k (with_last b last) x r) is in
    let without : pick b x r ≡ list_pick b.id b.items x r = ap (λ (k : Kind). pick_as k b x r) is in
    longer ∙ (list_with_last b.id b.items last x r some
    ∙ ap (λ (item : ItemId). if takes b.id (with_last b last).items x r (length b.items) then last.0 else item) (sym without))

either_of : (b : Bool) (picked last before : ItemId) → picked ≡ (if b then last else before) → (picked ≡ last) ⊎ (picked ≡ before)
either_of true picked last before e = inl e
either_of false picked last before e = inr e

pub pick_either : (b : BucketView) (last : WeightedItem) (x r : ℕ) → IsList b → 0 < length b.items
    → (pick (with_last b last) x r ≡ last.0) ⊎ (pick (with_last b last) x r ≡ pick b x r)
pick_either b last x r is some =
    either_of (takes b.id (with_last b last).items x r (length b.items)) _ _ _ (pick_with_last b last x r is some)
