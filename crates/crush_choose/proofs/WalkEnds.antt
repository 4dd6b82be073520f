-- Where walks can end, and that no walk ends elsewhere.
use Rattle.std.proofs.Common.{◌≡◌, ℕ, zero, suc, ◌+◌, ◌<◌, ◌≤◌, ◌&&◌, ◌==◌, List, [], ◌∷◌, length, replicate, slice_index_or, slice_set, Bool, true, false, not, Option, Some, None, inl, inr, refl, ap, sym, ◌∙◌, arith, if◌then◌else◌, get_or-set_other, get_or-set_same}
use Rattle.std.specs.List.{list_any}
use Rattle.std.proofs.Math.ListN.{length-set}
use Rattle.std.proofs.Math.Nat.{eq-or-lt_of_le}
use Rattle.std.proofs.lemmas.Bool.Decides.{nat_tests}
use Rattle.std.proofs.lemmas.List.{get_or-replicate}
use Rattle.std.proofs.lemmas.List.Folds.{list_any_at}
use Rattle.crush_map.specs.crush_types.specs.declared.ItemId.{ItemId}
use Rattle.crush_map.specs.declared.limits.TheConstants.{BUCKET_LIMIT}
use Rattle.crush_bucket.specs.Bucket.{BucketView, WeightedItem, no_item, item_at, IsItemOf}
use Rattle.crush_bucket.specs.Pick.{pick}
use Rattle.crush_bucket.specs.Pickable.{pickable}
use Rattle.crush_bucket.specs.Tables.{TablesView, bucket_at, type_at, size_at, pick_at, bucket_numbered, HasItemsBelow}
use Rattle.crush_choose.specs.declared.walk.WalkEnd.{WalkEnd}
use Rattle.crush_choose.specs.declared.walk.WalkEnd.TheVariants.{Empty, Wrong, Found}
use Rattle.crush_choose.specs.Reach.{at_item, reach_below, reach}
use Rattle.crush_choose.specs.Marks.{Slot}
use Rattle.crush_choose.specs.Firstn.{has}
use Rattle.crush_choose.specs.Private.Reachable.{any_bucket, has_leaf, can_be_placed, can_have_leaf, can_end_at, can_reach_below, can_reach, marked, IsMarked}
use Rattle.crush_bucket.proofs.Pickable.{pickable_item}
use Rattle.crush_choose.proofs.Reaching.{below_of}

-- ---- tests of the items of a list

any_same : {A : Type 0} (p q : A → Bool) (xs : List A) (d : A) → ((i : ℕ) → i < length xs → p (slice_index_or xs i d) ≡ q (slice_index_or xs i d)) → list_any p xs ≡ list_any q xs
any_same p q [] d same = refl
any_same p q (x ∷ xs) d same = rw (same 0 (omega arith), any_same p q xs d (λ i lt. same (suc i) (omega arith))) refl

pub fails_by : (b : Bool) → (b ≡ true → ⊥) → b ≡ false
fails_by true h = absurd (h refl)
fails_by false h = refl

none_passes : {A : Type 0} (p : A → Bool) (xs : List A) (d : A) (i : ℕ) → list_any p xs ≡ false → i < length xs → p (slice_index_or xs i d) ≡ false
none_passes p xs d i none lt =
    fails_by (p (slice_index_or xs i d)) (λ passes. let bad : true ≡ false = sym (list_any_at p xs i d lt passes) ∙ none in cc)

-- ---- from which buckets walks can end

-- tests that agree on devices, and on buckets of numbers below a bound
abbrev pub AreAlike : TablesView → ℕ → (ItemId → Bool) → (ItemId → Bool) → Type 0
AreAlike t bound p q = (item : ItemId) → ((k : ℕ) → bucket_numbered t item ≡ Some k → k < bound) → p item ≡ q item

end_same : (t : TablesView) (wanted : ℕ) (p q : ItemId → Bool) (f g : ℕ → Bool) (item : ItemId) (o : Option ℕ) → p item ≡ q item
    → ((k : ℕ) → o ≡ Some k → f k ≡ g k) → can_end_at t wanted p f item o ≡ can_end_at t wanted q g item o
end_same t wanted p q f g item None same down = rw same refl
end_same t wanted p q f g item (Some k) same down = rw (same, down k refl) refl

number_below : (t : TablesView) (b i k : ℕ) → HasItemsBelow t → b < length t.buckets → i < length (pickable (bucket_at t b))
    → bucket_numbered t (item_at (pickable (bucket_at t b)) i) ≡ Some k → k < b
number_below t b i k below lt few numbered =
    let (place, within, is) = pickable_item (bucket_at t b) i few in
    below_of t b (item_at (pickable (bucket_at t b)) i) k numbered (rw is at (below b place lt within))

-- two bounds on the picks, and two tests that agree, come to the same
reach_same : (t : TablesView) (wanted : ℕ) (p q : ItemId → Bool) (bound n m b : ℕ) → HasItemsBelow t → AreAlike t bound p q → b < length t.buckets → b ≤ bound
    → b < n → b < m → can_reach_below t wanted p n b ≡ can_reach_below t wanted q m b
reach_same t wanted p q bound zero m b below alike lt le h k = absurd (omega arith)
reach_same t wanted p q bound (suc n) zero b below alike lt le h k = absurd (omega arith)
reach_same t wanted p q bound (suc n) (suc m) b below alike lt le h k =
    any_same _ _ (pickable (bucket_at t b)) no_item (λ i few.
    end_same t wanted p q (can_reach_below t wanted p n) (can_reach_below t wanted q m) (item_at (pickable (bucket_at t b)) i) (bucket_numbered t (item_at (pickable (bucket_at t b)) i))
    (alike (item_at (pickable (bucket_at t b)) i) (λ j numbered. let less = number_below t b i j below lt few numbered in omega arith))
    (λ j numbered.
    let less : j < b = number_below t b i j below lt few numbered in
    reach_same t wanted p q bound n m j below alike (omega arith) (omega arith) (omega arith) (omega arith)))

pub can_reach_same : (t : TablesView) (wanted : ℕ) (p q : ItemId → Bool) (b : ℕ) → HasItemsBelow t → AreAlike t b p q → b < length t.buckets → can_reach t wanted p b ≡ can_reach t wanted q b
unfolding can_reach
can_reach_same t wanted p q b below alike lt = reach_same t wanted p q b (suc b) (suc b) b below alike lt (omega arith) (omega arith) (omega arith)

leaf_same : (w : List ℕ) (x : ℕ) (f g : ℕ → Bool) (item : ItemId) (o : Option ℕ) → ((k : ℕ) → o ≡ Some k → f k ≡ g k) → has_leaf w x f item o ≡ has_leaf w x g item o
leaf_same w x f g item None same = refl
leaf_same w x f g item (Some k) same = same k refl

-- what can be placed depends on the leaves below buckets of numbers below a bound
pub placed_alike : (t : TablesView) (w : List ℕ) (x : ℕ) (chosen : List Slot) (f g : ℕ → Bool) (bound : ℕ) → ((k : ℕ) → k < bound → f k ≡ g k)
    → AreAlike t bound (can_be_placed t w x chosen f) (can_be_placed t w x chosen g)
placed_alike t w x chosen f g bound same item low =
    ap (λ (leaf : Bool). leaf && not (has chosen item)) (leaf_same w x f g item (bucket_numbered t item) (λ k numbered. same k (low k numbered)))

-- each bucket that the marks have is marked
all_marked : (k : ℕ) → k < BUCKET_LIMIT → marked (replicate BUCKET_LIMIT true) k ≡ any_bucket k
all_marked k low = get_or-replicate BUCKET_LIMIT k true false low

-- marks of where walks to a leaf can end, given that each bucket is marked
pub leaves_marked : (t : TablesView) (w : List ℕ) (x : ℕ) (leaves : List Slot) (k : ℕ) → HasItemsBelow t → k < length t.buckets → k < BUCKET_LIMIT
    → can_reach t 0 (can_be_placed t w x leaves (marked (replicate BUCKET_LIMIT true))) k ≡ can_have_leaf t w x leaves k
leaves_marked t w x leaves k below lt low =
    can_reach_same t 0 _ _ k below (placed_alike t w x leaves (marked (replicate BUCKET_LIMIT true)) any_bucket k (λ j less. all_marked j (omega arith))) lt

-- a bucket's own mark, from the marks of smaller numbers
pub next_mark : (t : TablesView) (wanted : ℕ) (p : ItemId → Bool) (found : List Bool) (b : ℕ) → HasItemsBelow t → b < length t.buckets
    → ((k : ℕ) → k < b → marked found k ≡ can_reach t wanted p k)
    → list_any (λ (e : WeightedItem). can_end_at t wanted p (marked found) e.0 (bucket_numbered t e.0)) (pickable (bucket_at t b)) ≡ can_reach t wanted p b
unfolding can_reach
next_mark t wanted p found b below lt marks =
    any_same _ _ (pickable (bucket_at t b)) no_item (λ i few.
    end_same t wanted p p (marked found) (can_reach_below t wanted p b) (item_at (pickable (bucket_at t b)) i) (bucket_numbered t (item_at (pickable (bucket_at t b)) i)) refl
    (λ k numbered.
    let less : k < b = number_below t b i k below lt few numbered in
    marks k less ∙ reach_same t wanted p p k (suc k) b k below (λ item low. refl) (omega arith) (omega arith) (omega arith) (omega arith)))

-- one more mark
pub more_marked : (t : TablesView) (wanted : ℕ) (p : ItemId → Bool) (found : List Bool) (b : ℕ) (mark : Bool) → b < BUCKET_LIMIT → IsMarked t wanted p b found
    → mark ≡ can_reach t wanted p b → IsMarked t wanted p (b + 1) (slice_set found b mark)
more_marked t wanted p found b mark low is same =
    let fits : b < length found = rw is.long low in
    record {
      long = simp length-set is.long;
      each = λ k lt. let le : k ≤ b = omega arith in elim (eq-or-lt_of_le le) [
        | inl here ↦ rw here (get_or-set_same found b mark false fits ∙ same)
        | inr lower ↦ get_or-set_other found b k mark false (omega arith) ∙ is.each k lower
      ];
    }

-- ---- no walk ends elsewhere

-- what a bucket picks is one of the items that it can pick
abbrev pub PicksItems : Type 0
PicksItems = (b : BucketView) (x r : ℕ) → 0 < length b.items → IsItemOf (pickable b) (pick b x r)

at_device : (p : ItemId → Bool) (wanted : ℕ) (item end : ItemId) (r s : ℕ) → ((wanted == 0) && p item) ≡ false
    → (if 0 == wanted then Found item r else Wrong) ≡ Found end s → p end ≡ false
at_device p zero item end r s none e = let same : item ≡ end = cc in rw (← same) none
at_device p (suc n) item end r s none e =
    let other : (0 == suc n) ≡ false = grind (arith, nat_tests) in let bad : Wrong ≡ Found end s = rw other at e in cc

at_bucket : (p : ItemId → Bool) (is : Bool) (item end : ItemId) (r s : ℕ) (can : Bool) (down : WalkEnd) → (if is then p item else can) ≡ false
    → (if is then Found item r else down) ≡ Found end s → (can ≡ false → down ≡ Found end s → p end ≡ false) → p end ≡ false
at_bucket p true item end r s can down none e rest = let same : item ≡ end = cc in rw (← same) none
at_bucket p false item end r s can down none e rest = rest none e

at_end : (t : TablesView) (wanted : ℕ) (p : ItemId → Bool) (f : ℕ → Bool) (down : ℕ → WalkEnd) (item end : ItemId) (r s : ℕ) (o : Option ℕ)
    → can_end_at t wanted p f item o ≡ false → at_item t wanted down item r o ≡ Found end s → ((k : ℕ) → f k ≡ false → down k ≡ Found end s → p end ≡ false) → p end ≡ false
at_end t wanted p f down item end r s None none e rest = at_device p wanted item end r s none e
at_end t wanted p f down item end r s (Some k) none e rest = at_bucket p (type_at t k == wanted) item end r s (f k) (down k) none e (rest k)

not_empty : (size : ℕ) (a : WalkEnd) (end : ItemId) (s : ℕ) → (if size == 0 then Empty else a) ≡ Found end s → (0 < size) × (a ≡ Found end s)
not_empty zero a end s e = cc
not_empty (suc n) a end s e = let some : (suc n == 0) ≡ false = grind (arith, nat_tests) in (omega arith, rw some at e)

misses : PicksItems → (t : TablesView) (x : ℕ) (rr : ℕ → ℕ) (wanted : ℕ) (p : ItemId → Bool) (n b : ℕ) (end : ItemId) (s : ℕ)
    → can_reach_below t wanted p n b ≡ false → reach_below t x rr wanted n b ≡ Found end s → p end ≡ false
unfolding pick_at
misses picks t x rr wanted p zero b end s none e = cc
misses picks t x rr wanted p (suc n) b end s none e =
    let item = pick_at t b x (rr b) in
    let (some, on) = not_empty (size_at t b) _ end s e in
    let (i, few, is) = picks (bucket_at t b) x (rr b) some in
    let fails = none_passes _ (pickable (bucket_at t b)) no_item i none few in
    at_end t wanted p (can_reach_below t wanted p n) (reach_below t x rr wanted n) item end (rr b) s (bucket_numbered t item) (rw is at fails) on
    (λ k cannot down. misses picks t x rr wanted p n k end s cannot down)

-- a walk from a bucket from which none can end at an item that passes ends at one that doesn't
pub never_found : PicksItems → (t : TablesView) (x : ℕ) (rr : ℕ → ℕ) (wanted : ℕ) (p : ItemId → Bool) (b : ℕ) (end : ItemId) (s : ℕ)
    → can_reach t wanted p b ≡ false → reach t x rr wanted b ≡ Found end s → p end ≡ false
unfolding can_reach reach
never_found picks t x rr wanted p b end s none e = misses picks t x rr wanted p (suc b) b end s none e
