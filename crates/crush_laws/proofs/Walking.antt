-- A walk by the numbers of buckets ends where the walk down the tree ends.
use Rattle.std.proofs.Common.{◌≡◌, ℕ, pos, zero, suc, ◌<◌, ◌==◌, List, ◌∷◌, length, Bool, true, false, Some, None, Contains, if◌then◌else◌, refl, ap, sym, ◌∙◌, arith}
use Rattle.std.specs.Ordering.{int_eq}
use Rattle.std.proofs.lemmas.Bool.Decides.{Decides-int_eq, nat_tests}
use Rattle.crush_map.specs.crush_types.specs.declared.ItemId.{ItemId}
use Rattle.crush_map.specs.crush_types.specs.declared.Weight.{Weight}
use Rattle.crush_map.specs.crush_types.specs.declared.Kind.{Kind}
use Rattle.crush_map.specs.declared.draft.Bucket.{Bucket}
use Rattle.crush_map.specs.Map.{Map}
use Rattle.crush_bucket.specs.Bucket.{WeightedItem, BucketView, IsItemOf}
use Rattle.crush_bucket.specs.Pick.{pick}
use Rattle.crush_bucket.specs.Tables.{tables_of, bucket_at, pick_at, bucket_numbered}
use Rattle.crush_bucket.proofs.Numbered.{none_of_device, same_id}
use Rattle.crush_bucket.proofs.Validity.{is_laid}
use Rattle.crush_choose.specs.declared.walk.WalkEnd.{WalkEnd}
use Rattle.crush_choose.specs.declared.walk.WalkEnd.TheVariants.{Empty, Wrong, Found}
use Rattle.crush_choose.specs.Reach.{at_item, reach}
use Rattle.crush_choose.specs.Laws.{reach_after_pick}
use Rattle.crush_laws.specs.MapTree.{Tree, device, bucket, Branches, no_branches, branch, id_of, type_of, items_of, IsTreeOf, AreTreesOf}
use Rattle.crush_laws.specs.Walk.{walk, walk_into}
use Rattle.crush_laws.proofs.Standing.{HasLaws, stands_at, same_item}

-- the attempt at a bucket, by its number
abbrev pub at_number : Map → (BucketView → ℕ) → ℕ → ℕ
at_number m rr k = rr (bucket_at (tables_of m) k)

-- a walk by numbers
abbrev pub by_number : Map → ℕ → (BucketView → ℕ) → ℕ → ℕ → WalkEnd
by_number m x rr wanted k = reach (tables_of m) x (at_number m rr) wanted k

-- it is one pick, followed by the walk from what was picked
abbrev pub Steps : Map → ℕ → (BucketView → ℕ) → ℕ → Type 0
Steps m x rr wanted = (k : ℕ) → k < length m.buckets → by_number m x rr wanted k ≡ reach_after_pick (tables_of m) x (at_number m rr) wanted k

abbrev pub PicksItems : Type 0
PicksItems = (b : BucketView) (x r : ℕ) → 0 < length b.items → IsItemOf b.items (pick b x r)

-- what follows once an item was picked
abbrev after : Map → ℕ → (BucketView → ℕ) → ℕ → ItemId → ℕ → WalkEnd
after m x rr wanted item r = at_item (tables_of m) wanted (by_number m x rr wanted) item r (bucket_numbered (tables_of m) item)

abbrev Ends : Map → ℕ → (BucketView → ℕ) → ℕ → Tree → Type 0
Ends m x rr wanted tree = (k : ℕ) → bucket_numbered (tables_of m) (id_of tree) ≡ Some k → by_number m x rr wanted k ≡ walk x rr wanted tree

abbrev EndsBelow : Map → ℕ → (BucketView → ℕ) → ℕ → Branches → Type 0
EndsBelow m x rr wanted below = (item : ItemId) (r : ℕ) → IsItemOf (items_of below) item → after m x rr wanted item r ≡ walk_into x rr wanted item r below

either : (b : Bool) (end a c : WalkEnd) → (b ≡ true → end ≡ a) → (b ≡ false → end ≡ c) → end ≡ (if b then a else c)
either true end a c is isnt = is refl
either false end a c is isnt = isnt refl

same_else : (b : Bool) (first a c : WalkEnd) → (b ≡ false → a ≡ c) → (if b then first else a) ≡ (if b then first else c)
same_else true first a c h = refl
same_else false first a c h = h refl

-- ---- a bucket

one_pick : (m : Map) (x : ℕ) (rr : BucketView → ℕ) (wanted k : ℕ) (v : BucketView) → bucket_at (tables_of m) k ≡ v
    → reach_after_pick (tables_of m) x (at_number m rr) wanted k ≡ (if length v.items == 0 then Empty else after m x rr wanted (pick v x (rr v)) (rr v))
unfolding pick_at
one_pick m x rr wanted k v e = ap (λ (b : BucketView). if length b.items == 0 then Empty else after m x rr wanted (pick b x (rr b)) (rr b)) e

some_items : (n : ℕ) → (n == 0) ≡ false → 0 < n
some_items n h = grind (arith, nat_tests)

from_bucket : (m : Map) → HasLaws m → (x : ℕ) (rr : BucketView → ℕ) (wanted : ℕ) → Steps m x rr wanted → PicksItems
    → (id : ItemId) (of_type : ℕ) (kind : Kind) (below : Branches) → IsTreeOf m (bucket id of_type kind below) → EndsBelow m x rr wanted below
    → Ends m x rr wanted (bucket id of_type kind below)
unfolding walk
from_bucket m laws x rr wanted steps picks id of_type kind below (name, there, trees) ends k numbered =
    let b : Bucket = record { id = id; name = name; kind_of = of_type; alg = kind; items = items_of below } in
    let v : BucketView = record { id = id; kind = kind; items = items_of below } in
    let at = stands_at m laws.once b there in
    let same : k ≡ there.0 = (let e : Some k ≡ Some there.0 = sym numbered ∙ at.numbered in cc) in
    let view : bucket_at (tables_of m) k ≡ v = ap (λ (n : ℕ). bucket_at (tables_of m) n) same ∙ at.view in
    steps k (omega (arith, same, at.within)) ∙ (one_pick m x rr wanted k v view
    ∙ same_else (length v.items == 0) Empty _ _ (λ some. ends (pick v x (rr v)) (rr v) (picks v x (rr v) (some_items (length v.items) some))))

-- ---- an item

at_device : (m : Map) → HasLaws m → (x : ℕ) (rr : BucketView → ℕ) (wanted : ℕ) (id : ℕ) (item : ItemId) (r : ℕ) → record { 0 = pos id } ≡ item
    → after m x rr wanted item r ≡ (if 0 == wanted then Found item r else Wrong)
at_device m laws x rr wanted id item r same =
    rw (none_of_device (tables_of m) item id (is_laid m laws.sound).negative (sym (ap (λ (i : ItemId). i.0) same))) refl

at_bucket : (m : Map) → HasLaws m → (x : ℕ) (rr : BucketView → ℕ) (wanted : ℕ) (b : Bucket) → Contains m.buckets b → (item : ItemId) (r : ℕ) → b.id ≡ item
    → (end : WalkEnd) → ((k : ℕ) → bucket_numbered (tables_of m) b.id ≡ Some k → by_number m x rr wanted k ≡ end)
    → after m x rr wanted item r ≡ (if b.kind_of == wanted then Found item r else end)
at_bucket m laws x rr wanted b there item r same end ends =
    let at = stands_at m laws.once b there in
    let number : bucket_numbered (tables_of m) item ≡ Some there.0 = ap (λ (i : ItemId). bucket_numbered (tables_of m) i) (sym same) ∙ at.numbered in
    rw number (rw at.typed (rw (ends there.0 at.numbered) refl))

at_root : (m : Map) → HasLaws m → (x : ℕ) (rr : BucketView → ℕ) (wanted : ℕ) (tree : Tree) → IsTreeOf m tree → Ends m x rr wanted tree → (item : ItemId) (r : ℕ) → id_of tree ≡ item
    → after m x rr wanted item r ≡ (if type_of tree == wanted then Found item r else walk x rr wanted tree)
unfolding walk
at_root m laws x rr wanted (device id) is ends item r same = at_device m laws x rr wanted id item r same
at_root m laws x rr wanted (bucket id of_type kind below) (name, there, trees) ends item r same =
    at_bucket m laws x rr wanted (record { id = id; name = name; kind_of = of_type; alg = kind; items = items_of below }) there item r same (walk x rr wanted (bucket id of_type kind below)) ends

other_item : (first : WeightedItem) (items : List WeightedItem) (item : ItemId) → IsItemOf (first ∷ items) item → int_eq first.0.0 item.0 ≡ false → IsItemOf items item
other_item first items item (zero, few, is) differs =
    let e : int_eq first.0.0 item.0 ≡ true = same_id first.0.0 item.0 (ap (λ (i : ItemId). i.0) is) in cc
other_item first items item (suc place, few, is) differs = (place, omega arith, is)

-- the item is that of the first branch, or of a later one
at_branch : (m : Map) → HasLaws m → (x : ℕ) (rr : BucketView → ℕ) (wanted : ℕ) (weight : Weight) (tree : Tree) (others : Branches) → IsTreeOf m tree → Ends m x rr wanted tree → EndsBelow m x rr wanted others
    → EndsBelow m x rr wanted (branch weight tree others)
unfolding walk
at_branch m laws x rr wanted weight tree others is ends below item r there =
    either (int_eq (id_of tree).0 item.0) (after m x rr wanted item r) _ _
    (λ same. at_root m laws x rr wanted tree is ends item r (same_item (id_of tree) item ((Decides-int_eq (id_of tree).0 item.0).0 same)))
    (λ differs. below item r (other_item (id_of tree, weight) (items_of others) item there differs))

-- ---- a tree

mutual
  ends_at : (m : Map) → HasLaws m → (x : ℕ) (rr : BucketView → ℕ) (wanted : ℕ) → Steps m x rr wanted → PicksItems → (tree : Tree) → IsTreeOf m tree → Ends m x rr wanted tree
  ends_at m laws x rr wanted steps picks (device id) is =
      λ k numbered. absurd (let none = none_of_device (tables_of m) (record { 0 = pos id }) id (is_laid m laws.sound).negative refl in let e : None ≡ Some k = sym none ∙ numbered in cc)
  ends_at m laws x rr wanted steps picks (bucket id of_type kind below) is =
      from_bucket m laws x rr wanted steps picks id of_type kind below is (ends_below m laws x rr wanted steps picks below is.2)

  ends_below : (m : Map) → HasLaws m → (x : ℕ) (rr : BucketView → ℕ) (wanted : ℕ) → Steps m x rr wanted → PicksItems → (below : Branches) → AreTreesOf m below → EndsBelow m x rr wanted below
  ends_below m laws x rr wanted steps picks no_branches are = λ item r is. absurd (omega (arith, is.1))
  ends_below m laws x rr wanted steps picks (branch weight tree others) are =
      λ item r is. at_branch m laws x rr wanted weight tree others are.0 (ends_at m laws x rr wanted steps picks tree are.0) (ends_below m laws x rr wanted steps picks others are.1) item r is

pub walk_by_number : (m : Map) → HasLaws m → (x : ℕ) (rr : BucketView → ℕ) (wanted : ℕ) → Steps m x rr wanted → PicksItems → (tree : Tree) → IsTreeOf m tree → Ends m x rr wanted tree
walk_by_number = ends_at
