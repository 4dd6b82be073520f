-- Each item of a map has one tree.
use Rattle.std.proofs.Common.{◌≡◌, ℕ, ℤ, pos, negsuc, zero, suc, ◌<◌, List, [], ◌∷◌, length, take, slice_index_or, true, Some, None, Contains, refl, ap, sym, ◌∙◌, arith, ◌⊎◌, inl, inr}
use Rattle.std.specs.List.{slice_get}
use Rattle.std.proofs.lemmas.List.{get_or-take, get_or_default, length-take-le, take_all}
use Rattle.std.proofs.lemmas.List.Elements.{Contains-get_or}
use Rattle.std.proofs.lemmas.List.Folds.{Any-from_list_any}
use Rattle.std.proofs.lemmas.Bool.Decides.{Decides-eqb}
use Rattle.std.proofs.lemmas.Option.{slice_get-get_or}
use Rattle.crush_map.specs.crush_types.specs.declared.ItemId.{ItemId}
use Rattle.crush_map.specs.crush_types.specs.declared.Kind.{Kind}
use Rattle.crush_map.specs.crush_types.specs.declared.Weight.{Weight}
use Rattle.crush_map.specs.declared.draft.Bucket.{Bucket}
use Rattle.crush_map.specs.Map.{Map}
use Rattle.crush_map.specs.Sound as sound
use Rattle.crush_bucket.specs.Bucket.{WeightedItem, item_at, no_item}
use Rattle.crush_bucket.specs.Tables.{tables_of, bucket_numbered}
use Rattle.crush_bucket.proofs.Numbered.{none_of_device}
use Rattle.crush_bucket.proofs.Validity.{sound_at, is_laid, no_declaration}
use Rattle.crush_laws.specs.MapTree.{Tree, device, bucket, Branches, no_branches, branch, id_of, items_of, IsTreeOf, AreTreesOf, IsTreeAt}
use Rattle.crush_laws.proofs.Standing.{HasLaws, stands_at, same_item, bucket_ids, id_at}

-- ---- there is one

-- an item has a tree
abbrev pub HasTree : Map → ItemId → Type 0
HasTree m item = (tree : Tree) × IsTreeOf m tree × (id_of tree ≡ item)

-- so do the buckets of the map that come before a place
abbrev HaveTrees : Map → ℕ → Type 0
HaveTrees m n = (i : ℕ) (d : Bucket) → i < n → i < length m.buckets → HasTree m (slice_index_or m.buckets i d).id

ids_are_same : (x y : ℤ) → sound.same_id x y ≡ true → x ≡ y
ids_are_same (pos a) (pos b) h = ap (λ (n : ℕ). pos n) ((Decides-eqb a b).0 h)
ids_are_same (pos a) (negsuc b) h = cc
ids_are_same (negsuc a) (pos b) h = cc
ids_are_same (negsuc a) (negsuc b) h = ap (λ (n : ℕ). negsuc n) ((Decides-eqb a b).0 h)

same_ids : (id : ItemId) (a b : Bucket) (item : ItemId) → id ≡ a.id → a ≡ b → b.id.0 ≡ item.0 → id ≡ item
same_ids id a b item e same f = e ∙ (ap (λ (b : Bucket). b.id) same ∙ same_item b.id item f)

-- the tree of a bucket among the first n
among_first : (m : Map) (n : ℕ) → n < suc (length m.buckets) → HaveTrees m n → (item : ItemId) → sound.has_bucket (take n m.buckets) item.0 ≡ true → HasTree m item
among_first m n within trees item has =
    let (j, b, few, is, same) = Any-from_list_any (λ (b : Bucket). sound.same_id b.id.0 item.0) (take n m.buckets) has in
    let low : j < n = omega (arith, length-take-le n m.buckets (omega arith)) in
    let at : slice_index_or m.buckets j b ≡ b = sym (get_or-take n m.buckets j b low) ∙ is in
    let (tree, its, its_id) = trees j b low (omega (arith, length-take-le n m.buckets (omega arith))) in
    (tree, its, same_ids (id_of tree) (slice_index_or m.buckets j b) b item its_id at (ids_are_same b.id.0 item.0 same))

-- the tree of an item: a device, or a bucket among the first n
of_item : (m : Map) (n : ℕ) → n < suc (length m.buckets) → HaveTrees m n → (item : ItemId) (id : ℤ) → item.0 ≡ id → sound.has_item m.devices (take n m.buckets) id ≡ true → HasTree m item
of_item m n within trees item (pos id) e has = (device id, has, same_item (record { 0 = pos id }) item (sym e))
of_item m n within trees item (negsuc id) e has = among_first m n within trees item (rw (← e) at has)

-- the trees of items
abbrev HasBranches : Map → List WeightedItem → Type 0
HasBranches m items = (below : Branches) × AreTreesOf m below × (items_of below ≡ items)

of_items : (m : Map) (items : List WeightedItem) → ((place : ℕ) → place < length items → HasTree m (item_at items place)) → HasBranches m items
of_items m [] each = (no_branches, tt, refl)
of_items m ((item, weight) ∷ items) each =
    let (tree, its, id) = each 0 (omega arith) in
    let (others, are, same) = of_items m items (λ place few. each (suc place) (omega arith)) in
    (branch weight tree others, (its, are), let e : id_of tree ≡ item = id in let f : items_of others ≡ items = same in cc)

-- the tree of a bucket whose items have trees
of_bucket : (m : Map) (b : Bucket) → Contains m.buckets b → HasBranches m b.items → HasTree m b.id
of_bucket m b there (below, are, same) =
    let e : b ≡ record { id = b.id; name = b.name; kind_of = b.kind_of; alg = b.alg; items = items_of below } = sym (ap (λ (items : List WeightedItem). record b { items = items }) same) in
    (bucket b.id b.kind_of b.alg below, (b.name, rw e at there, are), refl)

declared_at : (m : Map) (n : ℕ) (b : Bucket) → sound.IsBucketAt m n b → (place : ℕ) → place < length b.items → sound.has_item m.devices (take n m.buckets) (item_at b.items place).0 ≡ true
declared_at m n b is place few =
    let at : sound.IsItemAt m n place b.items (item_at b.items place).0 = rw (slice_get-get_or b.items place no_item few) at (is.items place) in
    at.declared

at_place : (m : Map) → HasLaws m → (n : ℕ) (d : Bucket) → n < length m.buckets → HaveTrees m n → HasTree m (slice_index_or m.buckets n d).id
at_place m laws n d within trees =
    let b = slice_index_or m.buckets n d in
    let is = sound_at m laws.sound n d within in
    of_bucket m b (Contains-get_or m.buckets n d within)
    (of_items m b.items (λ place few. of_item m n (omega arith) trees (item_at b.items place) (item_at b.items place).0 refl (declared_at m n b is place few)))

have_trees : (m : Map) → HasLaws m → (n : ℕ) → HaveTrees m n
have_trees m laws zero = λ i d low within. absurd (omega arith)
have_trees m laws (suc n) =
    let before = have_trees m laws n in
    λ i d low within.
    (let either : (i < n) ⊎ (i ≡ n) = grind arith in
    elim either [
      | inl less ↦ before i d less within
      | inr same ↦ at_place m laws i d within (λ j e few short. before j e (omega (arith, same)) short)
    ])

all_taken : (m : Map) → take (length m.buckets) m.buckets ≡ m.buckets
all_taken m = take_all (length m.buckets) m.buckets (omega arith)

pub has_tree : (m : Map) → HasLaws m → (item : ItemId) → sound.has_item m.devices m.buckets item.0 ≡ true → HasTree m item
has_tree m laws item has =
    of_item m (length m.buckets) (omega arith) (have_trees m laws (length m.buckets)) item item.0 refl
    (rw (← all_taken m) at has)

-- a bucket's number is the place at which it is declared
pub has_tree_at : (m : Map) → HasLaws m → (n : ℕ) → n < length m.buckets → (tree : Tree) × IsTreeAt m n tree
has_tree_at m laws n within =
    let d = no_declaration in
    let b = slice_index_or m.buckets n d in
    let (tree, is, id) = at_place m laws n d within (have_trees m laws n) in
    let at = stands_at m laws.once b (n, within, get_or_default m.buckets n b d within) in
    (tree, record { of_map = is; numbered = ap (λ (i : ItemId). bucket_numbered (tables_of m) i) id ∙ at.numbered })

-- ---- there is no other

one_declared : (m : Map) → HasLaws m → (a b : Bucket) → Contains m.buckets a → Contains m.buckets b → a.id ≡ b.id → a ≡ b
one_declared m laws a b (i, few, is) (j, short, it) same =
    let first : slice_get (bucket_ids m) i ≡ Some a.id = id_at m i a few (ap (λ (b : Bucket). b.id) is) in
    let second : slice_get (bucket_ids m) j ≡ Some a.id = rw same (id_at m j b short (ap (λ (b : Bucket). b.id) it)) in
    let places : i ≡ j = laws.once a.id i j first second in
    sym is ∙ (ap (λ (n : ℕ). slice_index_or m.buckets n a) places ∙ (get_or_default m.buckets j a b short ∙ it))

no_device_is : (m : Map) → HasLaws m → (b : Bucket) → Contains m.buckets b → (id : ℕ) → record { 0 = pos id } ≡ b.id → ⊥
no_device_is m laws b there id same =
    let at = stands_at m laws.once b there in
    let none = none_of_device (tables_of m) b.id id (is_laid m laws.sound).negative (sym (ap (λ (i : ItemId). i.0) same)) in
    let e : Some there.0 ≡ None = sym at.numbered ∙ none in
    cc

same_buckets : (id jd : ItemId) (of_type other_type : ℕ) (kind other_kind : Kind) (below beside : Branches) → id ≡ jd → of_type ≡ other_type → kind ≡ other_kind → below ≡ beside
    → bucket id of_type kind below ≡ bucket jd other_type other_kind beside
same_buckets id jd of_type other_type kind other_kind below beside e f g h = cc

same_branches : (weight heavy : Weight) (tree root : Tree) (others rest : Branches) → weight ≡ heavy → tree ≡ root → others ≡ rest → branch weight tree others ≡ branch heavy root rest
same_branches weight heavy tree root others rest e f g = cc

first_item : (a b : WeightedItem) (xs ys : List WeightedItem) → a ∷ xs ≡ b ∷ ys → a ≡ b
first_item a b xs ys e = cc

other_items : (a b : WeightedItem) (xs ys : List WeightedItem) → a ∷ xs ≡ b ∷ ys → xs ≡ ys
other_items a b xs ys e = cc

mutual
  one_tree : (m : Map) → HasLaws m → (a : Tree) → IsTreeOf m a → (b : Tree) → IsTreeOf m b → id_of a ≡ id_of b → a ≡ b
  one_tree m laws (device i) is (device j) it same = let e : pos i ≡ pos j = ap (λ (id : ItemId). id.0) same in let f : i ≡ j = cc in ap (λ (n : ℕ). device n) f
  one_tree m laws (device i) is (bucket id of_type kind below) it same =
      absurd (no_device_is m laws (record { id = id; name = it.0; kind_of = of_type; alg = kind; items = items_of below }) it.1 i same)
  one_tree m laws (bucket id of_type kind below) is (device j) it same =
      absurd (no_device_is m laws (record { id = id; name = is.0; kind_of = of_type; alg = kind; items = items_of below }) is.1 j (sym same))
  one_tree m laws (bucket id of_type kind below) is (bucket jd other_type other_kind beside) it same =
      let e : record { id = id; name = is.0; kind_of = of_type; alg = kind; items = items_of below } ≡ record { id = jd; name = it.0; kind_of = other_type; alg = other_kind; items = items_of beside } =
      one_declared m laws (record { id = id; name = is.0; kind_of = of_type; alg = kind; items = items_of below }) (record { id = jd; name = it.0; kind_of = other_type; alg = other_kind; items = items_of beside }) is.1 it.1 same in
      same_buckets id jd of_type other_type kind other_kind below beside same (ap (λ (b : Bucket). b.kind_of) e) (ap (λ (b : Bucket). b.alg) e)
      (one_below m laws below is.2 beside it.2 (ap (λ (b : Bucket). b.items) e))

  one_below : (m : Map) → HasLaws m → (a : Branches) → AreTreesOf m a → (b : Branches) → AreTreesOf m b → items_of a ≡ items_of b → a ≡ b
  one_below m laws no_branches is no_branches it same = refl
  one_below m laws no_branches is (branch weight tree others) it same = absurd (cc)
  one_below m laws (branch weight tree others) is no_branches it same = absurd (cc)
  one_below m laws (branch weight tree others) is (branch heavy root rest) it same =
      let first = first_item (id_of tree, weight) (id_of root, heavy) (items_of others) (items_of rest) same in
      same_branches weight heavy tree root others rest (ap (λ (item : WeightedItem). item.1) first)
      (one_tree m laws tree is.0 root it.0 (ap (λ (item : WeightedItem). item.0) first))
      (one_below m laws others is.1 rest it.1 (other_items (id_of tree, weight) (id_of root, heavy) (items_of others) (items_of rest) same))

pub one_tree_of_an_item : (m : Map) → HasLaws m → (a b : Tree) → IsTreeOf m a → IsTreeOf m b → id_of a ≡ id_of b → a ≡ b
one_tree_of_an_item m laws a b is it same = one_tree m laws a is b it same
