-- What a bucket picks is one of the items that it can pick, and these are items of it.
use Rattle.std.proofs.Common.{◌≡◌, ◌≢◌, ℕ, zero, suc, ◌+◌, ◌-◌, ◌<◌, cond, Bool, true, false, List, [], ◌∷◌, length, drop, take, slice_index_or, refl, ap, sym, arith}
use Rattle.std.specs.List.{All, filter, list_any}
use Rattle.std.proofs.lemmas.Bool.Decides.{nat_tests}
use Rattle.std.proofs.lemmas.List.{get_or-drop, get_or_default, length-drop}
use Rattle.std.proofs.lemmas.List.Elements.{All-filter}
use Rattle.std.proofs.lemmas.List.Folds.{list_any_at}
use Rattle.crush_map.specs.crush_types.specs.declared.ItemId.{ItemId}
use Rattle.crush_map.specs.crush_types.specs.declared.Kind.{Kind}
use Rattle.crush_map.specs.crush_types.specs.declared.Kind.TheVariants.{Uniform, List as ListKind, Tree, Straw2}
use Rattle.crush_bucket.specs.Bucket.{BucketView, WeightedItem, no_item, item_at, weight_at, IsItemOf}
use Rattle.crush_bucket.specs.Kinds.{list_pick, tree_pick, straw2_pick}
use Rattle.crush_bucket.specs.Pick.{pick, pick_as}
use Rattle.crush_bucket.specs.Pickable.{weighs, pickable_as, pickable, IsWeighed}
use Rattle.crush_bucket.proofs.Picking.{HasPlaces, pick_item}
use Rattle.crush_bucket.proofs.Weighed.{inside, list_weighed, list_first, tree_weighed, tree_last, straw2_weighed, straw2_first}

kept : (items : List WeightedItem) (place : ℕ) → place < length items → 0 < weight_at items place → IsItemOf (filter weighs items) (item_at items place)
kept [] place lt some = absurd (omega arith)
kept (e ∷ items) zero lt some =
    let this : weighs e ≡ true = grind (arith, nat_tests) in rw this (0, omega arith, refl)
kept (e ∷ items) (suc place) lt some =
    let (i, few, is) = kept items place (omega arith) some in
    elim (weighs e) as (λ b. IsItemOf (cond b (e ∷ filter weighs items) (filter weighs items)) (item_at items place)) [
      | true ↦ (suc i, omega arith, is)
      | false ↦ (i, few, is)
    ]

weighed_kept : (items : List WeightedItem) (item : ItemId) → IsWeighed items item → IsItemOf (filter weighs items) item
weighed_kept items item (place, lt, (is, some)) = rw is at (kept items place lt some)

first_kept : (items : List WeightedItem) → 0 < length items → IsItemOf (take 1 items) (item_at items 0)
first_kept [] some = absurd (omega arith)
first_kept (e ∷ items) some = (0, omega arith, refl)

last_kept : (items : List WeightedItem) → 0 < length items → IsItemOf (drop (length items - 1) items) (item_at items (length items - 1))
last_kept items some =
    let n = length items - 1 in
    let here : n + 0 ≡ n = omega arith in
    let is : slice_index_or (drop n items) 0 no_item ≡ slice_index_or items n no_item = rw here at (get_or-drop n items 0 no_item) in
    (0, omega (arith, length-drop n items), ap (λ (e : WeightedItem). e.0) is)

list_pickable : (any : Bool) (id : ItemId) (items : List WeightedItem) (x r : ℕ) → 0 < length items → list_any weighs items ≡ any
    → IsItemOf (cond any (filter weighs items) (take 1 items)) (list_pick id items x r)
list_pickable true id items x r some e = weighed_kept items _ (list_weighed id items x r e)
list_pickable false id items x r some e = rw (list_first id items x r e) (first_kept items some)

tree_pickable : (any : Bool) (id : ItemId) (items : List WeightedItem) (x r : ℕ) → 0 < length items → list_any weighs items ≡ any
    → IsItemOf (cond any (filter weighs items) (drop (length items - 1) items)) (tree_pick id items x r)
tree_pickable true id items x r some e = weighed_kept items _ (tree_weighed id items x r e)
tree_pickable false id items x r some e = rw (tree_last id items x r e) (last_kept items some)

straw2_pickable : (any : Bool) (items : List WeightedItem) (x r : ℕ) → 0 < length items → list_any weighs items ≡ any
    → IsItemOf (cond any (filter weighs items) (take 1 items)) (straw2_pick items x r)
straw2_pickable true items x r some e = weighed_kept items _ (straw2_weighed items x r e)
straw2_pickable false items x r some e = rw (straw2_first items x r some e) (first_kept items some)

as_pickable : HasPlaces → (kind : Kind) (b : BucketView) (x r : ℕ) → 0 < length b.items → IsItemOf (pickable_as kind b.items) (pick_as kind b x r)
unfolding pick
as_pickable places Uniform b x r some = pick_item places (record b { kind = Uniform }) x r some
as_pickable places ListKind b x r some = list_pickable (list_any weighs b.items) b.id b.items x r some refl
as_pickable places Tree b x r some = tree_pickable (list_any weighs b.items) b.id b.items x r some refl
as_pickable places Straw2 b x r some = straw2_pickable (list_any weighs b.items) b.items x r some refl

pub pick_pickable : HasPlaces → (b : BucketView) (x r : ℕ) → 0 < length b.items → IsItemOf (pickable b) (pick b x r)
unfolding pick
pick_pickable places b x r some = as_pickable places b.kind b x r some

some_weighs : (items : List WeightedItem) (place : ℕ) → 0 < weight_at items place → list_any weighs items ≡ true
some_weighs items place some =
    let lt = inside items place some in
    let this : weighs (slice_index_or items place no_item) ≡ true = grind (arith, nat_tests) in
    list_any_at weighs items place no_item lt this

as_weighed : (kind : Kind) (b : BucketView) (x r : ℕ) → kind ≢ Uniform → list_any weighs b.items ≡ true → IsWeighed b.items (pick_as kind b x r)
as_weighed Uniform b x r other any = absurd (other refl)
as_weighed ListKind b x r other any = list_weighed b.id b.items x r any
as_weighed Tree b x r other any = tree_weighed b.id b.items x r any
as_weighed Straw2 b x r other any = straw2_weighed b.items x r any

pub pick_weighed : (b : BucketView) (x r place : ℕ) → b.kind ≢ Uniform → 0 < weight_at b.items place → IsWeighed b.items (pick b x r)
unfolding pick
pick_weighed b x r place other some = as_weighed b.kind b x r other (some_weighs b.items place some)

-- ---- an item that can be picked is one of the bucket's

own_items : (items : List WeightedItem) → All (λ e. IsItemOf items e.0) items
own_items items = λ place d lt. (place, lt, ap (λ (e : WeightedItem). e.0) (get_or_default items place no_item d lt))

filtered_item : (items : List WeightedItem) (place : ℕ) → place < length (filter weighs items) → IsItemOf items (item_at (filter weighs items) place)
filtered_item items place few = All-filter weighs (λ e. IsItemOf items e.0) items (own_items items) place no_item few

first_item : (items : List WeightedItem) (place : ℕ) → place < length (take 1 items) → IsItemOf items (item_at (take 1 items) place)
first_item [] place few = absurd (omega arith)
first_item (e ∷ items) zero few = (0, omega arith, refl)
first_item (e ∷ items) (suc place) few = absurd (omega arith)

rest_item : (items : List WeightedItem) (n place : ℕ) → place < length (drop n items) → IsItemOf items (item_at (drop n items) place)
rest_item items n place few =
    (n + place, omega (arith, few, length-drop n items), ap (λ (e : WeightedItem). e.0) (sym (get_or-drop n items place no_item)))

any_item : (any : Bool) (items others : List WeightedItem) (place : ℕ) → ((i : ℕ) → i < length others → IsItemOf items (item_at others i))
    → place < length (cond any (filter weighs items) others) → IsItemOf items (item_at (cond any (filter weighs items) others) place)
any_item true items others place of few = filtered_item items place few
any_item false items others place of few = of place few

of_kind : (kind : Kind) (items : List WeightedItem) (place : ℕ) → place < length (pickable_as kind items) → IsItemOf items (item_at (pickable_as kind items) place)
of_kind Uniform items place few = (place, few, refl)
of_kind ListKind items place few = any_item (list_any weighs items) items (take 1 items) place (first_item items) few
of_kind Tree items place few = any_item (list_any weighs items) items (drop (length items - 1) items) place (rest_item items (length items - 1)) few
of_kind Straw2 items place few = any_item (list_any weighs items) items (take 1 items) place (first_item items) few

pub pickable_item : (b : BucketView) (place : ℕ) → place < length (pickable b) → IsItemOf b.items (item_at (pickable b) place)
pickable_item b place few = of_kind b.kind b.items place few
