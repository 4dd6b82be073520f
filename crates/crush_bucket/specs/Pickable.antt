-- The items that a bucket can pick, whatever the input.
use Rattle.std.specs.Prelude.{◌≡◌, ◌<◌, ◌-◌, ◌&&◌, nat_lt, not, Bool, if◌then◌else◌, List, SomeIndex, length, take, drop}
use Rattle.std.specs.List.{filter, list_any}
use Rattle.crush_map.specs.crush_types.specs.declared.ItemId.{ItemId}
use Rattle.crush_map.specs.crush_types.specs.declared.Kind.{Kind}
use Rattle.crush_map.specs.crush_types.specs.declared.Kind.TheVariants.{Uniform, List as ListKind, Tree, Straw2}
use Rattle.crush_map.specs.crush_types.specs.Kinds.{is_uniform}
use Rattle.crush_bucket.specs.Bucket.{WeightedItem, BucketView, item_at, weight_at}

-- whether an item weighs something
abbrev pub weighs : WeightedItem → Bool
weighs item = nat_lt 0 item.1.0

-- the items that a bucket of this kind can pick where it doesn't go by weights, or none weighs
-- anything: a uniform bucket all; a list or a straw2 bucket its first item, and a tree its last
abbrev pub without_weights : Kind → List WeightedItem → List WeightedItem
without_weights Uniform items = items
without_weights ListKind items = take 1 items
without_weights Tree items = drop (length items - 1) items
without_weights Straw2 items = take 1 items

-- whether a bucket of this kind picks items of weight above 0 alone
abbrev pub picks_by_weight : Kind → List WeightedItem → Bool
picks_by_weight kind items = not (is_uniform kind) && list_any weighs items

-- the items that a bucket of this kind can pick
abbrev pub pickable_as : Kind → List WeightedItem → List WeightedItem
pickable_as kind items = if picks_by_weight kind items then filter weighs items else without_weights kind items

abbrev pub pickable : BucketView → List WeightedItem
pickable b = pickable_as b.kind b.items

-- the item stands at a place whose weight is above 0
abbrev pub IsWeighed : List WeightedItem → ItemId → Type 0
IsWeighed items item = SomeIndex items (λ place. (item_at items place ≡ item) × (0 < weight_at items place))
