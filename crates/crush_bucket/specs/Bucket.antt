-- A bucket of a CRUSH map, as its pick sees it.
use Rattle.std.specs.Prelude.{◌≡◌, ℕ, ◌<◌, ◌^◌, List, length, take, drop, slice_index_or, SomeIndex, All, pos}
pub use Rattle.crush_map.specs.crush_types.specs.Weights.{total_weight}
pub use Rattle.crush_hash.specs.Permutation.{word}
use Rattle.crush_map.specs.crush_types.specs.declared.ItemId.{ItemId}
use Rattle.crush_map.specs.crush_types.specs.declared.Weight.{Weight}
use Rattle.crush_map.specs.crush_types.specs.declared.Kind.{Kind}

-- an item of a bucket, with its weight
abbrev pub WeightedItem : Type 0
WeightedItem = ItemId × Weight

-- a bucket: its id, the kind by which it picks, and its items with their weights, in order of place
pub record BucketView : Type 0 where
  pub id : ItemId
  pub kind : Kind
  pub items : List WeightedItem

-- what stands where there is no item
abbrev pub no_item : WeightedItem
no_item = (record { 0 = pos 0 }, record { 0 = 0 })

-- the item and its weight at a place
abbrev pub at : List WeightedItem → ℕ → WeightedItem
at items place = slice_index_or items place no_item

-- the item at a place
abbrev pub item_at : List WeightedItem → ℕ → ItemId
item_at items place = (at items place).0

-- the weight at a place; past the end it is 0
abbrev pub weight_at : List WeightedItem → ℕ → ℕ
weight_at items place = (at items place).1.0

-- the sum of the weights at n places from a place on; past the end there are none
abbrev pub weight_within : List WeightedItem → ℕ → ℕ → ℕ
weight_within items from n = total_weight (take n (drop from items))

-- an item of the bucket
abbrev pub IsItemOf : List WeightedItem → ItemId → Type 0
IsItemOf items item = SomeIndex items (λ place. item_at items place ≡ item)

-- what a bucket must be so that it is asked: it has an item, at most 65,535 of them, and the sum of
-- its weights is a word
pub record CanBeAsked (items : List WeightedItem) : Type 0 where
  pub some : 0 < length items
  pub few : length items < 2 ^ 16
  pub light : total_weight items < 2 ^ 32

-- all weights are that of the first place
abbrev pub HasEqualWeights : List WeightedItem → Type 0
HasEqualWeights items = All (λ e. e.1.0 ≡ weight_at items 0) items
