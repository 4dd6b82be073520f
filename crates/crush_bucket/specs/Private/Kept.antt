-- What list and tree buckets store beside their items.
use Rattle.std.specs.Prelude.{◌≡◌, ℕ, zero, suc, ◌+◌, ◌*◌, ◌<◌, ◌≤◌, ◌^◌, List, [], ◌∷◌, ◌++◌, length, slice_index}
use Rattle.crush_map.specs.crush_types.specs.declared.ItemId.{ItemId}
use Rattle.crush_bucket.specs.Bucket.{WeightedItem, weight_within}
use Rattle.crush_bucket.specs.Kinds.{height_of, label, place_within}

-- at each place, the sum of the weights up to it
pub record AreSums (items : List WeightedItem) (sums : List ℕ) : Type 0 where
  pub size : length sums ≡ length items
  pub each : (place : ℕ) → place < length items → slice_index sums place ≡ weight_within items 0 (place + 1)

-- the weights of the nodes of a range of 2^h places, in order of label
abbrev pub node_weights : List WeightedItem → ℕ → ℕ → List ℕ
node_weights items from zero = weight_within items from 1 ∷ []
node_weights items from (suc h) = node_weights items from h ++ weight_within items from (2 ^ suc h) ∷ node_weights items (from + 2 ^ h) h

-- each node of the range of 2^h places from a place on has its weight at its label
abbrev pub HasNodes : List WeightedItem → List ℕ → ℕ → ℕ → Type 0
HasNodes items nodes from zero = slice_index nodes (label from 0) ≡ weight_within items from 1
HasNodes items nodes from (suc h) = (slice_index nodes (label from (suc h)) ≡ weight_within items from (2 ^ suc h)) × HasNodes items nodes from h × HasNodes items nodes (from + 2 ^ h) h

-- the node weights of a tree over the places
pub record AreNodes (items : List WeightedItem) (height : ℕ) (nodes : List ℕ) : Type 0 where
  pub least : height ≡ height_of (length items)
  pub low : height < 17
  pub size : length nodes ≡ 2 ^ suc height
  pub weights : HasNodes items nodes 0 height

-- a walk that has come to the node of a range of 2^h places
pub record AtNode (id : ItemId) (items : List WeightedItem) (x r height h node : ℕ) : Type 0 where
  pub from : ℕ
  pub labelled : node ≡ 2 * from + 2 ^ h
  pub within : from + 2 ^ h ≤ 2 ^ height
  pub weighed : (nodes : List ℕ) → HasNodes items nodes 0 height → HasNodes items nodes from h
  pub rest : place_within id items x r 0 height ≡ place_within id items x r from h
