-- Walks down trees, side by side.
use Rattle.std.specs.Prelude.{◌≡◌, ℕ, suc, ◌+◌, ◌<◌, ◌≤◌, ◌^◌, List, length, min}
use Rattle.crush_hash.specs.Hash.{hash4}
use Rattle.crush_map.specs.crush_types.specs.declared.ItemId.{ItemId}
use Rattle.crush_map.specs.crush_types.specs.declared.Kind.TheVariants.{Tree}
use Rattle.crush_bucket.specs.Bucket.{BucketView, word}
use Rattle.crush_bucket.specs.Eight.{IsPickedBy}
use Rattle.crush_bucket.specs.Kinds.{height_of}
use Rattle.crush_bucket.specs.Private.Kept.{AtNode, HasNodes}

-- the height of a bucket's tree
abbrev pub tree_height : BucketView → ℕ
tree_height b = height_of (length b.items)

-- how many levels are below a walk's node where the walks have `left` levels below theirs: the
-- walk down a tree that has fewer waits at its root
abbrev pub levels : BucketView → ℕ → ℕ
levels b left = min (tree_height b) left

-- the node has a place in the list of nodes, and so have the halves of its range
pub record IsNode (b : BucketView) (left node : ℕ) : Type 0 where
  pub low : 2 ^ levels b left ≤ node
  pub high : node + 2 ^ levels b left ≤ 2 ^ suc (tree_height b)

-- the walk down the bucket's tree for x and r has come to the node
abbrev pub IsOnWay : BucketView → ℕ → ℕ → ℕ → ℕ → Type 0
IsOnWay b x r left node = AtNode b.id b.items x r (tree_height b) (levels b left) node

-- by the node's hash each walk that has come to `node` goes on to `to`
abbrev pub GoesOn : BucketView → ℕ → ℕ → ℕ → ℕ → Type 0
GoesOn b left node hash to =
    (x r : ℕ) → IsOnWay b x r (left + 1) node → hash ≡ hash4 x node r (word b.id) → IsOnWay b x r left to

-- each walk that ends at the leaf picks the item
abbrev pub IsPickAt : BucketView → ℕ → ItemId → Type 0
IsPickAt b leaf item = (x r : ℕ) → IsOnWay b x r 0 leaf → IsPickedBy b x r item

-- what walks need of a tree bucket that has an item, and of what its tree has
pub record Keeps (b : BucketView) (height : ℕ) (nodes : List ℕ) : Type 0 where
  pub tree : b.kind ≡ Tree
  pub some : 0 < length b.items
  pub height_is : height ≡ tree_height b
  pub low : tree_height b < 17
  pub size : length nodes ≡ 2 ^ suc (tree_height b)
  pub weights : HasNodes b.items nodes 0 (tree_height b)
