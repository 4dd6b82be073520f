-- The tree of a map: each bucket with the trees of its items inside it.
--
-- In a map an item names its bucket by an id. Here it has the bucket, so a bucket that is an item
-- of two others stands twice.
use Rattle.std.specs.Prelude.{◌≡◌, ℕ, pos, true, List, [], ◌∷◌, Some, Contains}
use Rattle.crush_map.specs.crush_types.specs.declared.ItemId.{ItemId}
use Rattle.crush_map.specs.crush_types.specs.declared.Weight.{Weight}
use Rattle.crush_map.specs.crush_types.specs.declared.Kind.{Kind}
use Rattle.crush_map.specs.Map.{Map}
use Rattle.crush_map.specs.Sound.{has_device}
use Rattle.crush_bucket.specs.Bucket.{WeightedItem}
use Rattle.crush_bucket.specs.Tables.{tables_of, bucket_numbered}

mutual
  -- a device with its id; or a bucket with its id, the number of its type, its kind and its items
  pub data Tree : Type 0 where
    device : ℕ → Tree
    bucket : ItemId → ℕ → Kind → Branches → Tree

  -- items in order of place, each with its weight and its tree
  pub data Branches : Type 0 where
    no_branches : Branches
    branch : Weight → Tree → Branches → Branches

abbrev pub id_of : Tree → ItemId
id_of (device id) = record { 0 = pos id }
id_of (bucket id of_type kind below) = id

-- type 0 is that of devices
abbrev pub type_of : Tree → ℕ
type_of (device id) = 0
type_of (bucket id of_type kind below) = of_type

-- the items with their weights alone
abbrev pub items_of : Branches → List WeightedItem
items_of no_branches = []
items_of (branch weight tree others) = (id_of tree, weight) ∷ items_of others

-- ---- the trees of a map

abbrev mutual
  -- a tree of the map: a device of the map; or a bucket as the map has it, each of whose items has
  -- a tree of the map
  pub IsTreeOf : Map → Tree → Type 0
  IsTreeOf m (device id) = has_device m.devices id ≡ true
  IsTreeOf m (bucket id of_type kind below) =
      (name : List ℕ)
      × Contains m.buckets (record { id = id; name = name; kind_of = of_type; alg = kind; items = items_of below })
      × AreTreesOf m below

  pub AreTreesOf : Map → Branches → Type 0
  AreTreesOf m no_branches = Unit {0}
  AreTreesOf m (branch weight tree others) = IsTreeOf m tree × AreTreesOf m others

-- the tree of the bucket with this number
pub record IsTreeAt (m : Map) (number : ℕ) (tree : Tree) : Type 0 where
  pub of_map : IsTreeOf m tree
  pub numbered : bucket_numbered (tables_of m) (id_of tree) ≡ Some number
