-- The kind of a bucket's draw, and what it stores beside the bucket's items.
use Rattle.std.specs.Prelude.{⊤, List}
use Rattle.crush_map.specs.crush_types.specs.declared.Kind.{Kind}
use Rattle.crush_map.specs.crush_types.specs.declared.Kind.TheVariants as kinds
use Rattle.crush_bucket.specs.declared.any.Draw.{Draw}
use Rattle.crush_bucket.specs.declared.any.Draw.TheVariants.{Uniform, List as ListDraw, Tree, Straw2}
use Rattle.crush_bucket.specs.Bucket.{WeightedItem, HasEqualWeights}
use Rattle.crush_bucket.specs.Private.Kept.{AreSums, AreNodes}

abbrev pub kind_of : Draw → Kind
kind_of Uniform = kinds.Uniform
kind_of (ListDraw sums) = kinds.List
kind_of (Tree tree) = kinds.Tree
kind_of Straw2 = kinds.Straw2

-- what is stored is that of these items
abbrev pub IsDrawOf : List WeightedItem → Draw → Type 0
IsDrawOf items Uniform = HasEqualWeights items
IsDrawOf items (ListDraw sums) = AreSums items sums.items
IsDrawOf items (Tree tree) = AreNodes items tree.height tree.nodes.items
IsDrawOf items Straw2 = ⊤
