-- The pick of a bucket.
use Rattle.std.specs.Prelude.{ℕ, ◌%◌, length}
use Rattle.crush_map.specs.crush_types.specs.declared.ItemId.{ItemId}
use Rattle.crush_map.specs.crush_types.specs.declared.Kind.{Kind}
use Rattle.crush_map.specs.crush_types.specs.declared.Kind.TheVariants.{Uniform, List, Tree, Straw2}
use Rattle.crush_bucket.specs.Bucket.{BucketView}
use Rattle.crush_hash.specs.Permutation.{PermView, Remembered, asked}
use Rattle.crush_bucket.specs.Kinds.{uniform_pick, list_pick, tree_pick, straw2_pick}

-- what a bucket would pick if it were of this kind
abbrev pub pick_as : Kind → BucketView → ℕ → ℕ → ItemId
pick_as Uniform b = uniform_pick b.id b.items
pick_as List b = list_pick b.id b.items
pick_as Tree b = tree_pick b.id b.items
pick_as Straw2 b = straw2_pick b.items

-- what a nonempty bucket picks for an input x and an attempt r
unfoldable pub pick : BucketView → ℕ → ℕ → ItemId
pick b x r = pick_as b.kind b x r

-- the permutation by which a bucket picks, if it is uniform
abbrev pub perm_of : BucketView → PermView
perm_of b = record { id = b.id; size = length b.items }

-- what a scratch remembers after a pick of a bucket of this kind: only uniform buckets ask it
-- anything
abbrev pub after_pick_as : Kind → BucketView → Remembered → ℕ → ℕ → Remembered
after_pick_as Uniform b m x r = asked m x (r % length b.items)
after_pick_as List b m x r = m
after_pick_as Tree b m x r = m
after_pick_as Straw2 b m x r = m

-- what it remembers after a bucket's pick for an input x and an attempt r
abbrev pub after_pick : BucketView → Remembered → ℕ → ℕ → Remembered
after_pick b m x r = after_pick_as b.kind b m x r
