-- A list bucket with one more item at its end.
use Rattle.std.specs.Prelude.{◌≡◌, [], ◌∷◌, ◌++◌}
use Rattle.crush_map.specs.crush_types.specs.declared.Kind.TheVariants.{List}
use Rattle.crush_bucket.specs.Bucket.{WeightedItem, BucketView}

abbrev pub IsList : BucketView → Type 0
IsList b = b.kind ≡ List

-- the bucket with this item behind its last
abbrev pub with_last : BucketView → WeightedItem → BucketView
with_last b last = record b { items = b.items ++ last ∷ [] }
