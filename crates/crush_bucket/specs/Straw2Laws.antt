-- What the laws of straw2 buckets say of the definitions.
use Rattle.std.specs.Prelude.{◌≡◌, ◌≢◌, ℕ, ◌<◌, ◌≤◌, List, length, SomeIndex}
use Rattle.crush_map.specs.crush_types.specs.declared.Kind.TheVariants.{Straw2}
use Rattle.crush_bucket.specs.Bucket.{WeightedItem, BucketView, at, item_at, weight_at}
use Rattle.crush_bucket.specs.Kinds.{arrival}

-- a straw2 bucket
abbrev pub IsStraw2 : BucketView → Type 0
IsStraw2 b = b.kind ≡ Straw2

-- the item at a place arrives no later than any, and sooner than each before it
pub record IsFirst (items : List WeightedItem) (x r place : ℕ) : Type 0 where
  pub within : place < length items
  pub soonest : (j : ℕ) → j < length items → arrival x r (at items place) ≤ arrival x r (at items j)
  pub before : (j : ℕ) → j < place → arrival x r (at items place) < arrival x r (at items j)

-- the same items in the same order, whatever they weigh
pub record HasSameItems (items others : List WeightedItem) : Type 0 where
  pub size : length others ≡ length items
  pub same : (j : ℕ) → item_at others j ≡ item_at items j

-- of the same items, the one at a place weighs no less than before, and no other weighs more
pub record IsLowered (items others : List WeightedItem) (place : ℕ) : Type 0 where
  pub same_items : HasSameItems items others
  pub kept : weight_at items place ≤ weight_at others place
  pub lower : (j : ℕ) → j ≢ place → weight_at others j ≤ weight_at items j

-- the same items, of which all but that at a place weigh what they weighed
pub record DiffersAt (items others : List WeightedItem) (place : ℕ) : Type 0 where
  pub same_items : HasSameItems items others
  pub rest : (j : ℕ) → j ≢ place → weight_at others j ≡ weight_at items j

-- each of the others is one of the items
abbrev pub AllAreAmong : List WeightedItem → List WeightedItem → Type 0
AllAreAmong items others = (j : ℕ) → j < length others → SomeIndex items (λ i. at items i ≡ at others j)
