-- The item of a straw2 bucket that arrives first, of those that were offered.
use Rattle.std.specs.Prelude.{◌≡◌, ℕ, ◌<◌, ◌≤◌, ◌/◌, ◌^◌, ◌==◌, if◌then◌else◌, List, ◌⊎◌}
use Rattle.crush_bucket.specs.Bucket.{WeightedItem, at}
use Rattle.crush_bucket.specs.Kinds.{never, time_of, arrival}
use Rattle.crush_bucket.specs.declared.soonest.SoonestItem.{SoonestItem}

-- a delay over a weight, or never
unfoldable pub quotient : ℕ → ℕ → ℕ
quotient delay weight = if weight == 0 then never else delay / weight

-- when the best item arrives
abbrev pub time : SoonestItem → ℕ
time s = quotient s.delay s.weight

-- no item with a draw and a weight up to those of the best arrives before it
pub record HasLimits (s : SoonestItem) : Type 0 where
  pub limits : (draw weight : ℕ) → draw < 2 ^ 16 → draw ≤ s.draw → weight ≤ s.weight → time s ≤ time_of draw weight
  pub low : s.delay ≤ 2 ^ 48

-- what an offer of an item that stands at a place and arrives at a time makes of the best item
pub record IsOffered (old : SoonestItem) (place arrives : ℕ) (new : SoonestItem) : Type 0 where
  pub has_limits : HasLimits new
  pub either : ((time old ≤ arrives) × (new.place ≡ old.place) × (time new ≡ time old)) ⊎ ((arrives < time old) × (new.place ≡ place) × (time new ≡ arrives))

-- s is the best of the first n items: none of them arrives sooner, and those before it arrive
-- later; of none it is the first place, at a time later than any
pub record IsBest (items : List WeightedItem) (x r n : ℕ) (s : SoonestItem) : Type 0 where
  pub has_limits : HasLimits s
  pub soonest : (j : ℕ) → j < n → time s ≤ arrival x r (at items j)
  pub before : (j : ℕ) → j < s.place → time s < arrival x r (at items j)
  pub is : ((s.place < n) × (time s ≡ arrival x r (at items s.place))) ⊎ ((s.place ≡ 0) × (time s ≡ never))
