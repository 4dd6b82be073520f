-- When the items of a straw2 bucket arrive.
use Rattle.std.proofs.Common.{◌≡◌, ℕ, ◌*◌, ◌/◌, ◌%◌, ◌<◌, ◌≤◌, ◌==◌, false, refl, ap, arith, ◌⊎◌, inl, inr}
use Rattle.std.proofs.lemmas.Bool.Decides.{nat_tests}
use Rattle.std.proofs.lemmas.Nat.{le-div}
use Rattle.std.proofs.Math.Nat.{div-le_self, mul-le-mul_left, div-mul-le_self}
use Rattle.crush_hash.specs.Hash.{hash3}
use Rattle.crush_ln.specs.Log.{delay}
use Rattle.crush_ln.proofs.Rising.{delay_small}
use Rattle.crush_map.specs.crush_types.specs.declared.ItemId.{ItemId}
use Rattle.crush_bucket.specs.Bucket.{WeightedItem, word}
use Rattle.crush_bucket.specs.Kinds.{never, time_of, arrival}

pub time_none : (draw weight : ℕ) → weight ≡ 0 → time_of draw weight ≡ never
unfolding time_of
time_none draw weight e = rw e refl

pub time_some : (draw weight : ℕ) → 0 < weight → time_of draw weight ≡ delay draw / weight
unfolding time_of
time_some draw weight some = let t : (weight == 0) ≡ false = grind (arith, nat_tests) in rw t refl

pub time_small : (draw weight : ℕ) → time_of draw weight ≤ never
time_small draw weight =
    let split : (weight ≡ 0) ⊎ (0 < weight) = grind arith in
    elim split [
      | inl none ↦ omega (arith, time_none draw weight none)
      | inr some ↦ omega (arith, time_some draw weight some, div-le_self (delay draw) weight, delay_small draw)
    ]

-- an item that draws no sooner and weighs no more arrives no sooner
pub time_le : (draw weight other less : ℕ) → delay draw ≤ delay other → less ≤ weight → time_of draw weight ≤ time_of other less
time_le draw weight other less later lighter =
    let split : (less ≡ 0) ⊎ (0 < less) = grind arith in
    elim split [
      | inl none ↦ omega (arith, time_none other less none, time_small draw weight)
      | inr some ↦ (
          let time = delay draw / weight in
          let fewer : time * less ≤ time * weight = mul-le-mul_left time lighter in
          let most : time * weight ≤ delay draw = div-mul-le_self (delay draw) weight in
          let le : time ≤ delay other / less = le-div time (delay other) less some (omega (arith, fewer, most)) in
          omega (arith, time_some draw weight (omega arith), time_some other less some, le))
    ]

-- the same item, no heavier, arrives no sooner
pub lighter_later : (x r : ℕ) (item other : WeightedItem) → other.0 ≡ item.0 → other.1.0 ≤ item.1.0 → arrival x r item ≤ arrival x r other
lighter_later x r item other same lighter =
    let draw = hash3 x (word item.0) r % 65536 in
    let e : arrival x r other ≡ time_of draw other.1.0 = ap (λ (id : ItemId). time_of (hash3 x (word id) r % 65536) other.1.0) same in
    let le = time_le draw item.1.0 draw other.1.0 (omega arith) lighter in
    omega (arith, e, le)

-- one that weighs something arrives, one that doesn't never does
pub arrives : (x r : ℕ) (item : WeightedItem) → 0 < item.1.0 → arrival x r item < never
arrives x r item some =
    let draw = hash3 x (word item.0) r % 65536 in
    omega (arith, time_some draw item.1.0 some, div-le_self (delay draw) item.1.0, delay_small draw)

pub never_arrives : (x r : ℕ) (item : WeightedItem) → item.1.0 ≡ 0 → arrival x r item ≡ never
never_arrives x r item none = time_none (hash3 x (word item.0) r % 65536) item.1.0 none
