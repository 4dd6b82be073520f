-- A walk is one pick followed by the walk from the picked item.
use Rattle.std.proofs.Common.{◌≡◌, ℕ, zero, suc, ◌<◌, length, Bool, true, false, Option, Some, None, MatchOption, refl, ap, arith, if◌then◌else◌, ◌==◌}
use Rattle.crush_map.specs.crush_types.specs.declared.ItemId.{ItemId}
use Rattle.crush_bucket.specs.Tables.{TablesView, pick_at, type_at, size_at, bucket_numbered, IsDevice}
use Rattle.crush_choose.specs.declared.walk.WalkEnd.{WalkEnd}
use Rattle.crush_choose.specs.declared.walk.WalkEnd.TheVariants.{Empty, Found}
use Rattle.crush_choose.specs.Reach.{at_item, reach_below, reach}
use Rattle.crush_bucket.specs.Laws.{PicksBelow}
use Rattle.crush_choose.specs.Laws.{reach_after_pick}

some_size : (n : ℕ) → (n == 0) ≡ false → 0 < n
some_size zero h = cc
some_size (suc n) h = omega arith

at_item-same : (t : TablesView) (wanted : ℕ) (f g : ℕ → WalkEnd) (item : ItemId) (r b : ℕ) (o : Option ℕ) → MatchOption o (IsDevice t item) (λ k. k < b)
    → ((k : ℕ) → k < b → f k ≡ g k) → at_item t wanted f item r o ≡ at_item t wanted g item r o
at_item-same t wanted f g item r b None h same = refl
at_item-same t wanted f g item r b (Some k) h same =
    ap (λ (o : WalkEnd). if type_at t k == wanted then Found item r else o) (same k h)

by_empty : (e : Bool) (a c d : WalkEnd) → (e ≡ false → c ≡ d) → (if e then a else c) ≡ (if e then a else d)
by_empty true a c d h = refl
by_empty false a c d h = h refl

reach-limits : (t : TablesView) (x : ℕ) (rr : ℕ → ℕ) (wanted n m b : ℕ) → PicksBelow t → b < length t.buckets → b < n → b < m
    → reach_below t x rr wanted n b ≡ reach_below t x rr wanted m b
reach-limits t x rr wanted zero m b below lt h k = absurd (omega arith)
reach-limits t x rr wanted (suc n) zero b below lt h k = absurd (omega arith)
reach-limits t x rr wanted (suc n) (suc m) b below lt h k =
    by_empty (size_at t b == 0) Empty _ _ (λ some.
    at_item-same t wanted (reach_below t x rr wanted n) (reach_below t x rr wanted m) (pick_at t b x (rr b)) (rr b) b (bucket_numbered t (pick_at t b x (rr b))) (below b x (rr b) lt (some_size (size_at t b) some))
    (λ j less. reach-limits t x rr wanted n m j below (omega arith) (omega arith) (omega arith)))

pub reach-step : (t : TablesView) (x : ℕ) (rr : ℕ → ℕ) (wanted b : ℕ) → PicksBelow t → b < length t.buckets
    → reach t x rr wanted b ≡ reach_after_pick t x rr wanted b
unfolding reach
reach-step t x rr wanted b below lt =
    by_empty (size_at t b == 0) Empty _ _ (λ some.
    at_item-same t wanted (reach_below t x rr wanted b) (λ k. reach_below t x rr wanted (suc k) k) (pick_at t b x (rr b)) (rr b) b (bucket_numbered t (pick_at t b x (rr b))) (below b x (rr b) lt (some_size (size_at t b) some))
    (λ j less. reach-limits t x rr wanted b (suc j) j below (omega arith) less (omega arith)))

-- more picks than the bucket's number change nothing
pub reach-enough : (t : TablesView) (x : ℕ) (rr : ℕ → ℕ) (wanted b n : ℕ) → PicksBelow t → b < length t.buckets → b < n
    → reach_below t x rr wanted n b ≡ reach t x rr wanted b
unfolding reach
reach-enough t x rr wanted b n below lt enough = reach-limits t x rr wanted n (suc b) b below lt enough (omega arith)
