-- The loop of a walk, one bucket at a time.
use Rattle.std.proofs.Common.{◌≡◌, ℕ, zero, suc, ◌+◌, ◌*◌, ◌<◌, ◌≤◌, Bool, true, false, Some, None, refl, ◌∙◌, arith, if◌then◌else◌, ◌==◌, eq-eqb}
use Rattle.std.proofs.lemmas.Bool.Decides.{nat_tests}
use Rattle.crush_map.specs.crush_types.specs.declared.ItemId.{ItemId}
use Rattle.crush_bucket.specs.Tables.{TablesView, pick_at, type_at, size_at, bucket_numbered, IsBelow}
use Rattle.crush_choose.specs.declared.walk.WalkEnd.TheVariants.{Wrong, Found}
use Rattle.crush_choose.specs.Reach.{at_item, reach_below, reach}

-- a walk from one bucket ends where the walk from a later one ends, whose number is below n
pub record GoesOn (t : TablesView) (x : ℕ) (rr : ℕ → ℕ) (wanted from bucket : ℕ) : Type 0 where
  pub n : ℕ
  pub below : bucket < n
  pub same : reach t x rr wanted from ≡ reach_below t x rr wanted n bucket

pub walk-start : (t : TablesView) (x : ℕ) (rr : ℕ → ℕ) (wanted from : ℕ) → GoesOn t x rr wanted from from
unfolding reach
walk-start t x rr wanted from = record { n = suc from; below = omega arith; same = refl }

-- the rest of a walk after a pick
pub record Picks (t : TablesView) (x : ℕ) (rr : ℕ → ℕ) (wanted from bucket : ℕ) (item : ItemId) (r : ℕ) : Type 0 where
  pub n : ℕ
  pub below : bucket ≤ n
  pub same : reach t x rr wanted from ≡ at_item t wanted (reach_below t x rr wanted n) item r (bucket_numbered t item)

picks_from : (t : TablesView) (x : ℕ) (rr : ℕ → ℕ) (wanted from bucket n : ℕ) (item : ItemId) (r : ℕ) → bucket < n
    → reach t x rr wanted from ≡ reach_below t x rr wanted n bucket → (size_at t bucket == 0) ≡ false → r ≡ rr bucket → item ≡ pick_at t bucket x r
    → Picks t x rr wanted from bucket item r
picks_from t x rr wanted from bucket zero item r lt same e attempt pick = absurd (omega arith)
picks_from t x rr wanted from bucket (suc n) item r lt same e attempt pick = record {
  n = n;
  below = omega arith;
  same = same ∙ rw e (rw (pick, attempt) refl);
}

pub walk-picks : (t : TablesView) (x : ℕ) (rr : ℕ → ℕ) (wanted from bucket : ℕ) (item : ItemId) (r : ℕ) → GoesOn t x rr wanted from bucket
    → (size_at t bucket == 0) ≡ false → r ≡ rr bucket → item ≡ pick_at t bucket x r → Picks t x rr wanted from bucket item r
walk-picks t x rr wanted from bucket item r on e attempt pick = picks_from t x rr wanted from bucket on.n item r on.below on.same e attempt pick

pub to_device : (t : TablesView) (x : ℕ) (rr : ℕ → ℕ) (wanted from bucket : ℕ) (item : ItemId) (r : ℕ) → Picks t x rr wanted from bucket item r
    → bucket_numbered t item ≡ None → wanted ≡ 0 → reach t x rr wanted from ≡ Found item r
to_device t x rr wanted from bucket item r picks device e = picks.same ∙ rw (device, e) refl

pub not_zero : (n : ℕ) → (n ≡ 0 → ⊥) → (0 == n) ≡ false
not_zero zero ne = absurd (ne refl)
not_zero (suc n) ne = grind (arith, nat_tests)

pub to_other : (t : TablesView) (x : ℕ) (rr : ℕ → ℕ) (wanted from bucket : ℕ) (item : ItemId) (r : ℕ) → Picks t x rr wanted from bucket item r
    → bucket_numbered t item ≡ None → (wanted ≡ 0 → ⊥) → reach t x rr wanted from ≡ Wrong
to_other t x rr wanted from bucket item r picks device ne = picks.same ∙ rw (device, not_zero wanted ne) refl

pub to_bucket : (t : TablesView) (x : ℕ) (rr : ℕ → ℕ) (wanted from bucket : ℕ) (item : ItemId) (r k : ℕ) → Picks t x rr wanted from bucket item r
    → bucket_numbered t item ≡ Some k → type_at t k ≡ wanted → reach t x rr wanted from ≡ Found item r
to_bucket t x rr wanted from bucket item r k picks numbered e = picks.same ∙ rw numbered (rw (eq-eqb (type_at t k) wanted e) refl)

pub through : (t : TablesView) (x : ℕ) (rr : ℕ → ℕ) (wanted from bucket : ℕ) (item : ItemId) (r k : ℕ) → Picks t x rr wanted from bucket item r
    → bucket_numbered t item ≡ Some k → (type_at t k ≡ wanted → ⊥) → k < bucket → GoesOn t x rr wanted from k
through t x rr wanted from bucket item r k picks numbered ne lt =
    let e : (type_at t k == wanted) ≡ false = grind (arith, nat_tests, ne) in
    let least : bucket ≤ picks.n = picks.below in
    record { n = picks.n; below = omega arith; same = picks.same ∙ rw numbered (rw e refl) }

-- a picked bucket has a smaller number
pub below_of : (t : TablesView) (bucket : ℕ) (item : ItemId) (k : ℕ) → bucket_numbered t item ≡ Some k → IsBelow t bucket item → k < bucket
below_of t bucket item k numbered below = rw numbered at below

-- nothing is added in round 0
pub steady : (e : Bool) (r : ℕ) → r + (if e then (1 + 1) * 0 else 1 * 0) ≡ r
steady true r = omega arith
steady false r = omega arith
