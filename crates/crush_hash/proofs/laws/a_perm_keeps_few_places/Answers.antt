use Rattle.std.proofs.Common.{◌≡◌, ◌≢◌, ◌⊎◌, inl, inr, ℕ, ◌+◌, ◌-◌, ◌==◌, Bool, true, false, if◌then◌else◌, length, min, max, refl, ap, arith}
use Rattle.crush_hash.specs.Permutation.{Remembered}
use Rattle.crush_hash.proofs.Differing.{is_other, differing_range}
use Rattle.crush_hash.proofs.Exchanging.{few_after}
use Rattle.crush_hash.proofs.laws.a_perm_keeps_few_places.Goals as goal

pub returns-clause-none : goal.returns-clause-none
returns-clause-none u of x = ap length (differing_range 0 of.size)

either_zero : (b : Bool) (n : ℕ) → n ≡ 0 → (if b then n else 0) ≡ 0
either_zero true n none = none
either_zero false n none = refl

-- no exchange counts that was made before
none_before : (m : Remembered) (x : ℕ) → (m.x ≢ x) ⊎ (m.swaps ≡ 0) → (if m.x == x then m.swaps else 0) ≡ 0
none_before m x (inl other) = rw (is_other m.x x other) refl
none_before m x (inr none) = either_zero (m.x == x) m.swaps none

pub returns-clause-few : goal.returns-clause-few
returns-clause-few u m x place first within =
    let few = few_after m.of.id m.of.size x (max 0 (min (place + 1) (m.of.size - 1))) (omega arith) in
    rw (none_before m x first) (omega (arith, few))
