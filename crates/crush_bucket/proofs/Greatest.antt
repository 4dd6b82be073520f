-- The greatest number that passes.
use Rattle.std.proofs.Common.{◌≡◌, ℕ, zero, suc, ◌+◌, ◌<◌, Bool, true, false, Option, Some, None, unwrap_or, ◌≤◌, MatchOption, IfSome, refl, arith, ◌⊎◌, inl, inr}
use Rattle.crush_bucket.specs.Kinds.{greatest}
use Rattle.crush_bucket.specs.Laws.{IsGreatest, NonePasses}

-- where n doesn't pass, what is so below n is so below n + 1
one_more : (p : ℕ → Bool) (n : ℕ) (found : Option ℕ) → p n ≡ false → MatchOption found (NonePasses p n) (IsGreatest p n) → MatchOption found (NonePasses p (suc n)) (IsGreatest p (suc n))
one_more p n None fails none = λ j below.
    (let either : (j ≡ n) ⊎ (j < n) = grind arith in elim either [ inl same ↦ rw same fails | inr lower ↦ none j lower ])
one_more p n (Some i) fails is = record {
  below = omega (arith, is.below);
  passes = is.passes;
  no_later = λ j above below. (let either : (j ≡ n) ⊎ (j < n) = grind arith in elim either [ inl same ↦ rw same fails | inr lower ↦ is.no_later j above lower ]);
}

pub greatest_is : (p : ℕ → Bool) (n : ℕ) → MatchOption (greatest p n) (NonePasses p n) (IsGreatest p n)
greatest_is p zero = λ j below. absurd (omega arith)
greatest_is p (suc n) =
    let by : (b : Bool) → p n ≡ b → MatchOption (greatest p (suc n)) (NonePasses p (suc n)) (IsGreatest p (suc n)) = λ b. elim b as (λ b. p n ≡ b → MatchOption (greatest p (suc n)) (NonePasses p (suc n)) (IsGreatest p (suc n))) [
      | true ↦ λ passes. rw passes (record { below = omega arith; passes = passes; no_later = λ j above below. absurd (omega arith) })
      | false ↦ λ fails. rw fails (one_more p n (greatest p n) fails (greatest_is p n))
    ] in by (p n) refl

-- the last of n places from a place on that passes, as far as they were asked
pub record IsLast (p : ℕ → Bool) (from n : ℕ) (last : Option ℕ) : Type 0 where
  pub same : MatchOption last (greatest p (from + n) ≡ greatest p from) (λ place. greatest p (from + n) ≡ Some place)
  pub within : IfSome last (λ place. place < from + n)

pub last_passes : (p : ℕ → Bool) (from n : ℕ) → p (from + n) ≡ true → IsLast p from (n + 1) (Some (from + n))
last_passes p from n passes =
    let e : from + (n + 1) ≡ suc (from + n) = omega arith in record { same = rw (e, passes) refl; within = omega arith }

pub last_fails : (p : ℕ → Bool) (from n : ℕ) (last : Option ℕ) → p (from + n) ≡ false → IsLast p from n last → IsLast p from (n + 1) last
last_fails p from n None fails is =
    let e : from + (n + 1) ≡ suc (from + n) = omega arith in record { same = rw (e, fails) is.same; within = tt }
last_fails p from n (Some place) fails is =
    let e : from + (n + 1) ≡ suc (from + n) = omega arith in record { same = rw (e, fails) is.same; within = let w = is.within in omega arith }

-- ---- the greatest number that passes, or 0

-- of at most one number it is 0 in either case
pub or_first : (p : ℕ → Bool) (n : ℕ) → n ≤ 1 → 0 ≡ unwrap_or (greatest p n) 0
or_first p zero low = refl
or_first p (suc zero) low =
    let by : (b : Bool) → p 0 ≡ b → 0 ≡ unwrap_or (greatest p 1) 0 = λ b. elim b as (λ b. p 0 ≡ b → 0 ≡ unwrap_or (greatest p 1) 0) [
      | true ↦ λ passes. rw passes refl
      | false ↦ λ fails. rw fails refl
    ] in by (p 0) refl
or_first p (suc (suc n)) low = absurd (omega arith)

pub or_passes : (p : ℕ → Bool) (n : ℕ) → p n ≡ true → n ≡ unwrap_or (greatest p (n + 1)) 0
or_passes p n passes = let e : n + 1 ≡ suc n = omega arith in rw (e, passes) refl

pub or_fails : (p : ℕ → Bool) (n last : ℕ) → p n ≡ false → last ≡ unwrap_or (greatest p n) 0 → last ≡ unwrap_or (greatest p (n + 1)) 0
or_fails p n last fails is = let e : n + 1 ≡ suc n = omega arith in rw (e, fails) is

-- which is below a number that isn't below n
pub or_below : (p : ℕ → Bool) (n m : ℕ) → 0 < m → n ≤ m → unwrap_or (greatest p n) 0 < m
or_below p zero m some low = some
or_below p (suc n) m some low =
    let by : (b : Bool) → p n ≡ b → unwrap_or (greatest p (suc n)) 0 < m = λ b. elim b as (λ b. p n ≡ b → unwrap_or (greatest p (suc n)) 0 < m) [
      | true ↦ λ passes. rw passes (omega (arith, low))
      | false ↦ λ fails. rw fails (or_below p n m some (omega (arith, low)))
    ] in by (p n) refl
