-- The numbers of a list, each once and ascending.
use Rattle.std.proofs.Common.{◌≡◌, ◌∙◌, ℕ, zero, suc, ◌+◌, ◌<◌, ◌==◌, ◌||◌, List, [], ◌∷◌, Bool, true, false, nat_lt, slice_index, if◌then◌else◌, refl, sym, ap, subst, arith}
use Rattle.std.specs.List.Sorted.{IsStrictlyIncreasing}
use Rattle.std.proofs.lemmas.Bool.Decides.{nat_tests}
use Rattle.crush_map.specs.declared.draft.Step.{Step}
use Rattle.crush_map.specs.Faults.{has_number}
use Rattle.crush_bucket.specs.Tables.{TablesView}
use Rattle.crush_choose.specs.Rules.{IsTrace, after_rule}
use Rattle.crush_choose.specs.Trace.{with_number, ascending, rule_trace}
use Rattle.crush_choose.proofs.Staying.{eq_of}

-- below the first of a list
abbrev Before : ℕ → List ℕ → Type 0
Before n [] = Unit {0}
Before n (m ∷ ms) = n < m

abbrev Rises : List ℕ → Type 0
Rises [] = Unit {0}
Rises (n ∷ ns) = Before n ns × Rises ns

increasing : (xs : List ℕ) → Rises xs → IsStrictlyIncreasing xs
increasing [] r k l = absurd (omega arith)
increasing (x ∷ []) r k l = absurd (omega arith)
increasing (x ∷ y ∷ ys) r zero l = r.0
increasing (x ∷ y ∷ ys) r (suc k) l =
    let next : suc k + 1 ≡ suc (k + 1) = omega arith in
    subst (λ n. slice_index (y ∷ ys) k < slice_index (x ∷ y ∷ ys) n) (sym next) (increasing (y ∷ ys) r.1 k (omega arith))

-- ---- with one more number

before_with : (k n : ℕ) (ms : List ℕ) → k < n → Before k ms → Before k (with_number n ms)
before_with k n [] lt b = lt
before_with k n (m ∷ ms) lt b = at (nat_lt n m) (n == m)
  where
    at : (less same : Bool) → Before k (if less then n ∷ m ∷ ms else (if same then m ∷ ms else m ∷ with_number n ms))
    at true same = lt
    at false true = b
    at false false = b

rises_with : (n : ℕ) (ms : List ℕ) → Rises ms → Rises (with_number n ms)
rises_with n [] r = (tt, tt)
rises_with n (m ∷ ms) r = at (rises_with n ms r.1) (nat_lt n m) (n == m) refl refl
  where
    at : Rises (with_number n ms) → (less same : Bool) → nat_lt n m ≡ less → (n == m) ≡ same → Rises (if less then n ∷ m ∷ ms else (if same then m ∷ ms else m ∷ with_number n ms))
    at later true same is_less is_same = (grind (arith, nat_tests), r)
    at later false true is_less is_same = r
    at later false false is_less is_same = (before_with m n ms (grind (arith, nat_tests)) r.0, later)

swap_or : (a b c : Bool) → (a || (b || c)) ≡ (b || (a || c))
swap_or true true c = refl
swap_or true false c = refl
swap_or false true c = refl
swap_or false false c = refl

once_or : (a c : Bool) → (a || c) ≡ (a || (a || c))
once_or true c = refl
once_or false c = refl

has_with : (n : ℕ) (ms : List ℕ) (d : ℕ) → has_number (with_number n ms) d ≡ ((n == d) || has_number ms d)
has_with n [] d = refl
has_with n (m ∷ ms) d = at (has_with n ms d) (nat_lt n m) (n == m) refl
  where
    at : has_number (with_number n ms) d ≡ ((n == d) || has_number ms d) → (less same : Bool) → (n == m) ≡ same → has_number (if less then n ∷ m ∷ ms else (if same then m ∷ ms else m ∷ with_number n ms)) d ≡ ((n == d) || ((m == d) || has_number ms d))
    at later true same is_same = refl
    at later false true is_same =
        let e : n ≡ m = eq_of n m is_same in
        rw e (once_or (m == d) (has_number ms d))
    at later false false is_same = ap (λ b. (m == d) || b) later ∙ swap_or (m == d) (n == d) (has_number ms d)

-- ---- all numbers

rises_ascending : (ns : List ℕ) → Rises (ascending ns)
rises_ascending [] = tt
rises_ascending (n ∷ ns) = rises_with n (ascending ns) (rises_ascending ns)

has_ascending : (ns : List ℕ) (d : ℕ) → has_number (ascending ns) d ≡ has_number ns d
has_ascending [] d = refl
has_ascending (n ∷ ns) d = has_with n (ascending ns) d ∙ ap (λ b. (n == d) || b) (has_ascending ns d)

pub is_trace : (t : TablesView) (w : List ℕ) (steps : List Step) (x size : ℕ) → IsTrace t w steps x size (rule_trace t w steps x size)
is_trace t w steps x size =
    let made : List ℕ = (after_rule t w steps x size).made in record { rising = increasing (ascending made) (rises_ascending made); each = has_ascending made }
