-- The first success in a sequence of tries.
use Rattle.std.proofs.Common.{◌≡◌, ℕ, zero, suc, ◌<◌, ◌≤◌, Option, Some, None, inl, inr, refl, ap, sym, arith, is_some, Bool, true, false, ◌||◌}
use Rattle.std.proofs.Math.Nat.{eq-or-lt_of_le}
use Rattle.std.proofs.Math.Path.{fun_ext}
use Rattle.crush_choose.specs.Least.{or_else, least}
use Rattle.crush_choose.specs.Indep.{some_below}

-- induction from a number on
pub holds_from : (P : ℕ → Type 0) (low n : ℕ) → low ≤ n → P low → ((k : ℕ) → low ≤ k → P k → P (suc k)) → P n
holds_from P low zero le start step = let e : low ≡ 0 = omega arith in rw e at start
holds_from P low (suc n) le start step = elim (eq-or-lt_of_le le) [
  | inl here ↦ rw here at start
  | inr later ↦ step n (omega arith) (holds_from P low n (omega arith) start step)
]

-- ---- the place of the first success

-- the first of the tries below n that has a value has the value a; or none of them has one
abbrev IsFirst : {A : Type 0} → (ℕ → Option A) → ℕ → Option A → Type 0
IsFirst said n None = (j : ℕ) → j < n → said j ≡ None
IsFirst said n (Some a) = (i : ℕ) × (i < n) × (said i ≡ Some a) × ((j : ℕ) → j < i → said j ≡ None)

one_more_try : {A : Type 0} (said : ℕ → Option A) (n : ℕ) (before now : Option A) → IsFirst said n before → said n ≡ now → IsFirst said (suc n) (or_else before now)
one_more_try said n (Some a) now first e = let lt : first.0 < n = first.1 in (first.0, omega arith, first.2, first.3)
one_more_try said n None (Some a) silent e = (n, omega arith, e, silent)
one_more_try said n None None silent e = λ j lt. let le : j ≤ n = omega arith in elim (eq-or-lt_of_le le) [
  | inl last ↦ rw last e
  | inr sooner ↦ silent j sooner
]

least_is_first : {A : Type 0} (said : ℕ → Option A) (n : ℕ) → IsFirst said n (least said n)
least_is_first said zero = λ j lt. absurd (omega arith)
least_is_first said (suc n) = one_more_try said n (least said n) (said n) (least_is_first said n) refl

pub least_some : {A : Type 0} (said : ℕ → Option A) (n : ℕ) (a : A) → least said n ≡ Some a
    → (i : ℕ) × (i < n) × (said i ≡ Some a) × ((j : ℕ) → j < i → said j ≡ None)
least_some said n a e = rw e at (least_is_first said n)

pub least_none : {A : Type 0} (said : ℕ → Option A) (n : ℕ) → least said n ≡ None → (j : ℕ) → j < n → said j ≡ None
least_none said n e = rw e at (least_is_first said n)

-- if no try below n has a value, `least` has none
pub least_silent : {A : Type 0} (said : ℕ → Option A) (n : ℕ) → ((j : ℕ) → j < n → said j ≡ None) → least said n ≡ None
least_silent said zero silent = refl
least_silent said (suc n) silent = rw (least_silent said n (λ j lt. silent j (omega arith)), silent n (omega arith)) refl

-- ---- bounds

-- a value below a bound is that below each greater bound
pub least_stays : {A : Type 0} (said : ℕ → Option A) (n m : ℕ) (a : A) → n ≤ m → least said n ≡ Some a → least said m ≡ Some a
least_stays said n m a le e = holds_from (λ k. least said k ≡ Some a) n m le e (λ k low stays. rw stays refl)

-- a search ends at the first try that has a value
pub least_found : {A : Type 0} (said : ℕ → Option A) (n m : ℕ) (found : Option A) → least said n ≡ None → n < m → found ≡ said n → is_some found ≡ true
    → found ≡ least said m
least_found said n m None silent lt e some = cc
least_found said n m (Some a) silent lt e some =
    let here : least said (suc n) ≡ Some a = rw silent (sym e) in sym (least_stays said (suc n) m a (omega arith) here)

-- sequences of tries that are equal below a bound
pub least_same : {A : Type 0} (said other : ℕ → Option A) (n : ℕ) → ((i : ℕ) → i < n → said i ≡ other i) → least said n ≡ least other n
least_same said other zero same = refl
least_same said other (suc n) same = rw (least_same said other n (λ i lt. same i (omega arith)), same n (omega arith)) refl

-- ---- tests

passes_next : (before now : Bool) → now ≡ true → (before || now) ≡ true
passes_next true now e = refl
passes_next false now e = e

-- a number below a bound for which p holds is below each greater bound
pub some_below_found : (passes : ℕ → Bool) (n m : ℕ) → n < m → passes n ≡ true → some_below passes m ≡ true
some_below_found passes n m lt e =
    holds_from (λ k. some_below passes k ≡ true) (suc n) m lt (passes_next (some_below passes n) (passes n) e) (λ k low found. rw found refl)

pub some_below_same : (passes other : ℕ → Bool) (n : ℕ) → ((i : ℕ) → passes i ≡ other i) → some_below passes n ≡ some_below other n
some_below_same passes other n same = ap (λ (p : ℕ → Bool). some_below p n) (fun_ext same)
