-- The least height of a tree.
use Rattle.std.proofs.Common.{◌≡◌, ℕ, zero, suc, ◌+◌, ◌-◌, ◌*◌, ◌<◌, ◌≤◌, ◌^◌, Bool, true, false, nat_le, refl, ap, ◌∙◌, arith, ◌⊎◌, inl, inr}
use Rattle.std.proofs.lemmas.Bool.{leb-true}
use Rattle.std.proofs.lemmas.Bool.Decides.{nat_tests}
use Rattle.std.proofs.Math.Nat.{pow-succ'}
use Rattle.std.proofs.Math.Pow.{pow_mono}
use Rattle.crush_bucket.specs.Kinds.{least_from, height_of}

pub pow_more : (k : ℕ) → 2 ^ (k + 1) ≡ 2 * 2 ^ k
pow_more k = let e : k + 1 ≡ suc k = omega arith in rw e (pow-succ' 2 k)

pub below_pow : (k : ℕ) → k < 2 ^ k
below_pow zero = omega arith
below_pow (suc k) = omega (arith, below_pow k, pow-succ' 2 k)

from_here : (p : ℕ → Bool) (k n : ℕ) → p k ≡ true → least_from p k n ≡ k
from_here p k zero h = refl
from_here p k (suc n) h = rw h refl

from_next : (p : ℕ → Bool) (k n : ℕ) → p k ≡ false → least_from p k (suc n) ≡ least_from p (k + 1) n
from_next p k n h = rw h refl

-- where 2^k places are too few, the least height is above k
pub height_next : (size k : ℕ) → 2 ^ k < size → height_of size ≡ least_from (λ k. nat_le size (2 ^ k)) k (size - k) → height_of size ≡ least_from (λ k. nat_le size (2 ^ k)) (k + 1) (size - (k + 1))
height_next size k small e =
    let low = below_pow k in
    let more : size - k ≡ suc (size - (k + 1)) = omega arith in
    let not : nat_le size (2 ^ k) ≡ false = grind (arith, nat_tests) in
    e ∙ (ap (λ (n : ℕ). least_from (λ k. nat_le size (2 ^ k)) k n) more ∙ from_next (λ k. nat_le size (2 ^ k)) k (size - (k + 1)) not)

by_test : (p : ℕ → Bool) (k n : ℕ) (b : Bool) → p k ≡ b
    → ((j : ℕ) → k + 1 ≤ j → j < least_from p (k + 1) n → p j ≡ false) × (least_from p (k + 1) n < k + 1 + n → p (least_from p (k + 1) n) ≡ true) × (least_from p (k + 1) n ≤ k + 1 + n)
    → ((j : ℕ) → k ≤ j → j < least_from p k (suc n) → p j ≡ false) × (least_from p k (suc n) < k + suc n → p (least_from p k (suc n)) ≡ true) × (least_from p k (suc n) ≤ k + suc n)
by_test p k n true e h =
    let at = from_here p k (suc n) e in
    (λ j above below. absurd (omega (arith, at)), λ _. rw at e, omega (arith, at))
by_test p k n false e h =
    let at = from_next p k n e in
    let first : (j : ℕ) → k ≤ j → j < least_from p k (suc n) → p j ≡ false = λ j above below. (let either : (j ≡ k) ⊎ (k + 1 ≤ j) = grind arith in elim either [ inl same ↦ rw same e | inr more ↦ h.0 j more (omega (arith, at)) ]) in
    (first, λ less. rw at (h.1 (omega (arith, at))), omega (arith, at, h.2))

-- what the least number is
pub least_is : (p : ℕ → Bool) (k n : ℕ) → ((j : ℕ) → k ≤ j → j < least_from p k n → p j ≡ false) × (least_from p k n < k + n → p (least_from p k n) ≡ true) × (least_from p k n ≤ k + n)
least_is p k zero = (λ j above below. absurd (omega arith), λ less. absurd (omega arith), omega arith)
least_is p k (suc n) = by_test p k n (p k) refl (least_is p (k + 1) n)

pub height_enough : (size : ℕ) → size ≤ 2 ^ height_of size
height_enough size =
    let is = least_is (λ k. nat_le size (2 ^ k)) 0 size in
    let top : height_of size ≤ 0 + size = is.2 in
    let either : (height_of size < 0 + size) ⊎ (height_of size ≡ size) = grind arith in
    elim either [
      | inl less ↦ leb-true size (2 ^ height_of size) (is.1 less)
      | inr same ↦ rw same (omega (arith, below_pow size))
    ]

pub height_least : (size h : ℕ) → h < height_of size → 2 ^ h < size
height_least size h below =
    let is = least_is (λ k. nat_le size (2 ^ k)) 0 size in
    let not : nat_le size (2 ^ h) ≡ false = is.0 h (omega arith) below in
    grind (arith, nat_tests)

pub low_height : (k : ℕ) → 2 ^ k < 2 ^ 17 → k < 17
low_height k small =
    let either : (k < 17) ⊎ (17 ≤ k) = grind arith in
    elim either [
      | inl low ↦ low
      | inr high ↦ let most : 2 ^ 17 ≤ 2 ^ k = pow_mono high in absurd (omega arith)
    ]
