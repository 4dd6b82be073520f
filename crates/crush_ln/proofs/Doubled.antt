-- A number, doubled until it is at least 2^15.
use Rattle.std.proofs.Common.{◌≡◌, ℕ, zero, suc, ◌+◌, ◌-◌, ◌*◌, ◌^◌, ◌<◌, ◌≤◌, min, nat_le, true, false, refl, ap, sym, ◌∙◌, arith, ◌⊎◌, inl, inr}
use Rattle.std.proofs.lemmas.Bool.Decides.{nat_tests}
use Rattle.std.proofs.lemmas.Nat.{pow-add}
use Rattle.std.proofs.Math.Nat.{pow-succ', mul_assoc, mul-le-mul_right, mul-lt-mul_of_pos_right}
use Rattle.std.proofs.Math.Pow.{pow_mono}
use Rattle.std.proofs.lemmas.Nat.{pow_pos}
use Rattle.crush_ln.specs.Log.{scaled}

twice : (x : ℕ) → 2 * x ≡ x * 2
twice x = omega arith

-- doubled j times: no fewer serve
pub scaled_is : (n x j : ℕ) → j ≤ n → 2 ^ 15 ≤ x * 2 ^ j → ((i : ℕ) → i < j → x * 2 ^ i < 2 ^ 15) → scaled n x ≡ (n - j, x * 2 ^ j)
unfolding scaled
scaled_is zero x j few enough least =
    let e : j ≡ 0 = omega arith in rw e (let one : x * 2 ^ 0 ≡ x = omega arith in rw one refl)
scaled_is (suc n) x zero few enough least =
    let one : x * 2 ^ 0 ≡ x = omega arith in
    let t : nat_le (2 ^ 15) x ≡ true = grind (arith, nat_tests) in
    let none : suc n - 0 ≡ suc n = omega arith in rw (t, one, none) refl
scaled_is (suc n) x (suc j) few enough least =
    let low : x * 2 ^ 0 < 2 ^ 15 = least 0 (omega arith) in
    let t : nat_le (2 ^ 15) x ≡ false = grind (arith, nat_tests) in
    let doubled : (i : ℕ) → 2 * x * 2 ^ i ≡ x * 2 ^ suc i = λ i. ap (λ (n : ℕ). n * 2 ^ i) (twice x) ∙ (mul_assoc x 2 (2 ^ i) ∙ ap (λ (n : ℕ). x * n) (sym (pow-succ' 2 i))) in
    let rest = scaled_is n (2 * x) j (omega arith) (rw (doubled j) enough) (λ i lt. rw (doubled i) (least (suc i) (omega arith))) in
    let e : suc n - suc j ≡ n - j = omega arith in
    rw (t, e) (rest ∙ ap (λ (m : ℕ). (n - j, m)) (doubled j))

pub below_pow_of : (x e i : ℕ) → x < 2 * 2 ^ e → i + e < 15 → x * 2 ^ i < 2 ^ 15
below_pow_of x e i h few =
    let pos : 0 < 2 ^ i = pow_pos i in
    let less : x * 2 ^ i < 2 * 2 ^ e * 2 ^ i = mul-lt-mul_of_pos_right h pos in
    let same : 2 * 2 ^ e * 2 ^ i ≡ 2 * 2 ^ (e + i) = mul_assoc 2 (2 ^ e) (2 ^ i) ∙ ap (λ (n : ℕ). 2 * n) (sym (pow-add 2 e i)) in
    let most : 2 ^ suc (e + i) ≤ 2 ^ 15 = pow_mono {i = suc (e + i)} {j = 15} (omega arith) in
    omega (arith, less, same, most, pow-succ' 2 (e + i))

pub reaches : (x e : ℕ) → 2 ^ e ≤ x → e ≤ 15 → 2 ^ 15 ≤ x * 2 ^ (15 - e)
reaches x e h few =
    let n : e + (15 - e) ≡ 15 = omega arith in
    let same : 2 ^ (e + (15 - e)) ≡ 2 ^ e * 2 ^ (15 - e) = pow-add 2 e (15 - e) in
    let whole : 2 ^ (e + (15 - e)) ≡ 2 ^ 15 = ap (λ (k : ℕ). 2 ^ k) n in
    let less : 2 ^ e * 2 ^ (15 - e) ≤ x * 2 ^ (15 - e) = mul-le-mul_right (2 ^ (15 - e)) h in
    omega (arith, same, whole, less)

pub stays_below : (x e : ℕ) → x < 2 * 2 ^ e → e ≤ 15 → x * 2 ^ (15 - e) < 2 ^ 16
stays_below x e h few =
    let n : e + (15 - e) ≡ 15 = omega arith in
    let same : 2 ^ (e + (15 - e)) ≡ 2 ^ e * 2 ^ (15 - e) = pow-add 2 e (15 - e) in
    let whole : 2 ^ (e + (15 - e)) ≡ 2 ^ 15 = ap (λ (k : ℕ). 2 ^ k) n in
    let assoc : 2 * 2 ^ e * 2 ^ (15 - e) ≡ 2 * (2 ^ e * 2 ^ (15 - e)) = mul_assoc 2 (2 ^ e) (2 ^ (15 - e)) in
    let less : x * 2 ^ (15 - e) < 2 * 2 ^ e * 2 ^ (15 - e) = mul-lt-mul_of_pos_right h (pow_pos (15 - e)) in
    omega (arith, same, whole, assoc, less)

-- ---- as the code does it, by the place of the highest bit

small_e : (x e : ℕ) → 2 ^ e ≤ x → x ≤ 2 ^ 16 → e < 17
small_e x e low high =
    let split : (e < 17) ⊎ (17 ≤ e) = grind arith in
    elim split [
      | inl lt ↦ lt
      | inr le ↦ (let most : 2 ^ 17 ≤ 2 ^ e = pow_mono le in absurd (omega (arith, most)))
    ]

-- the exponent, the place of the highest bit but 15 at most, and the doubled number
pub record IsScaling (x m : ℕ) : Type 0 where
  pub value : scaled 15 x ≡ (m, x * 2 ^ (15 - m))
  pub low : 2 ^ 15 ≤ x * 2 ^ (15 - m)
  pub high : x * 2 ^ (15 - m) ≤ 2 ^ 16

at_top : (x : ℕ) → 2 ^ 15 ≤ x → x ≤ 2 ^ 16 → IsScaling x 15
at_top x low high =
    let one : x * 2 ^ (15 - 15) ≡ x = omega arith in
    let same : x * 2 ^ 0 ≡ x = omega arith in
    let enough : 2 ^ 15 ≤ x * 2 ^ 0 = rw same low in
    record { value = scaled_is 15 x 0 (omega arith) enough (λ i lt. absurd (omega arith)); low = rw one low; high = rw one high }

at_bit : (x e : ℕ) → 2 ^ e ≤ x → x < 2 * 2 ^ e → e < 15 → IsScaling x e
at_bit x e low high few =
    let back : 15 - (15 - e) ≡ e = omega arith in
    let least : (i : ℕ) → i < 15 - e → x * 2 ^ i < 2 ^ 15 = λ i lt. below_pow_of x e i high (omega arith) in
    let less : x * 2 ^ (15 - e) < 2 ^ 16 = stays_below x e high (omega arith) in
    record { value = scaled_is 15 x (15 - e) (omega arith) (reaches x e low (omega arith)) least ∙ ap (λ (k : ℕ). (k, x * 2 ^ (15 - e))) back; low = reaches x e low (omega arith); high = omega (arith, less) }

pub scaling : (x e m : ℕ) → 2 ^ e ≤ x → x < 2 * 2 ^ e → m ≡ min e 15 → x ≤ 2 ^ 16 → IsScaling x m
scaling x e m low high is small =
    let split : (e < 15) ⊎ (15 ≤ e) = grind arith in
    elim split [
      | inl lt ↦ (let here : m ≡ e = omega arith in rw here (at_bit x e low high lt))
      | inr le ↦ (let here : m ≡ 15 = omega arith in
          let most : 2 ^ 15 ≤ 2 ^ e = pow_mono le in rw here (at_top x (omega (arith, most)) small))
    ]
