-- The logarithm of a draw doesn't fall as the draw rises, but at the greatest draw.
use Rattle.std.proofs.Common.{◌≡◌, ℕ, zero, suc, ◌+◌, ◌-◌, ◌*◌, ◌/◌, ◌%◌, ◌^◌, ◌<◌, ◌≤◌, nat_le, Bool, true, false, slice_index, refl, arith, ap, sym, ◌∙◌, ◌⊎◌, inl, inr, lit≤}
use Rattle.std.proofs.lemmas.Bool.Decides.{nat_tests}
use Rattle.std.proofs.Math.Nat.{mul-le-mul_right, pow-succ', mul_assoc}
use Rattle.crush_ln.specs.declared.tables.TheConstants.{RECIPROCALS, LOGS, REST_LOGS}
use Rattle.crush_ln.specs.Log.{scaled, mantissa_log, log, delay}
use Rattle.crush_ln.proofs.Table.{last_of, last_rest, part_ends, part_goes_on, rest_rises}
use Rattle.crush_ln.proofs.Parts.{product_below, product_above}

-- ---- within the tables

rests_rise : (d i : ℕ) → i + d < 256 → slice_index REST_LOGS i ≤ slice_index REST_LOGS (i + d)
rests_rise zero i few = let e : i + 0 ≡ i = omega arith in rw e (omega arith)
rests_rise (suc d) i few =
    let e : i + suc d ≡ i + d + 1 = omega arith in
    let before : slice_index REST_LOGS i ≤ slice_index REST_LOGS (i + d) = rests_rise d i (omega arith) in
    rw e (omega (arith, before, rest_rises (i + d) (omega arith)))

rest_le : (i j : ℕ) → i ≤ j → j < 256 → slice_index REST_LOGS i ≤ slice_index REST_LOGS j
rest_le i j le few = let e : i + (j - i) ≡ j = omega arith in let h : slice_index REST_LOGS i ≤ slice_index REST_LOGS (i + (j - i)) = rests_rise (j - i) i (omega arith) in rw e at h

logs_rise : (d k : ℕ) → k + d < 128 → slice_index LOGS k ≤ slice_index LOGS (k + d)
logs_rise zero k few = let e : k + 0 ≡ k = omega arith in rw e (omega arith)
logs_rise (suc d) k few =
    let e : k + suc d ≡ k + d + 1 = omega arith in
    let before : slice_index LOGS k ≤ slice_index LOGS (k + d) = logs_rise d k (omega arith) in
    rw e (omega (arith, before, part_goes_on (k + d) (omega arith)))

log_le : (i j : ℕ) → i ≤ j → j < 128 → slice_index LOGS i ≤ slice_index LOGS j
log_le i j le few = let e : i + (j - i) ≡ j = omega arith in let h : slice_index LOGS i ≤ slice_index LOGS (i + (j - i)) = logs_rise (j - i) i (omega arith) in rw e at h

-- ---- mantissas below 2^16

abbrev part : ℕ → ℕ
part m = m / 2 ^ 8 - 128

abbrev quotient : ℕ → ℕ
quotient m = m * slice_index RECIPROCALS (part m) / 2 ^ 48

abbrev whole : ℕ → ℕ
whole m = slice_index LOGS (part m) + slice_index REST_LOGS (quotient m % 2 ^ 8)

record HasRest (m : ℕ) : Type 0 where
  is : quotient m % 2 ^ 8 ≡ quotient m - 2 ^ 15
  last : quotient m % 2 ^ 8 ≤ last_rest (part m)
  few : last_rest (part m) < 256

has_rest : (m : ℕ) → 2 ^ 15 ≤ m → m < 2 ^ 16 → HasRest m
has_rest m low high =
    let above : 2 ^ 15 * 2 ^ 48 ≤ m * slice_index RECIPROCALS (part m) = product_above m (part m) low (omega arith) refl in
    let below : m * slice_index RECIPROCALS (part m) < (2 ^ 15 + 2 ^ 8) * 2 ^ 48 = product_below m (part m) low (omega arith) refl in
    let few : part m < 129 = omega arith in
    let ends = part_ends (part m) few in
    let le : m * slice_index RECIPROCALS (part m) ≤ last_of (part m) * slice_index RECIPROCALS (part m) = mul-le-mul_right (slice_index RECIPROCALS (part m)) (omega arith) in
    let is : quotient m % 2 ^ 8 ≡ quotient m - 2 ^ 15 = omega (arith, above, below) in
    record { is = is; last = omega (arith, is, le); few = omega (arith, ends) }

up_to_part : (m : ℕ) → 2 ^ 15 ≤ m → m < 2 ^ 16 → whole m ≤ slice_index LOGS (part m) + slice_index REST_LOGS (last_rest (part m))
up_to_part m low high = let h = has_rest m low high in omega (arith, rest_le (quotient m % 2 ^ 8) (last_rest (part m)) h.last h.few)

abbrev top : ℕ → ℕ
top k = slice_index LOGS k + slice_index REST_LOGS (last_rest k)

last_part : slice_index LOGS 127 + slice_index REST_LOGS (last_rest 127) ≤ 2 ^ 48
last_part = lit≤ tt

small_last : slice_index LOGS 127 ≤ 2 ^ 48
small_last = lit≤ tt

whole_small : (m : ℕ) → 2 ^ 15 ≤ m → m < 2 ^ 16 → whole m ≤ 2 ^ 48
whole_small m low high =
    let split : (part m < 127) ⊎ (part m ≡ 127) = grind arith in
    elim split [
      | inl less ↦ omega (arith, up_to_part m low high, part_goes_on (part m) less, log_le (part m + 1) 127 (omega arith) (omega arith), small_last)
      | inr is ↦ (let same : top (part m) ≡ top 127 = ap top is in omega (arith, up_to_part m low high, same, last_part))
    ]

whole_rises : (m n : ℕ) → 2 ^ 15 ≤ m → m ≤ n → n < 2 ^ 16 → whole m ≤ whole n
whole_rises m n low le high =
    let split : (part m < part n) ⊎ (part m ≡ part n) = grind arith in
    elim split [
      | inl less ↦ omega (arith, up_to_part m low (omega arith), part_goes_on (part m) (omega arith), log_le (part m + 1) (part n) (omega arith) (omega arith))
      | inr same ↦ (
          let a = has_rest m low (omega arith) in
          let b = has_rest n (omega arith) high in
          let times : m * slice_index RECIPROCALS (part m) ≤ n * slice_index RECIPROCALS (part n) = rw same (mul-le-mul_right (slice_index RECIPROCALS (part n)) le) in
          let rest : slice_index REST_LOGS (quotient m % 2 ^ 8) ≤ slice_index REST_LOGS (quotient n % 2 ^ 8) = rest_le (quotient m % 2 ^ 8) (quotient n % 2 ^ 8) (omega (arith, times, a.is, b.is)) (omega arith) in
          let logs : slice_index LOGS (part m) ≡ slice_index LOGS (part n) = ap (λ (k : ℕ). slice_index LOGS k) same in
          omega (arith, rest, logs))
    ]

mantissa_rises : (m n : ℕ) → 2 ^ 15 ≤ m → m ≤ n → n < 2 ^ 16 → mantissa_log m ≤ mantissa_log n
unfolding mantissa_log
mantissa_rises m n low le high = omega (arith, whole_rises m n low le high)

mantissa_small : (m : ℕ) → 2 ^ 15 ≤ m → m < 2 ^ 16 → mantissa_log m ≤ 2 ^ 44
unfolding mantissa_log
mantissa_small m low high = omega (arith, whole_small m low high)

-- ---- numbers

abbrev value : ℕ × ℕ → ℕ
value (e, m) = e * 2 ^ 44 + mantissa_log m

record IsWithin (n x : ℕ) : Type 0 where
  exponent : (scaled n x).0 ≤ n
  low : 2 ^ 15 ≤ (scaled n x).1
  high : (scaled n x).1 < 2 ^ 16

swapped : (x : ℕ) → x * 2 ≡ 2 * x
swapped x = omega arith

again : (n x : ℕ) → 2 ^ 15 ≤ x * 2 ^ suc n → 2 ^ 15 ≤ 2 * x * 2 ^ n
again n x h =
    let double : x * 2 ^ suc n ≡ 2 * x * 2 ^ n = ap (λ (p : ℕ). x * p) (pow-succ' 2 n) ∙ (sym (mul_assoc x 2 (2 ^ n)) ∙ ap (λ (y : ℕ). y * 2 ^ n) (swapped x)) in omega (arith, h, double)

is_within : (n x : ℕ) → x < 2 ^ 16 → 2 ^ 15 ≤ x * 2 ^ n → IsWithin n x
unfolding scaled
is_within zero x small enough = let one : x * 2 ^ 0 ≡ x = omega arith in record { exponent = omega arith; low = omega (arith, enough, one); high = small }
is_within (suc n) x small enough =
    let go : (b : Bool) → nat_le (2 ^ 15) x ≡ b → IsWithin (suc n) x = λ b. elim b as (λ b. nat_le (2 ^ 15) x ≡ b → IsWithin (suc n) x) [
      | true ↦ λ t. (let le : 2 ^ 15 ≤ x = grind (arith, nat_tests) in record { exponent = rw t (omega arith); low = rw t le; high = rw t small })
      | false ↦ λ t. (let lt : x < 2 ^ 15 = grind (arith, nat_tests) in let h = is_within n (2 * x) (omega arith) (again n x enough) in record { exponent = rw t (omega (arith, h.exponent)); low = rw t h.low; high = rw t h.high })
    ] in go (nat_le (2 ^ 15) x) refl

value_small : (n x : ℕ) → x < 2 ^ 16 → 2 ^ 15 ≤ x * 2 ^ n → value (scaled n x) ≤ suc n * 2 ^ 44
value_small n x small enough =
    let h = is_within n x small enough in
    omega (arith, h.exponent, mantissa_small (scaled n x).1 h.low h.high)

value_rises : (n x y : ℕ) → x ≤ y → y < 2 ^ 16 → 2 ^ 15 ≤ x * 2 ^ n → value (scaled n x) ≤ value (scaled n y)
unfolding scaled
value_rises zero x y le small enough = let one : x * 2 ^ 0 ≡ x = omega arith in omega (arith, mantissa_rises x y (omega (arith, enough, one)) le small)
value_rises (suc n) x y le small enough =
    let go : (a b : Bool) → nat_le (2 ^ 15) x ≡ a → nat_le (2 ^ 15) y ≡ b → value (scaled (suc n) x) ≤ value (scaled (suc n) y) = λ a. elim a as (λ a. (b : Bool) → nat_le (2 ^ 15) x ≡ a → nat_le (2 ^ 15) y ≡ b → value (scaled (suc n) x) ≤ value (scaled (suc n) y)) [
      | true ↦ λ b s t. (
          let low : 2 ^ 15 ≤ x = grind (arith, nat_tests) in
          let both : nat_le (2 ^ 15) y ≡ true = grind (arith, nat_tests) in
          rw (s, both) (omega (arith, mantissa_rises x y low le small)))
      | false ↦ λ b. elim b as (λ b. nat_le (2 ^ 15) x ≡ false → nat_le (2 ^ 15) y ≡ b → value (scaled (suc n) x) ≤ value (scaled (suc n) y)) [
        | true ↦ λ s t. (
            let less : x < 2 ^ 15 = grind (arith, nat_tests) in
            rw (s, t) (omega (arith, value_small n (2 * x) (omega arith) (again n x enough))))
        | false ↦ λ s t. (
            let less : y < 2 ^ 15 = grind (arith, nat_tests) in
            rw (s, t) (value_rises n (2 * x) (2 * y) (omega arith) (omega arith) (again n x enough)))
      ]
    ] in go (nat_le (2 ^ 15) x) (nat_le (2 ^ 15) y) refl refl

-- ---- draws

some_doubled : (x : ℕ) → 0 < x → 2 ^ 15 ≤ x * 2 ^ 15
some_doubled x some = omega arith

pub log_rises : (u v : ℕ) → u ≤ v → v < 2 ^ 16 - 1 → log u ≤ log v
unfolding log
log_rises u v le few = value_rises 15 (u + 1) (v + 1) (omega arith) (omega arith) (some_doubled (u + 1) (omega arith))

pub delay_falls : (u v : ℕ) → u ≤ v → v < 2 ^ 16 - 1 → delay v ≤ delay u
unfolding delay
delay_falls u v le few = omega (arith, log_rises u v le few)

pub at_the_end : (delay 65534 ≡ 43930352) × (delay 65535 ≡ 268435456) × (delay 65533 ≡ 1097670351)
unfolding delay log scaled mantissa_log
at_the_end = (refl, refl, refl)

-- a draw is no sooner than one that is no less, of the draws up to 65533 the greatest of all too
pub no_sooner : (u v : ℕ) → u ≤ v → u ≤ 65533 → v < 2 ^ 16 → delay v ≤ delay u
no_sooner u v le few small =
    let (a, b, c) = at_the_end in
    let split : (v < 65535) ⊎ (v ≡ 65535) = grind arith in
    elim split [
      | inl less ↦ delay_falls u v le (omega arith)
      | inr is ↦ (let h = delay_falls u 65533 few (omega arith) in rw is (omega (arith, h, b, c)))
    ]

pub least_delay : (u : ℕ) → u < 2 ^ 16 → delay 65534 ≤ delay u
least_delay u few =
    let (least, greatest, before) = at_the_end in
    let split : (u < 65535) ⊎ (u ≡ 65535) = grind arith in
    elim split [
      | inl less ↦ delay_falls u 65534 (omega arith) (omega arith)
      | inr is ↦ rw is (omega (arith, least, greatest))
    ]

pub at_0 : delay 0 ≡ 2 ^ 48
unfolding delay log scaled mantissa_log
at_0 = refl

pub delay_small : (u : ℕ) → delay u ≤ 2 ^ 48
unfolding delay
delay_small u = omega arith
