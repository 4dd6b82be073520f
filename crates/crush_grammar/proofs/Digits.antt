-- Digits and powers of ten.
use Rattle.std.proofs.Common.{◌≡◌, ℕ, zero, suc, ◌+◌, ◌-◌, ◌*◌, ◌^◌, ◌<◌, ◌≤◌, ◌&&◌, List, [], ◌∷◌, length, drop, Bool, true, false, refl, arith, get_or}
use Rattle.std.proofs.lemmas.Bool.Decides.{nat_tests}
use Rattle.std.proofs.Math.Nat.{pow-le-pow_right}
use Rattle.std.proofs.lemmas.Grind.{pow_more}
use Rattle.std.specs.List.{list_all}
use Rattle.crush_map.specs.declared.limits.TheConstants.{DIGIT_LIMIT}
use Rattle.crush_grammar.specs.Numbers.{is_digit, are_digits, number_from}

pub more_below : (n d i : ℕ) → n < 10 ^ i → d ≤ 9 → n * 10 + d < 10 ^ (i + 1)
more_below n d i h k = rw (pow_more 10 i) (omega arith)

pub more_fits : (n i m : ℕ) → n < 10 ^ i → i < m → m ≤ DIGIT_LIMIT → n < 10 ^ DIGIT_LIMIT
more_fits n i m h lt bound =
    let le : i ≤ DIGIT_LIMIT = omega arith in
    let k : 10 ^ i ≤ 10 ^ DIGIT_LIMIT = pow-le-pow_right (omega arith) le in
    omega arith

both : (a b : Bool) → (a && b) ≡ true → (a ≡ true) × (b ≡ true)
both true true h = (refl, refl)
both true false h = cc
both false b h = cc

pub first_is : (xs : List ℕ) (i : ℕ) → i < length xs → list_all is_digit (drop i xs) ≡ true → is_digit (get_or xs i 0) ≡ true
first_is [] i lt h = absurd (omega arith)
first_is (x ∷ xs) zero lt h = (both (is_digit x) (list_all is_digit xs) h).0
first_is (x ∷ xs) (suc i) lt h = first_is xs i (omega arith) h

all_after : (xs : List ℕ) (i : ℕ) → i < length xs → list_all is_digit (drop i xs) ≡ true → list_all is_digit (drop (suc i) xs) ≡ true
all_after [] i lt h = absurd (omega arith)
all_after (x ∷ xs) zero lt h = (both (is_digit x) (list_all is_digit xs) h).1
all_after (x ∷ xs) (suc i) lt h = all_after xs i (omega arith) h

pub others_are : (xs : List ℕ) (i : ℕ) → i < length xs → list_all is_digit (drop i xs) ≡ true → list_all is_digit (drop (i + 1) xs) ≡ true
others_are xs i lt h =
    let e : i + 1 ≡ suc i = omega arith in
    rw e (all_after xs i lt h)

number_step : (n : ℕ) (xs : List ℕ) (i : ℕ) → i < length xs → number_from n (drop i xs) ≡ number_from (n * 10 + (get_or xs i 0 - 48)) (drop (suc i) xs)
number_step n [] i lt = absurd (omega arith)
number_step n (x ∷ xs) zero lt = refl
number_step n (x ∷ xs) (suc i) lt = number_step n xs i (omega arith)

-- one more digit
pub more_value : (n d : ℕ) (xs : List ℕ) (i : ℕ) → i < length xs → d ≡ get_or xs i 0 - 48 → number_from (n * 10 + d) (drop (i + 1) xs) ≡ number_from n (drop i xs)
more_value n d xs i lt e =
    let f : i + 1 ≡ suc i = omega arith in
    let g = number_step n xs i lt in
    rw (f, e) (cc)

few : (text : List ℕ) → are_digits text ≡ true → length text ≤ DIGIT_LIMIT
few text h = grind (arith, nat_tests)

pub below_ten : (n : ℕ) (text : List ℕ) → n < 10 ^ length text → are_digits text ≡ true → n < 10 ^ DIGIT_LIMIT
below_ten n text h d =
    let f : length text ≤ DIGIT_LIMIT = few text d in
    let m : 10 ^ length text ≤ 10 ^ DIGIT_LIMIT = pow-le-pow_right (omega arith) f in
    omega arith
