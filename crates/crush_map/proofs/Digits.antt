-- The numbers that digits write.
use Rattle.std.proofs.Common.{◌≡◌, ◌∙◌, ℕ, zero, suc, ◌+◌, ◌-◌, ◌*◌, ◌^◌, ◌<◌, ◌≤◌, ◌&&◌, ◌++◌, List, [], ◌∷◌, length, take, Bool, true, false, refl, sym, ap, arith, get_or}
use Rattle.std.proofs.lemmas.Bool.Decides.{nat_tests}
use Rattle.std.proofs.Math.Nat.{pow-le-pow_right, mul_assoc, add-mul, mul-le-mul_right}
use Rattle.std.proofs.Math.ListN.{length-append}
use Rattle.std.proofs.lemmas.Nat.{pow-add}
use Rattle.std.proofs.lemmas.Grind.{pow_more}
use Rattle.std.proofs.lemmas.List.{take_more}
use Rattle.std.specs.List.{list_all}
use Rattle.crush_map.specs.WeightText.{is_digit, number}

pub both : (a b : Bool) → (a && b) ≡ true → (a ≡ true) × (b ≡ true)
both true true h = (refl, refl)
both true false h = cc
both false b h = cc

-- the number of two groups of digits
pub number-append : (xs ys : List ℕ) → number (xs ++ ys) ≡ number xs * 10 ^ length ys + number ys
number-append [] ys = omega arith
number-append (x ∷ xs) ys =
    let e : 10 ^ length (xs ++ ys) ≡ 10 ^ length xs * 10 ^ length ys = ap (λ k. 10 ^ k) (length-append xs ys) ∙ pow-add 10 (length xs) (length ys) in
    let m : (x - 48) * (10 ^ length xs * 10 ^ length ys) ≡ (x - 48) * 10 ^ length xs * 10 ^ length ys = sym (mul_assoc (x - 48) (10 ^ length xs) (10 ^ length ys)) in
    let s : ((x - 48) * 10 ^ length xs + number xs) * 10 ^ length ys ≡ (x - 48) * 10 ^ length xs * 10 ^ length ys + number xs * 10 ^ length ys = add-mul ((x - 48) * 10 ^ length xs) (number xs) (10 ^ length ys) in
    rw (number-append xs ys, e, m, s) (omega arith)

-- one more digit
pub number-push : (xs : List ℕ) (d : ℕ) → number (xs ++ d ∷ []) ≡ number xs * 10 + (d - 48)
number-push xs d = number-append xs (d ∷ []) ∙ omega arith

pub number_more : (n : ℕ) (xs : List ℕ) (i : ℕ) → i < length xs → n ≡ number (take i xs) → n * 10 + (get_or xs i 0 - 48) ≡ number (take (i + 1) xs)
number_more n xs i lt e = rw (take_more xs i 0 lt, number-push (take i xs) (get_or xs i 0), e) refl

pub digit_at : (xs : List ℕ) (i : ℕ) → i < length xs → list_all is_digit xs ≡ true → is_digit (get_or xs i 0) ≡ true
digit_at [] i lt h = absurd (omega arith)
digit_at (x ∷ xs) zero lt h = (both (is_digit x) (list_all is_digit xs) h).0
digit_at (x ∷ xs) (suc i) lt h = digit_at xs i (omega arith) (both (is_digit x) (list_all is_digit xs) h).1

pub digit_to : (d : ℕ) → is_digit d ≡ true → d ≤ 57
digit_to d h = grind (arith, nat_tests)

pub below_more : (n d i : ℕ) → n < 10 ^ i → d ≤ 9 → n * 10 + d < 10 ^ (i + 1)
below_more n d i h k = rw (pow_more 10 i) (omega arith)

-- ten digits before a point and twenty after it: no overflow
pub below_thirty : (a b i j : ℕ) → a < 10 ^ i → i ≤ 10 → b < 10 ^ j → j ≤ 20 → a * 10 ^ j + b < 10 ^ 30
below_thirty a b i j front few back few_too =
    let x : 10 ^ i ≤ 10 ^ 10 = pow-le-pow_right (omega arith) few in
    let y : 10 ^ j ≤ 10 ^ 20 = pow-le-pow_right (omega arith) few_too in
    let below : a + 1 ≤ 10 ^ 10 = omega arith in
    let m : (a + 1) * 10 ^ j ≤ 10 ^ 10 * 10 ^ j = mul-le-mul_right (10 ^ j) below in
    omega (arith, m, add-mul a 1 (10 ^ j))
