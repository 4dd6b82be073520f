-- Lengths in digits.
use Rattle.std.proofs.Common.{◌≡◌, ℕ, ◌+◌, ◌-◌, ◌*◌, zero, suc, ◌^◌, ◌<◌, ◌≤◌, List, [], ◌∷◌, ◌&&◌, Bool, true, false, length, arith, get_or, take, refl, nat_lt, nat_le}
use Rattle.std.proofs.Math.Nat.{pow-le-pow_right}
use Rattle.std.proofs.lemmas.Bool.Decides.{nat_tests}
use Rattle.std.proofs.lemmas.Int.Digits.{digits_value-lt, digits_value_more}
use Rattle.std.proofs.lemmas.Str.Parse.{digits_value-take-le}
use Rattle.std.specs.Char.{is_ascii_digit, digit_value}
use Rattle.std.specs.List.{list_all}
use Rattle.std.specs.Str.Parse.{AllDigits, digits_value}
use Rattle.crush_http.specs.Headers.{is_length}

digit_small : (c : ℕ) → is_ascii_digit c ≡ true → digit_value c < 10
digit_small c h = grind (arith, nat_tests, h)

digit_is : (c : ℕ) → is_ascii_digit c ≡ true → digit_value c + 48 ≡ c
digit_is c h = grind (arith, nat_tests, h)

both_true : (a b : Bool) → (a && b) ≡ true → (a ≡ true) × (b ≡ true)
both_true true b h = (refl, h)
both_true false b h = cc

are_digits : (text : List ℕ) → list_all is_ascii_digit text ≡ true → AllDigits 10 text
are_digits [] h = tt
are_digits (c ∷ cs) h = let both = both_true (is_ascii_digit c) (list_all is_ascii_digit cs) h in (digit_small c both.0, are_digits cs both.1)

digit_at : (text : List ℕ) (i : ℕ) → list_all is_ascii_digit text ≡ true → i < length text → is_ascii_digit (get_or text i 0) ≡ true
digit_at [] i h few = absurd (omega arith)
digit_at (c ∷ cs) zero h few = (both_true (is_ascii_digit c) (list_all is_ascii_digit cs) h).0
digit_at (c ∷ cs) (suc i) h few = digit_at cs i (both_true (is_ascii_digit c) (list_all is_ascii_digit cs) h).1 (omega arith)

small : (text : List ℕ) → list_all is_ascii_digit text ≡ true → length text ≤ 10 → digits_value 10 text ≤ 9999999999
small text digits short =
    let low : digits_value 10 text < 10 ^ length text = digits_value-lt 10 text (are_digits text digits) in
    let high : 10 ^ length text ≤ 10 ^ 10 = pow-le-pow_right (omega arith) short in
    omega (arith, low, high)

-- the digits of a length write a number of ten digits at most
pub length_small : (text : List ℕ) → is_length text ≡ true → (list_all is_ascii_digit text ≡ true) × (digits_value 10 text ≤ 9999999999)
length_small text h =
    let parts = both_true (nat_lt 0 (length text)) (nat_le (length text) 10 && list_all is_ascii_digit text) h in
    let rest = both_true (nat_le (length text) 10) (list_all is_ascii_digit text) parts.1 in
    let short : length text ≤ 10 = grind (arith, nat_tests, rest.0) in
    (rest.1, small text rest.1 short)

-- one more digit, and the bound on all
pub one_more : (text : List ℕ) (i n d : ℕ) → list_all is_ascii_digit text ≡ true → digits_value 10 text ≤ 9999999999 → i < length text → n ≡ digits_value 10 (take i text)
    → d ≡ get_or text i 0 - 48 → (n * 10 + d ≡ digits_value 10 (take (i + 1) text)) × (n * 10 + d ≤ 9999999999)
one_more text i n d digits small here number digit =
    let more = digits_value_more 10 text i here in
    let most = digits_value-take-le 10 text (i + 1) (omega arith) in
    let is = digit_is (get_or text i 0) (digit_at text i digits here) in
    (omega (arith, more, is), omega (arith, more, most, is))
