-- Numbers, written and read.
use Rattle.std.proofs.Common.{◌≡◌, ℕ, ℤ, pos, negsuc, suc, ◌+◌, ◌-◌, ◌*◌, ◌/◌, ◌%◌, ◌^◌, ◌<◌, ◌≤◌, ◌==◌, List, [], ◌∷◌, ◌++◌, length, true, false, refl, arith, Some}
use Rattle.std.proofs.lemmas.Bool.Decides.{nat_tests}
use Rattle.std.proofs.lemmas.Fmt.{decimal_by_steps, decimal_nonempty, length-decimal-le}
use Rattle.std.proofs.lemmas.List.Folds.{list_all-append}
use Rattle.std.specs.Fmt.{decimal, signed_decimal}
use Rattle.std.specs.List.{list_all}
use Rattle.crush_map.specs.Faults.{is_name_byte}
use Rattle.crush_grammar.specs.Numbers.{is_digit, are_digits, number_from, number_of, integer_of}
use Rattle.crush_text.proofs.Spelt.{IsToken, run_is_token, both}

-- at most so far from 0
abbrev pub IsWithin : ℕ → ℤ → Type 0
IsWithin m (pos n) = n ≤ m
IsWithin m (negsuc n) = suc n ≤ m

-- digits that say a number
record Says (n : ℕ) (ds : List ℕ) : Type 0 where
  pub digits : list_all is_digit ds ≡ true
  pub value : number_from 0 ds ≡ n

a_digit : (d : ℕ) → d < 10 → is_digit (48 + d) ≡ true
a_digit d h = grind (arith, nat_tests)

one_digit : (n : ℕ) → n < 10 → Says n ((48 + n) ∷ [])
one_digit n h = record { digits = rw (a_digit n h) refl; value = omega arith }

number_push : (s : ℕ) (ds : List ℕ) (b : ℕ) → number_from s (ds ++ b ∷ []) ≡ number_from s ds * 10 + (b - 48)
number_push s [] b = refl
number_push s (d ∷ ds) b = number_push (s * 10 + (d - 48)) ds b

more_digits : (n : ℕ) (ds : List ℕ) → 10 ≤ n → Says (n / 10) ds → Says n (ds ++ ((48 + n % 10) ∷ []))
more_digits n ds h r = record {
  digits = rw (list_all-append is_digit ds ((48 + n % 10) ∷ []), r.digits, a_digit (n % 10) (omega arith)) refl;
  value = rw (number_push 0 ds (48 + n % 10), r.value) (omega arith);
}

decimal_says : (n : ℕ) → n < 10 ^ 10 → Says n (decimal n)
decimal_says n h = decimal_by_steps Says one_digit more_digits n (omega arith)

are_decimal : (n : ℕ) → n < 10 ^ 10 → are_digits (decimal n) ≡ true
are_decimal n h =
    let some = decimal_nonempty n (omega arith) in
    let few : length (decimal n) ≤ 10 = length-decimal-le 10 n (omega arith) h (omega arith) in
    rw ((decimal_says n h).digits) (grind (arith, nat_tests))

pub number_comes_back : (n : ℕ) → n < 10 ^ 10 → number_of (decimal n) ≡ Some n
unfolding number_of
number_comes_back n h = rw (are_decimal n h, (decimal_says n h).value) refl

no_minus : (b : ℕ) → is_digit b ≡ true → (b == 45) ≡ false
no_minus b h = grind (arith, nat_tests)

-- digits with no minus before them
plain : (ds : List ℕ) (n : ℕ) → list_all is_digit ds ≡ true → 0 < length ds → number_of ds ≡ Some n → integer_of ds ≡ Some (pos n)
unfolding integer_of
plain [] n all some h = absurd (omega arith)
plain (b ∷ bytes) n all some h = rw (no_minus b (both (is_digit b) (list_all is_digit bytes) all).0, h) refl

pub integer_comes_back : (m : ℕ) (z : ℤ) → IsWithin m z → m < 10 ^ 10 → integer_of (signed_decimal z) ≡ Some z
unfolding integer_of
integer_comes_back m (pos n) h k = plain (decimal n) n (decimal_says n (omega arith)).digits (decimal_nonempty n (omega arith)) (number_comes_back n (omega arith))
integer_comes_back m (negsuc n) h k = rw (number_comes_back (suc n) (omega arith)) refl

-- ---- as words

digit_in_name : (d : ℕ) → is_digit d ≡ true → is_name_byte d ≡ true
digit_in_name d h = grind (arith, nat_tests)

digits_in_name : (ds : List ℕ) → list_all is_digit ds ≡ true → list_all is_name_byte ds ≡ true
digits_in_name [] h = refl
digits_in_name (d ∷ ds) h =
    let b = both (is_digit d) (list_all is_digit ds) h in
    rw (digit_in_name d b.0) (digits_in_name ds b.1)

pub decimal_is_token : (n : ℕ) → n < 10 ^ 10 → IsToken (decimal n)
decimal_is_token n h = run_is_token (decimal n) (decimal_nonempty n (omega arith)) (digits_in_name (decimal n) (decimal_says n h).digits)

pub signed_is_token : (m : ℕ) (z : ℤ) → IsWithin m z → m < 10 ^ 10 → IsToken (signed_decimal z)
signed_is_token m (pos n) h k = decimal_is_token n (omega arith)
signed_is_token m (negsuc n) h k = run_is_token (45 ∷ decimal (suc n)) (omega arith) (digits_in_name (decimal (suc n)) (decimal_says (suc n) (omega arith)).digits)
