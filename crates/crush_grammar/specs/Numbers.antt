-- Numbers in decimal.
use Rattle.std.specs.Prelude.{ℕ, ℤ, pos, neg_ℤ, ◌+◌, ◌-◌, ◌*◌, ◌==◌, Bool, List, [], ◌∷◌, Option, Some, None, if◌then◌else◌, option_map}
use Rattle.crush_map.specs.declared.limits.TheConstants.{DIGIT_LIMIT}
use Rattle.crush_map.specs.WeightText as weights
pub use Rattle.crush_map.specs.WeightText.{is_digit}

-- 1 to DIGIT_LIMIT digits
abbrev pub are_digits : List ℕ → Bool
are_digits text = weights.are_digits 1 DIGIT_LIMIT text

-- the number that is written by the digits of n followed by further digits
abbrev pub number_from : ℕ → List ℕ → ℕ
number_from n [] = n
number_from n (b ∷ bytes) = number_from (n * 10 + (b - 48)) bytes

-- the number that 1 to DIGIT_LIMIT digits write
unfoldable pub number_of : List ℕ → Option ℕ
number_of text = if are_digits text then Some (number_from 0 text) else None

-- the integer that 1 to DIGIT_LIMIT digits write, with or without a minus before them
unfoldable pub integer_of : List ℕ → Option ℤ
integer_of [] = None
integer_of (b ∷ bytes) = if b == 45 then option_map (λ n. neg_ℤ (pos n)) (number_of bytes) else option_map pos (number_of (b ∷ bytes))
