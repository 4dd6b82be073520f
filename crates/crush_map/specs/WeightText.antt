-- Weights as text: decimal in a text, 65536ths of 1.0 in a map (Ceph's `CrushCompiler`).
use Rattle.std.specs.Prelude.{◌≡◌, ℕ, ◌+◌, ◌-◌, ◌*◌, ◌/◌, ◌%◌, ◌^◌, ◌<◌, ◌≤◌, nat_le, nat_lt, ◌==◌, ◌&&◌, ◌⊎◌, Bool, true, List, [], ◌∷◌, ◌++◌, length, take, drop, position, Option, Some, None, if◌then◌else◌, decimal}
use Rattle.std.specs.List.{list_all}
use Rattle.crush_map.specs.declared.limits.TheConstants.{DIGIT_LIMIT, FRACTION_DIGIT_LIMIT}
use Rattle.crush_types.specs.declared.Weight.{Weight}

-- `0` to `9`
abbrev pub is_digit : ℕ → Bool
is_digit byte = nat_le 48 byte && nat_le byte 57

-- `.`
abbrev pub is_point : ℕ → Bool
is_point byte = byte == 46

-- whether a text is low to high digits and nothing else
abbrev pub are_digits : ℕ → ℕ → List ℕ → Bool
are_digits low high text = nat_le low (length text) && nat_le (length text) high && list_all is_digit text

-- the number that digits write: each counts ten times as much as the one after it, the last one
-- once
abbrev pub number : List ℕ → ℕ
number [] = 0
number (digit ∷ digits) = (digit - 48) * 10 ^ length digits + number digits

-- ---- reading

-- `whole.fraction` as an integer, without its point: its value times 10 ^ length fraction
abbrev pub without_point : List ℕ → List ℕ → ℕ
without_point whole fraction = number whole * 10 ^ length fraction + number fraction

-- `whole.fraction` in 65536ths, rounded down
abbrev pub in_65536ths : List ℕ → List ℕ → ℕ
in_65536ths whole fraction = without_point whole fraction * 65536 / 10 ^ length fraction

-- the weight of n 65536ths, if n is below 2^32
abbrev pub weight_below_2_to_32 : ℕ → Option Weight
weight_below_2_to_32 n = if nat_lt n (2 ^ 32) then Some (record { 0 = n }) else None

-- the weight that a text writes, by the place of its first point or none
abbrev pub weight_cut_at : List ℕ → Option ℕ → Option Weight
weight_cut_at text None =
    if are_digits 1 DIGIT_LIMIT text then weight_below_2_to_32 (in_65536ths text []) else None
weight_cut_at text (Some place) =
    if are_digits 1 DIGIT_LIMIT (take place text) && are_digits 1 FRACTION_DIGIT_LIMIT (drop (place + 1) text)
    then weight_below_2_to_32 (in_65536ths (take place text) (drop (place + 1) text)) else None

-- the weight that a text writes, if it writes one
unfoldable pub weight_of : List ℕ → Option Weight
weight_of text = weight_cut_at text (position is_point text)

-- a text writes this weight: it is 1 to DIGIT_LIMIT digits, alone or followed by a point and 1 to
-- FRACTION_DIGIT_LIMIT digits, and their value rounded down is the weight
pub record Writes (text : List ℕ) (weight : Weight) : Type 0 where
  pub whole : List ℕ
  pub fraction : List ℕ
  pub digits : are_digits 1 DIGIT_LIMIT whole ≡ true
  pub form : ((text ≡ whole) × (fraction ≡ [])) ⊎ ((text ≡ whole ++ 46 ∷ fraction) × (are_digits 1 FRACTION_DIGIT_LIMIT fraction ≡ true))
  pub reached : weight.0 * 10 ^ length fraction ≤ without_point whole fraction * 65536
  pub not_more : without_point whole fraction * 65536 < (weight.0 + 1) * 10 ^ length fraction
  pub fits : weight.0 < 2 ^ 32

-- ---- writing

-- a weight in hundred-thousandths of 1.0, rounded up
abbrev pub hundred_thousandths : Weight → ℕ
hundred_thousandths weight = (weight.0 * 100000 + 65535) / 65536

-- the last five decimal digits of a number
abbrev pub five_digits : ℕ → List ℕ
five_digits n = (48 + n / 10000 % 10) ∷ (48 + n / 1000 % 10) ∷ (48 + n / 100 % 10) ∷ (48 + n / 10 % 10) ∷ (48 + n % 10) ∷ []

-- n hundred-thousandths as text, with five decimals
abbrev pub with_five_decimals : ℕ → List ℕ
with_five_decimals n = decimal (n / 100000) ++ 46 ∷ five_digits n

-- the text of a weight
unfoldable pub text_of : Weight → List ℕ
text_of weight = with_five_decimals (hundred_thousandths weight)
