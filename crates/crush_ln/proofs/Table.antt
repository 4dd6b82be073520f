-- What the tables hold: each test is computed once, over all of a table's places.
use Rattle.std.proofs.Common.{◌≡◌, ℕ, zero, suc, ◌+◌, ◌-◌, ◌*◌, ◌/◌, ◌^◌, ◌==◌, ◌<◌, ◌≤◌, nat_le, nat_lt, Bool, true, false, ◌&&◌, refl, arith, slice_index, ◌⊎◌, inl, inr}
use Rattle.std.specs.List.{list_all, range_with_len}
use Rattle.std.proofs.lemmas.Bool.Decides.{nat_tests}
use Rattle.crush_ln.specs.declared.tables.TheConstants.{RECIPROCALS, LOGS, REST_LOGS}

-- ---- tests over all numbers below a bound

abbrev below : ℕ → (ℕ → Bool) → Bool
below n p = list_all p (range_with_len 0 n)

both : (a b : Bool) → (a && b) ≡ true → (a ≡ true) × (b ≡ true)
both true b h = (refl, h)
both false b h = cc

within : (p : ℕ → Bool) (a n k : ℕ) → list_all p (range_with_len a n) ≡ true → a ≤ k → k < a + n → p k ≡ true
within p a zero k h low high = absurd (omega arith)
within p a (suc n) k h low high =
    let (here, more) = both (p a) (list_all p (range_with_len (a + 1) n)) h in
    let split : (k ≡ a) ⊎ (a + 1 ≤ k) = grind arith in
    elim split [
      | inl e ↦ rw e here
      | inr later ↦ within p (a + 1) n k more later (omega arith)
    ]

at : (p : ℕ → Bool) (n k : ℕ) → below n p ≡ true → k < n → p k ≡ true
at p n k h lt = within p 0 n k h (omega arith) (omega arith)

-- ---- the tests, number by number

-- the least and the greatest mantissa of the k-th part
abbrev pub first_of : ℕ → ℕ
first_of k = 2 ^ 8 * (k + 128)

abbrev pub last_of : ℕ → ℕ
last_of k = 2 ^ 8 * (k + 128) + 255

-- the rest of the greatest mantissa of a part
abbrev pub last_rest : ℕ → ℕ
last_rest k = last_of k * slice_index RECIPROCALS k / 2 ^ 48 - 2 ^ 15

-- a part's mantissas have quotients from 2^15 to 2^15 + 255
abbrev starts_well : ℕ → Bool
starts_well k = nat_le (2 ^ 15 * 2 ^ 48) (first_of k * slice_index RECIPROCALS k)

abbrev ends_well : ℕ → Bool
ends_well k = nat_lt (last_of k * slice_index RECIPROCALS k) ((2 ^ 15 + 2 ^ 8) * 2 ^ 48)

-- the logarithm doesn't fall from one part to the next
abbrev goes_on : ℕ → Bool
goes_on k = nat_le (slice_index LOGS k + slice_index REST_LOGS (last_rest k)) (slice_index LOGS (k + 1))

-- nor from one rest to the next
abbrev rises : ℕ → Bool
rises k = nat_le (slice_index REST_LOGS k) (slice_index REST_LOGS (k + 1))

abbrev is_small_log : ℕ → Bool
is_small_log k = nat_le (slice_index LOGS k) (2 ^ 48)

abbrev is_small_rest : ℕ → Bool
is_small_rest k = nat_le (slice_index REST_LOGS k) (2 ^ 48)

-- a reciprocal is rounded up
abbrev rounded_up : ℕ → Bool
rounded_up k = slice_index RECIPROCALS k == (2 ^ 48 * 128 + (127 + k)) / (128 + k)

-- ---- they pass

starts : below 129 starts_well ≡ true
starts = refl

ends : below 129 ends_well ≡ true
ends = refl

seams : below 127 goes_on ≡ true
seams = refl

rests : below 255 rises ≡ true
rests = refl

small_logs : below 129 is_small_log ≡ true
small_logs = refl

small_rests : below 256 is_small_rest ≡ true
small_rests = refl

rounded : below 129 rounded_up ≡ true
rounded = refl

-- ---- what they say

le : (m n : ℕ) → nat_le m n ≡ true → m ≤ n
le m n h = grind (arith, nat_tests)

lt : (m n : ℕ) → nat_lt m n ≡ true → m < n
lt m n h = grind (arith, nat_tests)

pub part_starts : (k : ℕ) → k < 129 → 2 ^ 15 * 2 ^ 48 ≤ first_of k * slice_index RECIPROCALS k
part_starts k few = le _ _ (at starts_well 129 k starts few)

pub part_ends : (k : ℕ) → k < 129 → last_of k * slice_index RECIPROCALS k < (2 ^ 15 + 2 ^ 8) * 2 ^ 48
part_ends k few = lt _ _ (at ends_well 129 k ends few)

pub part_goes_on : (k : ℕ) → k < 127 → slice_index LOGS k + slice_index REST_LOGS (last_rest k) ≤ slice_index LOGS (k + 1)
part_goes_on k few = le _ _ (at goes_on 127 k seams few)

pub rest_rises : (k : ℕ) → k < 255 → slice_index REST_LOGS k ≤ slice_index REST_LOGS (k + 1)
rest_rises k few = le _ _ (at rises 255 k rests few)

pub small_log : (k : ℕ) → k < 129 → slice_index LOGS k ≤ 2 ^ 48
small_log k few = le _ _ (at is_small_log 129 k small_logs few)

pub small_rest : (k : ℕ) → k < 256 → slice_index REST_LOGS k ≤ 2 ^ 48
small_rest k few = le _ _ (at is_small_rest 256 k small_rests few)

pub reciprocal_is : (k : ℕ) → k < 129 → slice_index RECIPROCALS k ≡ (2 ^ 48 * 128 + (127 + k)) / (128 + k)
reciprocal_is k few = let t = at rounded_up 129 k rounded few in grind (arith, nat_tests)
