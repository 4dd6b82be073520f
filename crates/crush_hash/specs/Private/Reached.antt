-- How far a scratch has made a permutation, and the pairs that it has stored.
use Rattle.std.specs.Prelude.{◌≡◌, ℕ, ◌-◌, ◌<◌, ◌≤◌, ◌^◌, true, false, ◌==◌, if◌then◌else◌, List, length, take, min, max}
use Rattle.crush_hash.specs.declared.reached.Progress.{Progress}
use Rattle.crush_hash.specs.Permutation.{Remembered, after_swaps, differing, partner}
use Rattle.crush_hash.specs.Private.Pairs.{Pair}

-- how many exchanges are made: one at the most where none is written to the row
abbrev pub swaps_of : Progress → ℕ
swaps_of r = if r.written then r.swaps else min 1 (r.size - 1)

abbrev pub remembered_by : Progress → Remembered
remembered_by r = record { of = record { id = r.hashes; size = r.size }; x = r.x; swaps = swaps_of r }

-- how many pairs there are, written or not
abbrev pub len_by : Progress → ℕ
len_by r = if r.written then r.len else (if r.first == 0 then 0 else 2)

-- where no exchange is written the partner of the first is known
abbrev pub IsKnown : Progress → Type 0
IsKnown r = r.written ≡ false → (r.first ≡ partner r.hashes r.size r.x 0) × (0 < r.size)

-- a row has room for the pairs, and those at its front are of the places that differ from the
-- identity, unless they aren't written yet
pub record IsReached (r : Progress) (row : List Pair) : Type 0 where
  pub pairs : r.written ≡ true → take r.len row ≡ differing 0 (after_swaps r.hashes r.size r.x (swaps_of r))
  pub known : IsKnown r
  pub len : r.len ≤ length row
  pub made : swaps_of r ≤ r.size
  pub room : r.size ≤ length row
  pub two : 2 ≤ length row
  pub small : r.size < 2 ^ 32

-- no exchange is made
pub record IsEmpty (r : Progress) : Type 0 where
  pub len : r.len ≡ 0
  pub swaps : r.swaps ≡ 0
  pub written : r.written ≡ true

-- how long the row of a permutation is: the first exchange is written to two places in any case
abbrev pub room_of : ℕ → ℕ
room_of size = max size 2
