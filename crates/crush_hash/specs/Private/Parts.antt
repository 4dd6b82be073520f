-- Permutations whose pairs stand in one row.
use Rattle.std.specs.Prelude.{ℕ, ◌+◌, ◌<◌, ◌≤◌, ◌^◌, List, length, slice_range, All}
use Rattle.std.specs.List.{AllPairs}
use Rattle.crush_hash.specs.declared.perms.Slot.{Slot}
use Rattle.crush_hash.specs.Private.Pairs.{Pair}
use Rattle.crush_hash.specs.Private.Reached.{IsReached, IsEmpty, room_of}

-- the slot's pairs stand in its part of the row
pub record IsPart (s : Slot) (row : List Pair) : Type 0 where
  pub rises : s.start ≤ s.end
  pub within : s.end ≤ length row
  pub reached : IsReached s.reached (slice_range row s.start s.end)

-- each slot's part is before those of the later ones
abbrev pub AreApart : List Slot → Type 0
AreApart slots = AllPairs (λ s t. s.end ≤ t.start) slots

-- each slot has a part of the row for itself
pub record AreParts (slots : List Slot) (row : List Pair) : Type 0 where
  pub each : All (λ s. IsPart s row) slots
  pub apart : AreApart slots

-- each slot's part has room for the permutation of a bucket of this size
abbrev pub HaveRoom : ℕ → List Slot → Type 0
HaveRoom size slots = All (λ s. s.start + room_of size ≤ s.end) slots

-- no exchange is made in a slot, and its part, which has room for two pairs, ends at `end` at the
-- latest
pub record IsNew (end : ℕ) (s : Slot) : Type 0 where
  pub empty : IsEmpty s.reached
  pub small : s.reached.size < 2 ^ 32
  pub room : s.start + room_of s.reached.size ≤ s.end
  pub within : s.end ≤ end

-- each slot is new and has a part for itself before an end
pub record AreNew (slots : List Slot) (end : ℕ) : Type 0 where
  pub each : All (IsNew end) slots
  pub apart : AreApart slots
