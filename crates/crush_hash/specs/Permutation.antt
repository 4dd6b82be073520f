-- The permutation of a uniform bucket's places (`bucket_perm_choose` of Ceph's `mapper.c`).
use Rattle.std.specs.Prelude.{ℕ, pos, zero, suc, ◌+◌, ◌-◌, ◌%◌, ◌==◌, if◌then◌else◌, min, max, List, [], ◌∷◌, length}
use Rattle.std.specs.Int.{cast_unsigned, w32}
use Rattle.std.specs.List.{range_with_len, swap}
use Rattle.crush_hash.specs.Hash.{hash3}
use Rattle.crush_types.specs.declared.ItemId.{ItemId}

-- the word by which an id enters a hash: its two's complement
abbrev pub word : ItemId → ℕ
word item = cast_unsigned w32 item.0

-- what stands where there is no id
abbrev pub no_id : ItemId
no_id = record { 0 = pos 0 }

-- what a permutation is of: the id of a bucket and its number of items
pub record PermView : Type 0 where
  pub id : ItemId
  pub size : ℕ

-- the place with which place p changes contents: p + (hash3(x, id, p) mod (size - p))
abbrev pub partner : ItemId → ℕ → ℕ → ℕ → ℕ
partner id size x place = place + hash3 x (word id) place % (size - place)

-- 0, 1, .. below size, after places 0, 1, .. below n in turn changed contents with their partners
abbrev pub after_swaps : ItemId → ℕ → ℕ → ℕ → List ℕ
after_swaps id size x zero = range_with_len 0 size
after_swaps id size x (suc n) = swap (after_swaps id size x n) n (partner id size x n)

-- the permutation of 0, 1, .. below size for an input x: all places but the last changed contents
-- in turn
unfoldable pub permutation : ItemId → ℕ → ℕ → List ℕ
permutation id size x = after_swaps id size x (size - 1)

-- ---- what a scratch remembers

-- the permutation it is of, the input that was asked last, and how many exchanges were made for
-- that
pub record Remembered : Type 0 where
  pub of : PermView
  pub x : ℕ
  pub swaps : ℕ

-- what is remembered after a question for an input at a place: exchanges as many as the place
-- needs, and for the same input no fewer than before
abbrev pub asked : Remembered → ℕ → ℕ → Remembered
asked m x place = record m { x = x; swaps = max (if m.x == x then m.swaps else 0) (min (place + 1) (m.of.size - 1)) }

-- the places of a list, numbered from one on, at which another number stands, each with that number
abbrev pub differing : ℕ → List ℕ → List (ℕ × ℕ)
differing place [] = []
differing place (member ∷ rest) =
    if member == place then differing (place + 1) rest else (place, member) ∷ differing (place + 1) rest

-- at how many places the list of what is remembered differs from 0, 1, ..
abbrev pub kept : Remembered → ℕ
kept m = length (differing 0 (after_swaps m.of.id m.of.size m.x m.swaps))
