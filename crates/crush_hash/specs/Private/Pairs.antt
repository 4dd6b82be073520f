-- Pairs of a place and the number at it, in order of place: at each other place stands the place's
-- own number.
use Rattle.std.specs.Prelude.{◌≡◌, ℕ, ◌<◌, ◌≤◌, ◌+◌, ◌*◌, ◌^◌, Bool, slice_index, slice_index_or, length, ◌==◌, ◌&&◌, nat_lt, if◌then◌else◌, List, [], ◌∷◌, ◌++◌, take, drop}
use Rattle.std.specs.List.{prefix_len}
use Rattle.crush_hash.specs.Hash.{hash3}
use Rattle.crush_types.specs.declared.ItemId.{ItemId}
use Rattle.crush_hash.specs.Permutation.{word}

abbrev pub Pair : Type 0
Pair = ℕ × ℕ

-- what stands where there is no pair
abbrev pub no_pair : Pair
no_pair = (0, 0)

-- the places rise
abbrev pub IsRising : List Pair → Type 0
IsRising pairs =
    (i j : ℕ) → i < j → j < length pairs → (slice_index_or pairs i no_pair).0 < (slice_index_or pairs j no_pair).0

-- how many pairs are of lower places
abbrev pub index : List Pair → ℕ → ℕ
index pairs place = prefix_len (λ pair. nat_lt pair.0 place) pairs

-- whether the pair at an index is of a place
abbrev pub is_there : List Pair → ℕ → ℕ → Bool
is_there pairs at place = nat_lt at (length pairs) && ((slice_index_or pairs at no_pair).0 == place)

-- the number at a place, by the pairs from it on
abbrev pub first_at : List Pair → ℕ → ℕ
first_at [] place = place
first_at (pair ∷ rest) place = if pair.0 == place then pair.1 else place

-- the number at a place
abbrev pub member_at : List Pair → ℕ → ℕ
member_at pairs place = first_at (drop (index pairs place) pairs) place

-- the pairs but for that of a place, of those from it on
abbrev pub others : List Pair → ℕ → List Pair
others [] place = []
others (pair ∷ rest) place = if pair.0 == place then rest else pair ∷ rest

-- the pair of a place, none where its own number stands there
abbrev pub pair_of : ℕ → ℕ → List Pair
pair_of place member = if member == place then [] else (place, member) ∷ []

-- the pairs after a number was put at a place
abbrev pub put : List Pair → ℕ → ℕ → List Pair
put pairs place member =
    take (index pairs place) pairs ++ (pair_of place member ++ others (drop (index pairs place) pairs) place)

-- the pairs after two places changed contents
abbrev pub exchanged : List Pair → ℕ → ℕ → List Pair
exchanged pairs low high = put (put pairs high (member_at pairs low)) low (member_at pairs high)

-- the pairs from an index on stand further to the right: those below `to` by `up`, the others by
-- `more` too
pub record IsMovedRight (before after : List Pair) (at to len up more : ℕ) : Type 0 where
  pub size : length after ≡ length before
  pub first : (k : ℕ) → k < at → slice_index_or after k no_pair ≡ slice_index_or before k no_pair
  pub lower : (k : ℕ) → at ≤ k → k < len → k < to → slice_index_or after (k + up) no_pair ≡ slice_index_or before k no_pair
  pub higher : (k : ℕ) → at ≤ k → k < len → to ≤ k → slice_index_or after (k + up + more) no_pair ≡ slice_index_or before k no_pair

-- the hashes of four places from 4 * block on, where the places are words
abbrev pub AreHashes : ItemId → ℕ → ℕ → List ℕ → Type 0
AreHashes id x block hashes = (n : ℕ) → n < 4 → 4 * block + n < 2 ^ 32 → slice_index hashes n ≡ hash3 x (word id) (4 * block + n)
