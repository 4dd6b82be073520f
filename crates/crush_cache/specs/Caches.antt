-- What a cache knows: which contents are there, and their numbers.
use Rattle.std.specs.Prelude.{◌≡◌, ℕ, ◌+◌, ◌-◌, ◌<◌, ◌≤◌, List, length, slice_get, Some}
use Rattle.crush_pool.specs.Contents.{Content}

-- the contents that are there: the first has the number `first`, the next the next number
pub record Numbered : Type 0 where
  pub first : ℕ
  pub contents : List Content

-- the content with the number n is there, and is c
abbrev pub IsNumberOf : Numbered → ℕ → Content → Type 0
IsNumberOf k n c = (k.first ≤ n) × (slice_get k.contents (n - k.first) ≡ Some c)

-- the number n was given, and if its content is still there, it is c
abbrev pub WasNumberOf : Numbered → ℕ → Content → Type 0
WasNumberOf k n c = (n < k.first + length k.contents) × (k.first ≤ n → slice_get k.contents (n - k.first) ≡ Some c)

-- what was given stays given: no number becomes that of another content
abbrev pub KeepsNumbers : Numbered → Numbered → Type 0
KeepsNumbers old new = (n : ℕ) (c : Content) → WasNumberOf old n c → WasNumberOf new n c
