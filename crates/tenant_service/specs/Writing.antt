-- Bytes that were written, and the body of a reply as it is written.
use Rattle.std.specs.Prelude.{ℕ, ◌≡◌, ◌<◌, List, [], ◌∷◌, ◌++◌, length, Option, codes}
use Rattle.std.specs.Io.KnownBytes.{Appends}

-- of these bytes all but the rest were written
pub record AppendsUpTo (rest : List ℕ) (old new : Option (List ℕ)) (bytes : List ℕ) : Type 0 where
  pub front : List ℕ
  pub all : front ++ rest ≡ bytes
  pub written : Appends old new front

-- the bytes were written, all but a rest that isn't empty
pub record AppendsPart (old new : Option (List ℕ)) (bytes : List ℕ) : Type 0 where
  pub rest : List ℕ
  pub some : 0 < length rest
  pub front : AppendsUpTo rest old new bytes

-- the body as it is written. A reply for a failed allocation has an empty body, for which its text
-- is written
abbrev pub shown_body : List ℕ → List ℕ
shown_body [] = codes "{\"error\":\"no_memory\"}"
shown_body (b ∷ body) = b ∷ body
