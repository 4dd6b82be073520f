-- An input that is read up to a limit.
use Rattle.std.specs.Prelude.{ℕ, ◌≤◌, ◌<◌, List, length, Option}
use Rattle.std.specs.Io.KnownBytes.{Consumes, IsAtEnd}

-- the bytes were taken from the reader: `most`, or fewer where it was at its end
pub record IsReadUpTo (most : ℕ) (bytes : List ℕ) (old new : Option (List ℕ)) : Type 0 where
  pub few : length bytes ≤ most
  pub taken : Consumes old new bytes
  pub end : length bytes < most → IsAtEnd new
