-- Clauses about an input, and the bytes that a reader of it still has.
use Rattle.std.specs.Prelude.{ℕ, ◌≡◌, List, drop, Option, IfSome, option_map}
use Rattle.std.specs.Io.KnownBytes.{Keeps}

-- `Holds` is true of an input, which is what the reader had, where its bytes are known
pub record OfInput (bytes : Option (List ℕ)) (Holds : List ℕ → Type 0) : Type 0 where
  pub input : List ℕ
  pub same : IfSome bytes (λ known. input ≡ known)
  pub holds : Holds input

-- a reader whose bytes are known has the bytes of before without the first `count`
abbrev pub DropsFirst : ℕ → Option (List ℕ) → Option (List ℕ) → Type 0
DropsFirst count old new = Keeps (option_map (drop count) old) new
