-- The first success in a sequence of tries.
use Rattle.std.specs.Prelude.{ℕ, zero, suc, Option, Some, None}

-- the first value if there is one, else the second
abbrev pub or_else : {A : Type 0} → Option A → Option A → Option A
or_else None other = other
or_else (Some a) other = Some a

-- the value of the first of the tries 0, 1, .. below n that has one, or none if none of them has
-- one
abbrev pub least : {A : Type 0} → (ℕ → Option A) → ℕ → Option A
least tries zero = None
least tries (suc n) = or_else (least tries n) (tries n)
