-- Bounds of walks.
use Rattle.std.specs.Prelude.{ℕ, ◌<◌, ◌≤◌, ◌^◌}
use Rattle.crush_choose.specs.declared.walk.WalkEnd.{WalkEnd}
use Rattle.crush_choose.specs.declared.walk.Attempts.{Attempts}
use Rattle.crush_choose.specs.declared.walk.WalkEnd.TheVariants.{Empty, Wrong, Found}
use Rattle.crush_map.specs.declared.limits.TheConstants.{TRIES_LIMIT, COUNT_LIMIT}

-- the attempts of a walk are in range
pub record AreAttempts (attempts : Attempts) : Type 0 where
  pub start : attempts.start < 2 ^ 31
  pub some_reps : 1 ≤ attempts.numrep
  pub few_reps : attempts.numrep ≤ COUNT_LIMIT
  pub soon : attempts.round ≤ TRIES_LIMIT

-- a walk that found an item found it by an attempt up to this bound
abbrev pub IsUpTo : ℕ → WalkEnd → Type 0
IsUpTo high Empty = Unit {0}
IsUpTo high Wrong = Unit {0}
IsUpTo high (Found item r) = r ≤ high
