-- What comes to a place of a permutation, followed back through the exchanges.
use Rattle.std.specs.Prelude.{◌≡◌, ℕ, ◌<◌, ◌==◌, if◌then◌else◌, slice_index}
use Rattle.crush_types.specs.declared.ItemId.{ItemId}
use Rattle.crush_hash.specs.Permutation.{after_swaps, permutation}

-- where the contents of a place stood before two places changed contents
abbrev pub place_before : ℕ → ℕ → ℕ → ℕ
place_before at n other = if at == n then other else (if at == other then n else at)

-- what stands at the place `at` after n exchanges comes to the place `place` in the end
pub record ComesTo (id : ItemId) (size x place n at : ℕ) : Type 0 where
  pub within : at < size
  pub comes : slice_index (after_swaps id size x n) at ≡ slice_index (permutation id size x) place
