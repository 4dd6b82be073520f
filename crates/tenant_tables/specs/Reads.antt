-- How a read leaves the tables.
use Rattle.std.specs.Prelude.{◌≡◌, ◌≢◌, ◌↔◌, Bool, true, false, Result, Err}
use Rattle.sqlite.specs.Held.{Held, state}
use Rattle.sqlite.specs.State.{HasCleanDisk, Survives}
use Rattle.sqlite.specs.Store.{Ghosts}
use Rattle.tenant_messages.specs.declared.StoreFault.{StoreFault}
use Rattle.tenant_messages.specs.declared.StoreFault.TheVariants.{Full, Failed}

-- The call changes no row, and commits nothing. It latches the tables exactly where it failed for
-- good, and a full disk is no fault of it.
pub record ChangesNoRow {S A : Type 0} (g : Ghosts S) (result : Result A StoreFault) (old new : Held S × Bool) : Type 0 where
  pub full : result ≢ Err Full
  pub kept : HasCleanDisk (state g new.0) → new.1 ≡ false → (state g new.0).now ≡ (state g old.0).now
  pub latches : new.1 ≡ true ↔ result ≡ Err Failed
  pub crash : Survives (state g old.0) (state g new.0) (λ _. ⊥)
