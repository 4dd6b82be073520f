-- How a read leaves the connection.
use Rattle.std.specs.Prelude.{◌≡◌, ◌≢◌, false, Result, Err}
use Rattle.sqlite_disk.specs.Disk.{MoreFaults}
use Rattle.sqlite.specs.Held.{Held, state}
use Rattle.sqlite.specs.State.{HasCleanDisk, Survives}
use Rattle.sqlite.specs.Store.{Ghosts}
use Rattle.table_schema.specs.Ready.{Remains}
use Rattle.table_schema.specs.declared.fault.ReadFault.{ReadFault}
use Rattle.table_schema.specs.declared.fault.ReadFault.TheVariants.{Unseen, Failed}

-- The connection remains ready, with the same rows, unless the read failed, or may have. A read
-- failed by a fault of the disk alone. None commits anything, or begins a transaction.
pub record Reads {S A : Type 0} (g : Ghosts S) (result : Result A ReadFault) (old new : Held S) : Type 0 where
  pub remains : HasCleanDisk (state g new) → result ≢ Err Unseen → result ≢ Err Failed → Remains (state g old) (state g new)
  pub failed : HasCleanDisk (state g new) → result ≡ Err Failed → MoreFaults (state g old).faults (state g new).faults
  pub survives : Survives (state g old) (state g new) (λ _. ⊥)
  pub ended : new.in_transaction ≡ false
