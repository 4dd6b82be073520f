-- Why a statement was refused, and what is known of the connection then.
use Rattle.std.specs.Prelude.{◌≡◌, ◌≢◌, ◌⊎◌, ◌↔◌, false}
use Rattle.sqlite_disk.specs.Disk.{MoreFaults}
use Rattle.sqlite.specs.State.{State as Shown}
use Rattle.sqlite.specs.declared.error.Error.{Error}
use Rattle.sqlite.specs.declared.error.Error.TheVariants.{SqliteFailure}
use Rattle.sqlite.specs.declared.error.ErrorCode.TheVariants.{OutOfMemory, DiskFull, NoRowid}
use Rattle.tenant_messages.specs.declared.StoreFault.{StoreFault}
use Rattle.tenant_messages.specs.declared.StoreFault.TheVariants.{NoMemory, Full, Damaged}

-- An allocation failed.
abbrev pub IsMemory : Error → Type 0
IsMemory error = error ≡ SqliteFailure OutOfMemory

-- The disk is full, or the numbers of rows are used up.
abbrev pub IsFull : Error → Type 0
IsFull error = (error ≡ SqliteFailure DiskFull) ⊎ (error ≡ SqliteFailure NoRowid)

-- The fault is reported for the error: each of these two for its errors alone.
pub record Reports (error : Error) (fault : StoreFault) : Type 0 where
  pub memory : fault ≡ NoMemory ↔ IsMemory error
  pub full : fault ≡ Full ↔ IsFull error
  pub rows : fault ≢ Damaged

-- The connection was shut, or the disk failed or refused meanwhile.
abbrev pub IsLost : Shown → Shown → Type 0
IsLost old new = (old.is_open ≡ false) ⊎ MoreFaults old.faults new.faults
