-- Why a database file isn't closed.
use Rattle.std.specs.Prelude.{◌≡◌, ◌↔◌}
use Rattle.sqlite_disk.specs.declared.Disk as disk
use Rattle.sqlite_disk.specs.declared.Files.{Files}
use Rattle.sqlite_store.specs.declared.store.FileStore.{FileStore}
use Rattle.sqlite_store.specs.FileStore as store
use Rattle.tenant_store.specs.table_schema.specs.sqlite_trees.specs.View.{IsClean}
use Rattle.sqlite.specs.Files.{FailsToClose}
use Rattle.sqlite.specs.Held.{Held}
use Rattle.sqlite.specs.declared.error.Error.{Error}
use Rattle.sqlite.specs.declared.error.Error.TheVariants.{SqliteFailure}
use Rattle.sqlite.specs.declared.error.ErrorCode.TheVariants.{OutOfMemory}
use Rattle.tenant_files.specs.declared.fault.FileFault.{FileFault}
use Rattle.tenant_files.specs.declared.fault.FileFault.TheVariants.{NoMemory}

-- the log of the connection's file wasn't copied, since the close failed, where the disk returned
-- what was written, for a cause that the connection had
abbrev pub FailsToCopy : {D : Type 0} {g : disk.Ghosts D} → Held (FileStore D g) → Files D → FileFault → Type 0
FailsToCopy {D = D} {g = g} c files fault =
    (last : FileStore D g) × (error : Error) × (store.files last ≡ (files.log, files.db)) × (IsClean (store.view last) → FailsToClose c last error)
    × (fault ≡ NoMemory ↔ error ≡ SqliteFailure OutOfMemory)
