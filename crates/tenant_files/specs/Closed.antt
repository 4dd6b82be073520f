-- What a connection to a database file gives back.
use Rattle.std.specs.Prelude.{◌≡◌, Result, Ok, Err}
use Rattle.sqlite_disk.specs.declared.Disk as disk
use Rattle.sqlite_disk.specs.declared.Files.{Files}
use Rattle.sqlite_store.specs.declared.store.FileStore.{FileStore}
use Rattle.sqlite_store.specs.FileStore as store
use Rattle.sqlite_wal.specs.Reads.{AreClean}
use Rattle.sqlite.specs.Closing.{IsCopied}
use Rattle.sqlite.specs.Files.{file_state, IsClosed}
use Rattle.sqlite.specs.Held.{Held}
use Rattle.sqlite.specs.State.{HasCleanDisk}
use Rattle.tenant_files.specs.declared.fault.FileFault.{FileFault}

-- The files are those of the connection's store. A crash now leaves no other database than a crash
-- of the connection might, and always one (`IsClosed`).
pub record IsLeft {D : Type 0} {g : disk.Ghosts D} (c : Held (FileStore D g)) (files : Files D) : Type 0 where
  pub last : FileStore D g
  pub is : store.files last ≡ (files.log, files.db)
  pub closed : IsClosed c last
  pub was_clean : AreClean g files.log files.db → HasCleanDisk (file_state c)

-- The connection's last commit is in the database file, where the disk returned what was written;
-- or it wasn't copied there, and the files are unchanged.
abbrev pub GivesBack : {D : Type 0} {g : disk.Ghosts D} → Held (FileStore D g) → Result (Unit {0}) FileFault → Files D → Type 0
GivesBack {g = g} c (Ok done) files = AreClean g files.log files.db → IsCopied c files
GivesBack c (Err fault) files = IsLeft c files
