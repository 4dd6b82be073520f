-- What is said of a database file that a call opened, worked on, and gave back.
use Rattle.std.specs.Prelude.{Result, IfErr}
use Rattle.sqlite_disk.specs.declared.Disk as disk
use Rattle.sqlite_disk.specs.declared.Files.{Files}
use Rattle.sqlite_wal.specs.Reads.{AreClean}
use Rattle.sqlite_wal.specs.Recovery.{Image}
use Rattle.sqlite_store.specs.declared.store.FileStore.{FileStore}
use Rattle.sqlite.specs.Files.{file_state, over_files}
use Rattle.sqlite.specs.Held.{Held}
use Rattle.sqlite.specs.State.{HasCleanDisk}
use Rattle.tenant_store.specs.table_schema.specs.Layout.{IsStoreSchema}
use Rattle.tenant_core.specs.States.{LeavesAsItWas, Outcomes, Same, States}
use Rattle.tenant_files.specs.Closed.{GivesBack}
use Rattle.tenant_files.specs.Closing.{FailsToCopy}
use Rattle.tenant_files.specs.Opened.{Finds}
use Rattle.tenant_files.specs.Stored.{MayStandFor}
use Rattle.tenant_files.specs.declared.fault.FileFault.{FileFault}
use Rattle.tenant_store.specs.tenant_tables.specs.Rows.{StandsFor, StatesIn}

-- the tenants are as before, also after a crash
pub record AreAsBefore (old new : States) (may_leave : Outcomes) : Type 0 where
  pub same : Same old new
  pub left : LeavesAsItWas old may_leave

-- From a store over a file, whose connection was `first`: `last` is the connection as it gave the
-- two files back, of which `Says` is said. What is said of states has the premise that the disk
-- returned what was written.
pub record UsesFiles {D : Type 0} (g : disk.Ghosts D) (first : Held (FileStore D g)) (copied : Result (Unit {0}) FileFault) (files : Files D) (IsDone : Type 0) (Says : Held (FileStore D g) → Type 0) : Type 0 where
  pub last : Held (FileStore D g)
  pub given : GivesBack last copied files
  pub was_clean : AreClean g files.log files.db → HasCleanDisk (file_state first)
  -- the rows at the beginning stood for the tenants in the file
  pub began : AreClean g files.log files.db → AreAsBefore (StandsFor (file_state first).now.trees) (StatesIn (file_state first).committed) (MayStandFor over_files first)
  -- once all is done, the file has this service's tables, and a log that wasn't copied has a cause
  pub tables : AreClean g files.log files.db → IsDone → IsStoreSchema (file_state last).committed.schema
  pub cause : IsDone → IfErr copied (FailsToCopy last files)
  pub says : Says last

-- From what the two files held: `was` is the database as the opening found it in them, and `last`
-- the connection as it gave them back. `Says` is said of the states of tenants in `was` and `last`,
-- and of what a crash may leave, where the disk returned what was written.
pub record UsesFile {D : Type 0} (g : disk.Ghosts D) (image : Image) (copied : Result (Unit {0}) FileFault) (files : Files D) (IsDone : Type 0) (Says : Type 0 → States → States → Outcomes → Type 0) : Type 0 where
  pub was : Held (FileStore D g)
  pub finds : Finds (AreClean g files.log files.db) image was
  pub last : Held (FileStore D g)
  pub given : GivesBack last copied files
  pub tables : AreClean g files.log files.db → IsDone → IsStoreSchema (file_state last).committed.schema
  pub cause : IsDone → IfErr copied (FailsToCopy last files)
  pub says : Says (AreClean g files.log files.db) (StatesIn (file_state was).committed) (StatesIn (file_state last).committed) (MayStandFor over_files last)
