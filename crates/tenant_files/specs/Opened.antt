-- What the opening of a database file found there.
use Rattle.sqlite_disk.specs.declared.Disk as disk
use Rattle.sqlite_wal.specs.Recovery.{Image}
use Rattle.sqlite_store.specs.declared.store.FileStore.{FileStore}
use Rattle.sqlite.specs.Files.{file_state, IsOpened}
use Rattle.sqlite.specs.Held.{Held}
use Rattle.sqlite.specs.Start.{FindsIn}
use Rattle.tenant_core.specs.States.{States, Same}
use Rattle.tenant_store.specs.tenant_tables.specs.Rows.{StatesIn}

-- `was` is the database as an opening found it in the two files, if the disk returned what was
-- written (`Clean`)
pub record Finds {D : Type 0} {g : disk.Ghosts D} (Clean : Type 0) (image : Image) (was : Held (FileStore D g)) : Type 0 where
  pub opened : Clean → IsOpened was
  pub found : Clean → FindsIn image (file_state was)

-- an opening found a database, and its tenants have the states `states`
pub record IsFound {D : Type 0} (g : disk.Ghosts D) (Clean : Type 0) (image : Image) (states : States) : Type 0 where
  pub was : Held (FileStore D g)
  pub finds : Finds Clean image was
  pub same : Clean → Same states (StatesIn (file_state was).committed)
