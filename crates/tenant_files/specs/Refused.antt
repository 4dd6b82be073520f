-- What an opening that was refused leaves of the two files.
use Rattle.std.specs.Prelude.{◌≡◌, ◌⊎◌}
use Rattle.sqlite_disk.specs.declared.Disk as disk
use Rattle.sqlite_disk.specs.declared.Files.{Files}
use Rattle.sqlite_wal.specs.Files.{outcomes}
use Rattle.sqlite_wal.specs.Reads.{AreClean}
use Rattle.sqlite_wal.specs.Recovery.{Image}
use Rattle.sqlite_store.specs.declared.store.FileStore.{FileStore}
use Rattle.sqlite_store.specs.FileStore as store
use Rattle.tenant_store.specs.table_schema.specs.sqlite_trees.specs.Tree.{Trees}
use Rattle.sqlite.specs.Closing.{files_left}
use Rattle.sqlite.specs.Files.{file_state, image_of, LeavesFiles}
use Rattle.sqlite.specs.Held.{Held}
use Rattle.sqlite.specs.declared.file.Leftover.{Leftover}
use Rattle.tenant_core.specs.States.{Same}
use Rattle.tenant_files.specs.Opened.{Finds}
use Rattle.tenant_store.specs.tenant_tables.specs.Rows.{StandsFor, StatesIn}

-- The database refused the files: `first` are the files as they were opened, which held what they
-- hold after a crash too, and `rest` is what the opening left of them. The toolchain says of it
-- (`LeavesFiles`) that a crash leaves what the files held, or an empty database where they held
-- none.
pub record IsUnread {D : Type 0} (g : disk.Ghosts D) (image : Image) (files : Files D) : Type 0 where
  pub first : Files D
  pub held : image_of g first ≡ image
  pub whole : (now : Image) → outcomes g first.log first.db now → (now.log ≡ image.log) × (now.db ≡ image.db)
  pub rest : Leftover D g
  pub is : files_left rest ≡ (files.log, files.db)
  pub leaves : AreClean g files.log files.db → LeavesFiles first rest

-- The database was opened, and isn't used: `was` is the connection as the opening found the files,
-- and `last` the store below it. A crash now leaves the rows that the files held, or rows of this
-- service's tables, for the same tenants.
pub record IsUnused {D : Type 0} (g : disk.Ghosts D) (image : Image) (files : Files D) : Type 0 where
  pub was : Held (FileStore D g)
  pub finds : Finds (AreClean g files.log files.db) image was
  pub last : FileStore D g
  pub is : store.files last ≡ (files.log, files.db)
  pub left : AreClean g files.log files.db → (rows : Trees) → store.recovers last rows
      → (rows ≡ (file_state was).committed.trees) ⊎ Same (StatesIn (file_state was).committed) (StandsFor rows)

-- The files, which held `image`, weren't used.
abbrev pub IsRefused : {D : Type 0} → disk.Ghosts D → Image → Files D → Type 0
IsRefused g image files = IsUnread g image files ⊎ IsUnused g image files
