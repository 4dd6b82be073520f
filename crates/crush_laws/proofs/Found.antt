-- What the next opening of two files finds.
use Rattle.std.proofs.Common.{◌≡◌}
use Rattle.std.proofs.Math.Logic.{∥∥₁_elim}
use Rattle.sqlite_disk.specs.declared.Disk.{Ghosts}
use Rattle.crush_server.specs.tenant_store.specs.table_schema.specs.sqlite_trees.specs.Props.{Trees-set}
use Rattle.crush_server.specs.tenant_store.specs.table_schema.specs.sqlite_trees.specs.Tree.{Trees}
use Rattle.crush_server.specs.tenant_files.specs.sqlite_wal.specs.Recovery.{Image}
use Rattle.crush_server.specs.tenant_files.specs.sqlite_store.specs.declared.store.FileStore.{FileStore}
use Rattle.crush_server.specs.sqlite.specs.Closing.{HoldsAlone}
use Rattle.crush_server.specs.sqlite.specs.Files.{file_state}
use Rattle.crush_server.specs.sqlite.specs.Held.{Held}
use Rattle.crush_server.specs.sqlite.specs.Start.{FindsIn}

pub found_again : {D : Type 0} {g : Ghosts D} (next : Held (FileStore D g)) (image : Image) (db : Trees) → HoldsAlone image db → FindsIn image (file_state next) → (file_state next).committed.trees ≡ db
found_again next image db holds found = ∥∥₁_elim holds.both (Trees-set (file_state next).committed.trees db) (λ is. found.holds db is)
