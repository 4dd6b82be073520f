-- What the files that a connection gave back say of it.
use Rattle.std.proofs.Common.{◌≡◌, ◌∙◌, Bool, Result, Ok, Err, sym, subst, arith}
use Rattle.sqlite_disk.specs.declared.Disk as disk
use Rattle.sqlite_disk.specs.declared.Files.{Files}
use Rattle.sqlite_pool.proofs.StateLemmas.{clean_is}
use Rattle.sqlite_store.specs.declared.store.FileStore.{FileStore}
use Rattle.sqlite_store.specs.FileStore as store
use Rattle.tenant_store.specs.table_schema.specs.sqlite_trees.proofs.Doubt.{no_doubt}
use Rattle.tenant_store.specs.table_schema.specs.sqlite_trees.specs.View.{IsClean}
use Rattle.sqlite_wal.specs.Reads.{AreClean}
use Rattle.sqlite.specs.Files.{file_state, over_files, IsClosed}
use Rattle.sqlite.specs.Held.{Held}
use Rattle.sqlite.specs.State.{HasCleanDisk}
use Rattle.tenant_store.specs.Shown.{IsHonest}
use Rattle.tenant_files.specs.Closed.{GivesBack, IsLeft}
use Rattle.tenant_files.specs.declared.fault.FileFault.{FileFault}

-- where files return what was written, the store that has them did
pub clean_store : {D : Type 0} {g : disk.Ghosts D} (last : FileStore D g) (files : Files D) → store.files last ≡ (files.log, files.db) → AreClean g files.log files.db → IsClean (store.view last)
clean_store {D = D} {g = g} last files is clean =
    let sure : AreClean g (store.files last).0 (store.files last).1 = subst (λ (p : D × D). AreClean g p.0 p.1) (sym is) clean in
    no_doubt _ (clean_is last.pool ∙ sure)

-- where the files given back return what was written, the connection's did
pub clean_before : {D : Type 0} {g : disk.Ghosts D} (c : Held (FileStore D g)) (last : FileStore D g) (files : Files D) → store.files last ≡ (files.log, files.db) → IsClosed c last
    → AreClean g files.log files.db → HasCleanDisk (file_state c)
clean_before c last files is closed clean =
    let none : IsClean (store.view last) = clean_store last files is clean in
    omega (arith, closed.quiet.clean, none)

pub is_left : {D : Type 0} {g : disk.Ghosts D} (c : Held (FileStore D g)) (last : FileStore D g) (files : Files D) → store.files last ≡ (files.log, files.db) → IsClosed c last → IsLeft c files
is_left c last files is closed = record { last = last; is = is; closed = closed; was_clean = clean_before c last files is closed }

-- a store that gave its connection back was honest where the disk had returned what was written
pub honest_before : {D : Type 0} {g : disk.Ghosts D} (store : Held (FileStore D g) × Bool) (conn : Held (FileStore D g)) → conn ≡ store.0
    → (HasCleanDisk (file_state conn) → IsHonest over_files store) → HasCleanDisk (file_state store.0) → IsHonest over_files store
honest_before {D = D} {g = g} store conn same honest clean = honest (subst (λ (x : Held (FileStore D g)). HasCleanDisk (file_state x)) (sym same) clean)

-- however they were given back
pub given_clean : {D : Type 0} {g : disk.Ghosts D} (c : Held (FileStore D g)) (copied : Result (Unit {0}) FileFault) (files : Files D) → GivesBack c copied files → AreClean g files.log files.db
    → HasCleanDisk (file_state c)
given_clean c (Ok done) files given clean = (given clean).was_clean
given_clean c (Err fault) files given clean = given.was_clean clean
