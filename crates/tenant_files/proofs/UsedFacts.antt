-- A database file that a call opened, worked on, and gave back.
use Rattle.std.proofs.Common.{◌≡◌, ℕ, List, Bool, false, IfErr, Option, Result, subst, sym}
use Rattle.sqlite_disk.specs.declared.Disk as disk
use Rattle.sqlite_disk.specs.declared.Files.{Files}
use Rattle.sqlite_wal.proofs.LogLemmas.{SeenMayStay}
use Rattle.sqlite_wal.specs.Reads.{AreClean}
use Rattle.sqlite_wal.specs.Recovery.{Image}
use Rattle.sqlite_store.specs.Laws.{settled_at}
use Rattle.sqlite_store.specs.declared.store.FileStore.{FileStore}
use Rattle.tenant_store.specs.table_schema.specs.sqlite_trees.specs.Tree.{Trees}
use Rattle.sqlite.specs.Effect.{Database}
use Rattle.sqlite.specs.Files.{file_state, over_files}
use Rattle.sqlite.specs.Held.{Held}
use Rattle.sqlite.specs.State.{HasCleanDisk}
use Rattle.tenant_store.specs.table_schema.specs.Layout.{IsStoreSchema}
use Rattle.tenant_store.specs.table_schema.specs.Ready.{IsReady}
use Rattle.tenant_core.specs.States.{Damaged, Found, HasState, Outcomes, Same, Shows, States}
use Rattle.tenant_store.specs.tenant_tables.specs.Rows.{StandsFor, StatesIn}
use Rattle.tenant_store.specs.Laws.{left_alone}
use Rattle.tenant_store.specs.Shown.{IsHonest}
use Rattle.tenant_files.proofs.ClosedFacts.{given_clean}
use Rattle.tenant_files.proofs.StoredFacts.{damaged_too, left_states, turned}
use Rattle.tenant_files.specs.Closed.{GivesBack}
use Rattle.tenant_files.specs.Closing.{FailsToCopy}
use Rattle.tenant_files.specs.Opened.{IsFound}
use Rattle.tenant_files.specs.Stored.{MayStandFor}
use Rattle.tenant_files.specs.Used.{AreAsBefore, UsesFile, UsesFiles}
use Rattle.tenant_files.specs.declared.fault.FileFault.{FileFault}

-- ---- as before

shows_same : (a b : States) (t : List ℕ) (found : Found) → Same a b → Shows a t found → Shows b t found
shows_same a b t Damaged same shows = damaged_too b a (turned a b same) t shows
shows_same a b t (HasState s) same shows = (same t s).0 shows

-- for states that are the same
as_before_too : (rows old new : States) (may_leave : Outcomes) → Same rows old → AreAsBefore rows new may_leave → AreAsBefore old new may_leave
as_before_too rows old new may_leave same are = record {
  same = λ t s. (λ has. (are.same t s).0 ((same t s).1 has), λ has. (same t s).0 ((are.same t s).1 has));
  left = λ t found there. shows_same rows old t found same (are.left t found there);
}

module _ {D : Type 0} {g : disk.Ghosts D} where
  -- ---- rows between calls

  -- they are what the file holds
  pub held : (conn : Held (FileStore D g)) → IsReady (file_state conn) → Same (StandsFor (file_state conn).now.trees) (StatesIn (file_state conn).committed)
  held conn ready = subst (λ (db : Database). Same (StandsFor (file_state conn).now.trees) (StatesIn db)) ready.settled (left_states (file_state conn).now ready.schema)

  -- and so does a crash leave them
  at_rest : SeenMayStay g → (store : Held (FileStore D g) × Bool) → IsReady (file_state store.0)
      → AreAsBefore (StandsFor (file_state store.0).now.trees) (StatesIn (file_state store.0).committed) (MayStandFor over_files store.0)
  at_rest stays store ready = record {
    same = held store.0 ready;
    left = λ t found there. subst (λ (db : Trees). Shows (StandsFor db) t found) (left_alone over_files (λ s db is_open may. settled_at s stays db is_open may) store ready there.0 there.1) there.2;
  }

  -- ---- a file that was used

  -- by a store that worked at first
  pub uses_files : SeenMayStay g → (store : Held (FileStore D g) × Bool) (last : Held (FileStore D g)) (copied : Result (Unit {0}) FileFault) (files : Files D) (IsDone : Type 0)
      (Says : Held (FileStore D g) → Type 0) → store.1 ≡ false → GivesBack last copied files → (HasCleanDisk (file_state last) → IsHonest over_files store)
      → (HasCleanDisk (file_state last) → IsDone → IsReady (file_state last)) → (IsDone → IfErr copied (FailsToCopy last files)) → Says last → UsesFiles g store.0 copied files IsDone Says
  uses_files stays store last copied files IsDone Says works given honest ready cause says = record {
    last = last;
    given = given;
    was_clean = λ clean. (honest (given_clean last copied files given clean)).clean;
    began = λ clean. at_rest stays store ((honest (given_clean last copied files given clean)).ready works);
    tables = λ clean done.
        let r = ready (given_clean last copied files given clean) done in
        subst (λ (db : Database). IsStoreSchema db.schema) r.settled r.schema;
    cause = cause;
    says = says;
  }

  -- with the opening
  pub uses_file : (image : Image) (first : Held (FileStore D g)) (copied : Result (Unit {0}) FileFault) (files : Files D) (IsDone : Type 0) (Said : Held (FileStore D g) → Type 0)
      (Says : Type 0 → States → States → Outcomes → Type 0) → IsFound g (HasCleanDisk (file_state first)) image (StandsFor (file_state first).now.trees)
      → UsesFiles g first copied files IsDone Said
      → ((last : Held (FileStore D g)) (old : States) → (AreClean g files.log files.db → Same (StandsFor (file_state first).now.trees) old)
      → (last ≡ first → AreClean g files.log files.db → AreAsBefore old (StatesIn (file_state last).committed) (MayStandFor over_files last)) → Said last
      → Says (AreClean g files.log files.db) old (StatesIn (file_state last).committed) (MayStandFor over_files last)) → UsesFile g image copied files IsDone Says
  uses_file image first copied files IsDone Said Says opening uses follows =
      let rows = StandsFor (file_state first).now.trees in
      let old = StatesIn (file_state opening.was).committed in
      let same : AreClean g files.log files.db → Same rows old = λ clean. opening.same (uses.was_clean clean) in record {
        was = opening.was;
        finds = record { opened = λ clean. opening.finds.opened (uses.was_clean clean); found = λ clean. opening.finds.found (uses.was_clean clean) };
        last = uses.last;
        given = uses.given;
        tables = uses.tables;
        cause = uses.cause;
        says =
            follows uses.last old same
            (λ is clean. subst (λ (x : Held (FileStore D g)). AreAsBefore old (StatesIn (file_state x).committed) (MayStandFor over_files x)) (sym is)
            (as_before_too rows old (StatesIn (file_state first).committed) (MayStandFor over_files first) (same clean) (uses.began clean)))
            uses.says;
      }
