-- What an opening that was refused left of the two files.
use Rattle.std.proofs.Common.{◌≡◌, ◌⊎◌, ◌∙◌, ℕ, List, [], ◌∷◌, Bool, true, false, Option, Some, None, IfSome, cond, inl, inr, sym, subst}
use Rattle.sqlite_disk.specs.Events.{Event, replay, settled}
use Rattle.sqlite_disk.specs.History.{MayLeave}
use Rattle.sqlite_disk.specs.declared.Disk as disk
use Rattle.sqlite_disk.specs.declared.Files.{Files}
use Rattle.sqlite_pool.proofs.StateLemmas.{clean_is}
use Rattle.sqlite_wal.proofs.LogLemmas.{SeenMayStay}
use Rattle.sqlite_wal.specs.Files.{outcomes}
use Rattle.sqlite_wal.specs.Reads.{AreClean}
use Rattle.sqlite_wal.specs.Recovery.{Image}
use Rattle.sqlite_store.specs.FileStore as store
use Rattle.sqlite_store.specs.Laws.{settled_at}
use Rattle.sqlite_store.specs.declared.store.FileStore.{FileStore}
use Rattle.tenant_store.specs.table_schema.specs.sqlite_trees.specs.Tree.{Trees}
use Rattle.tenant_store.specs.table_schema.specs.sqlite_trees.specs.View.{IsClean}
use Rattle.sqlite.specs.Closing.{files_left}
use Rattle.sqlite.specs.Effect.{Database}
use Rattle.sqlite.specs.Files.{file_state, image_of, over_files, IsCleanLeft, IsOpened, LeavesFiles}
use Rattle.sqlite.specs.Held.{Held}
use Rattle.sqlite.specs.Start.{FindsIn}
use Rattle.sqlite.specs.State.{HasCleanDisk}
use Rattle.sqlite.specs.declared.file.Leftover.{Leftover}
use Rattle.sqlite.specs.declared.file.Leftover.TheVariants as left
use Rattle.tenant_core.specs.States.{Same}
use Rattle.tenant_store.specs.tenant_tables.specs.Rows.{StandsFor, StatesIn}
use Rattle.tenant_store.specs.Laws.{left_alone}
use Rattle.tenant_store.specs.Replaced.{Replaces}
use Rattle.tenant_store.specs.Shown.{IsHonest}
use Rattle.tenant_files.proofs.ClosedFacts.{clean_store}
use Rattle.tenant_files.proofs.StoredFacts.{turned}
use Rattle.tenant_files.specs.Closed.{IsLeft}
use Rattle.tenant_files.specs.Opened.{IsFound}
use Rattle.tenant_files.specs.Refused.{IsRefused, IsUnread, IsUnused}

-- ---- a file that was just opened

module _ (mixes : Bool) (log db : List ℕ) where
  abbrev Leaves : Bool → List Event → List ℕ → Type 0
  Leaves is_log history c =
      MayLeave mixes (replay (cond is_log log db) history).seen (replay (cond is_log log db) history).synced (replay (cond is_log log db) history).steps c

  either : (c start : List ℕ) → (c ≡ start) ⊎ (c ≡ start) → c ≡ start
  either c start (inl is) = is
  either c start (inr is) = is

  -- a crash leaves of a log what it held
  pub of_log : (is_log : Bool) (key : ℕ) (history : List Event) (c : List ℕ) → is_log ≡ true → history ≡ settled key ∷ [] → Leaves is_log history c → c ≡ log
  of_log is_log key history c which fresh there =
      either c log (subst (λ (h : List Event). Leaves true h c) fresh (subst (λ (b : Bool). Leaves b history c) which there))

  -- and of a database file
  pub of_db : (is_log : Bool) (key : ℕ) (history : List Event) (c : List ℕ) → is_log ≡ false → history ≡ settled key ∷ [] → Leaves is_log history c → c ≡ db
  of_db is_log key history c which fresh there =
      either c db (subst (λ (h : List Event). Leaves false h c) fresh (subst (λ (b : Bool). Leaves b history c) which there))

module _ {D : Type 0} {g : disk.Ghosts D} where
  -- ---- the database refused the files

  -- where the files return what was written, what is left of the opening did
  clean_left : (rest : Leftover D g) (files : Files D) → files_left rest ≡ (files.log, files.db) → AreClean g files.log files.db → IsCleanLeft rest
  clean_left (left.Files now) files is clean = subst (λ (p : D × D). AreClean g p.0 p.1) (sym is) clean
  clean_left (left.Unopened now) files is clean =
      let sure : AreClean g (files_left (left.Unopened now)).0 (files_left (left.Unopened now)).1 = subst (λ (p : D × D). AreClean g p.0 p.1) (sym is) clean in
      clean_is now.pool ∙ sure
  clean_left (left.Store it) files is clean =
      let sure : AreClean g (files_left (left.Store it)).0 (files_left (left.Store it)).1 = subst (λ (p : D × D). AreClean g p.0 p.1) (sym is) clean in
      clean_is it.pool ∙ sure

  pub unread : (image : Image) (files : Files D) (rest : Leftover D g) (first : Files D) → files_left rest ≡ (files.log, files.db) → image_of g first ≡ image
      → ((now : Image) → outcomes g first.log first.db now → (now.log ≡ image.log) × (now.db ≡ image.db)) → (IsCleanLeft rest → LeavesFiles first rest) → IsUnread g image files
  unread image files rest first is held whole leaves =
      record { first = first; held = held; whole = whole; rest = rest; is = is; leaves = λ clean. leaves (clean_left rest files is clean) }

  -- whether the files are given back or not
  pub all_unread : (image : Image) (rest : Option (Leftover D g)) (given : Option (Files D)) → IfSome given (λ files. (it : Leftover D g) × (rest ≡ Some it) × (files_left it ≡ (files.log, files.db)))
      → ((it : Leftover D g) (files : Files D) → rest ≡ Some it → files_left it ≡ (files.log, files.db) → IsUnread g image files) → IfSome given (IsRefused g image)
  all_unread image rest None is follows = tt
  all_unread image rest (Some files) is follows = inl (follows is.0 files is.1 is.2)

  -- ---- the database was opened, and isn't used

  -- the tables were refused
  pub unused : (image : Image) (conn : Held (FileStore D g)) (last : FileStore D g) (files : Files D) → store.files last ≡ (files.log, files.db)
      → (HasCleanDisk (file_state conn) → IsOpened conn) → (HasCleanDisk (file_state conn) → FindsIn image (file_state conn)) → (IsClean (store.view last) → HasCleanDisk (file_state conn))
      → (IsClean (store.view last) → (rows : Trees) → store.recovers last rows → (file_state conn).may_leave rows ⊎ Replaces (file_state conn).now rows) → SeenMayStay g → IsUnused g image files
  unused image conn last files is opened found was_clean crash stays =
      let before : AreClean g files.log files.db → HasCleanDisk (file_state conn) = λ clean. was_clean (clean_store last files is clean) in
      record {
        was = conn;
        finds = record { opened = λ clean. opened (before clean); found = λ clean. found (before clean) };
        last = last;
        is = is;
        left = λ clean rows there.
            let was = opened (before clean) in
            elim (crash (clean_store last files is clean) rows there) [
              | inl may ↦ inl (settled_at conn.store stays rows was.0.is_open may)
              | inr set ↦ inr (subst (λ (db : Database). Same (StatesIn db) (StandsFor rows)) was.0.clean set.same)
            ];
      }

  -- a store that worked was closed before it was used
  pub given_back : SeenMayStay g → (image : Image) (kept : Held (FileStore D g) × Bool) (files : Files D) → kept.1 ≡ false → (HasCleanDisk (file_state kept.0) → IsHonest over_files kept)
      → IsLeft kept.0 files → IsFound g (HasCleanDisk (file_state kept.0)) image (StandsFor (file_state kept.0).now.trees) → IsUnused g image files
  given_back stays image kept files works honest closed opening =
      let states = StatesIn (file_state opening.was).committed in
      record {
        was = opening.was;
        finds = record { opened = λ clean. opening.finds.opened (closed.was_clean clean); found = λ clean. opening.finds.found (closed.was_clean clean) };
        last = closed.last;
        is = closed.is;
        left = λ clean rows there.
            let ready = (honest (closed.was_clean clean)).ready works in
            let alone : rows ≡ (file_state kept.0).now.trees =
            left_alone over_files (λ s db is_open may. settled_at s stays db is_open may) kept ready rows (closed.closed.quiet.outcomes rows there) in
            inr (subst (λ (db : Trees). Same states (StandsFor db)) (sym alone) (turned (StandsFor (file_state kept.0).now.trees) states (opening.same (closed.was_clean clean))));
      }
