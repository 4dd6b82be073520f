-- The store's rows are those that the opening found, or there are none where there were no tables.
use Rattle.std.proofs.Common.{◌≡◌, ℕ, List, Bool, cond, ap₂, inl, inr, refl, subst, sym}
use Rattle.sqlite_disk.specs.Events.{Event, replay}
use Rattle.sqlite_wal.specs.Recovery.{Image}
use Rattle.sqlite.specs.Effect.{Database}
use Rattle.sqlite.specs.Files.{file_state}
use Rattle.tenant_core.specs.States.{Same}
use Rattle.tenant_store.specs.tenant_tables.specs.Rows.{StandsFor, StatesIn}
use Rattle.tenant_files.proofs.RefusedFacts.{all_unread, of_db, of_log, unread, unused}
use Rattle.tenant_files.proofs.StoredFacts.{turned}
use Rattle.tenant_files.proofs.opening.open_store.Goals as goal

pub returns-in-Ok-open-clause-found : goal.returns-in-Ok-open-clause-found
returns-in-Ok-open-clause-found g c =
    let was = c.in-Ok.conn in
    let store = c.in-Ok-open.store in
    let rows = (file_state store.0).now.trees in
    record {
      was = was;
      finds = record {
        opened = λ clean. c.in-Ok.ensures.opened (c.in-Ok-open.ensures.clean clean);
        found = λ clean. c.in-Ok.ensures.found (c.in-Ok-open.ensures.clean clean);
      };
      same = λ clean.
          let opened = c.in-Ok.ensures.opened (c.in-Ok-open.ensures.clean clean) in
          let same : Same (StandsFor rows) (StatesIn (file_state was).now) = turned (StatesIn (file_state was).now) (StandsFor rows) (c.in-Ok-open.ensures.same clean) in
          subst (λ (db : Database). Same (StandsFor rows) (StatesIn db)) opened.0.clean same;
    }

pub open-requires-clause-settled : goal.open-requires-clause-settled
open-requires-clause-settled g c clean = (c.in-Ok.ensures.opened clean).0.clean

abbrev image : List ℕ → List ℕ → Image
image log db = record { log = log; db = db }

abbrev seen : List ℕ → List ℕ → Bool → List Event → List ℕ
seen log db is_log history = (replay (cond is_log log db) history).seen

-- the database refused the files
pub returns-in-Err-clause-refused : goal.returns-in-Err-clause-refused
returns-in-Err-clause-refused g c =
    let start = g.S.Start in
    all_unread (image start.log start.db) c.in-Err.left c.unread.result.files c.unread.ensures
    (λ it files same has.
    let (first, log, db, leaves) = rw same at c.in-Err.ensures.cause in
    unread (image start.log start.db) files it first has (ap₂ image (ap₂ (seen start.log start.db) log.0 log.1) (ap₂ (seen start.log start.db) db.0 db.1))
    (λ now there. (
      of_log start.is_mixing start.log start.db first.log.is_log first.log.key first.log.calls.log.events now.log log.0 log.1 there.0,
      of_db start.is_mixing start.log start.db first.db.is_log first.db.key first.db.calls.log.events now.db db.0 db.1 there.1,
    ))
    (λ clean. (leaves clean).1))

-- the tables were refused
pub returns-clause-refused : goal.returns-clause-refused
returns-clause-refused g c =
    let refused = c.in-Err-open in
    inr (unused (image g.S.Start.log g.S.Start.db) c.in-Ok.conn refused.store c.close.result (sym c.close.ensures) c.in-Ok.ensures.opened c.in-Ok.ensures.found refused.ensures.was_clean
    refused.ensures.crash (λ file. inl refl))
