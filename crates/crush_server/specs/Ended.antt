-- How serving ends.
use Rattle.std.specs.Prelude.{ℕ, ◌≡◌, ◌≢◌, ◌<◌, ◌≤◌, List, Bool, true, false, Option, Result, Ok, Err, ⊤}
use Rattle.sqlite_disk.specs.declared.Disk as disk
use Rattle.sqlite_disk.specs.declared.Files.{Files}
use Rattle.tenant_files.specs.sqlite_wal.specs.Reads.{AreClean}
use Rattle.tenant_files.specs.sqlite_wal.specs.Recovery.{Image}
use Rattle.tenant_files.specs.sqlite_store.specs.declared.store.FileStore.{FileStore}
use Rattle.sqlite.specs.Files.{file_state, over_files}
use Rattle.sqlite.specs.Held.{Held}
use Rattle.tenant_files.specs.Stored.{MayStandFor}
use Rattle.tenant_files.specs.Used.{AreAsBefore, UsesFile, UsesFiles}
use Rattle.tenant_files.specs.declared.fault.FileFault.{FileFault}
use Rattle.tenant_service.specs.Served.{ServesSession}
use Rattle.tenant_core.specs.tenant_messages.specs.declared.call.Call.{Call}
use Rattle.tenant_core.specs.tenant_messages.specs.declared.reply.Reply.{Reply}
use Rattle.tenant_store.specs.tenant_tables.specs.Rows.{StandsFor, StatesIn}
use Rattle.crush_server.specs.Clients.{Clients, ServesClients}
use Rattle.crush_server.specs.declared.fault.ServerFault.{ServerFault}
use Rattle.crush_server.specs.declared.fault.ServerFault.TheVariants.{NoMemory, Store, CannotListen, WriteFault}

-- ---- the clients

-- from 1 to `most` connections were served, and no more
pub record ServesSome (Says : List Call → List Reply → Type 0) (most : ℕ) (old new : Option Clients) : Type 0 where
  pub count : ℕ
  pub some : 0 < count
  pub few : count ≤ most
  pub serves : ServesClients Says count old new

-- How serving `most` connections ended. `Says` is what is said of the calls of all of them and the
-- replies; `AsBefore` is what is said where no client was accepted.
abbrev pub EndsServing : Type 0 → (List Call → List Reply → Type 0) → Result (Unit {0}) ServerFault → ℕ → (old new : Option Clients) → Type 0
EndsServing AsBefore Says (Ok done) most old new = ServesClients Says most old new
EndsServing AsBefore Says (Err Store) most old new = ServesSome Says most old new
EndsServing AsBefore Says (Err NoMemory) most old new = AsBefore
EndsServing AsBefore Says (Err CannotListen) most old new = AsBefore
EndsServing AsBefore Says (Err WriteFault) most old new = AsBefore

-- whether the store is then latched
abbrev pub LatchesAs : Result (Unit {0}) ServerFault → Bool → Type 0
LatchesAs (Ok done) is_latched = is_latched ≡ false
LatchesAs (Err Store) is_latched = is_latched ≡ true
LatchesAs _ is_latched = ⊤

abbrev pub has_failed : Result (Unit {0}) ServerFault → Bool
has_failed (Ok done) = false
has_failed (Err fault) = true

-- ---- the file

-- Clients were served from the states that the rows stood for to those that the file holds; or no
-- client was accepted, and the connection is unchanged. Where it didn't fail for good, the file has
-- this service's tables.
abbrev pub ServesOnFiles : {D : Type 0} (g : disk.Ghosts D) → Held (FileStore D g) → Result (Unit {0}) ServerFault → Result (Unit {0}) FileFault → Files D → ℕ → (old new : Option Clients) → Type 0
ServesOnFiles g first end copied files most old new =
    UsesFiles g first copied files (end ≢ Err Store)
    (λ last. EndsServing ((last ≡ first) × (new ≡ old))
    (λ calls replies. AreClean g files.log files.db → ServesSession false (has_failed end) (StandsFor (file_state first).now.trees) (StatesIn (file_state last).committed) (MayStandFor over_files last) calls replies)
    end most old new)

-- The same from what the two files held. Where no client was accepted, the file holds the same
-- tenants, also after a crash.
abbrev pub ServesOnFile : {D : Type 0} → disk.Ghosts D → Image → Result (Unit {0}) ServerFault → Result (Unit {0}) FileFault → Files D → ℕ → (old new : Option Clients) → Type 0
ServesOnFile g image end copied files most old new =
    UsesFile g image copied files (end ≢ Err Store)
    (λ Clean before after may_leave. EndsServing ((Clean → AreAsBefore before after may_leave) × (new ≡ old))
    (λ calls replies. Clean → ServesSession false (has_failed end) before after may_leave calls replies)
    end most old new)
