-- How a script over a database file ends.
use Rattle.std.specs.Prelude.{ℕ, ◌≡◌, ◌⊎◌, List, true, Option, Result, Ok, IsOk}
use Rattle.std.specs.declared.alloc.AllocError.{AllocError}
use Rattle.sqlite_disk.specs.declared.Disk as disk
use Rattle.sqlite_disk.specs.declared.Files.{Files}
use Rattle.tenant_files.specs.sqlite_wal.specs.Reads.{AreClean}
use Rattle.tenant_files.specs.sqlite_wal.specs.Recovery.{Image}
use Rattle.tenant_files.specs.sqlite_store.specs.declared.store.FileStore.{FileStore}
use Rattle.sqlite.specs.Files.{file_state, over_files}
use Rattle.sqlite.specs.Held.{Held}
use Rattle.tenant_files.specs.Stored.{MayStandFor}
use Rattle.tenant_files.specs.Used.{AreAsBefore, UsesFile, UsesFiles}
use Rattle.tenant_files.specs.declared.fault.FileFault.{FileFault}
use Rattle.tenant_store.specs.tenant_tables.specs.Rows.{StandsFor, StatesIn}
use Rattle.crush_app.specs.End.{EndsScript}
use Rattle.crush_app.specs.Play.{PlaysScript}
use Rattle.crush_app.specs.declared.play.ScriptEnd.{ScriptEnd}
use Rattle.crush_app.specs.declared.play.ScriptEnd.TheVariants.{Done}

-- Lines were served from the states that the rows stood for to those that the file holds; or
-- nothing was served, and the connection is unchanged. The file has this service's tables where the
-- script is done or the log was copied.
abbrev pub EndsOnFiles : {D : Type 0} (g : disk.Ghosts D) → Held (FileStore D g) → Result ScriptEnd AllocError → Result (Unit {0}) FileFault → Files D → (reads left from to : Option (List ℕ)) → Type 0
EndsOnFiles g first end copied files reads left from to =
    UsesFiles g first copied files ((end ≡ Ok Done) ⊎ IsOk copied)
    (λ last. EndsScript (last ≡ first)
    (λ how ms. AreClean g files.log files.db → PlaysScript how true (StandsFor (file_state first).now.trees) (StatesIn (file_state last).committed) (MayStandFor over_files last) ms from to)
    end reads left from to)

-- The same from what the two files held. Where nothing was served, the file holds the same tenants,
-- also after a crash.
abbrev pub EndsOnFile : {D : Type 0} → disk.Ghosts D → Image → Result ScriptEnd AllocError → Result (Unit {0}) FileFault → Files D → (reads left from to : Option (List ℕ)) → Type 0
EndsOnFile g image end copied files reads left from to =
    UsesFile g image copied files ((end ≡ Ok Done) ⊎ IsOk copied)
    (λ Clean old new may_leave. EndsScript (Clean → AreAsBefore old new may_leave) (λ how ms. Clean → PlaysScript how true old new may_leave ms from to) end reads left from to)
