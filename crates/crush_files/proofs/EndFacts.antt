-- How a script over a file ends, from how it ends over the ready store.
use Rattle.std.proofs.lemmas.Bool.{false≢true}
use Rattle.std.proofs.Common.{◌≡◌, ◌⊎◌, ◌∙◌, ◌||◌, ℕ, List, Bool, true, false, Option, Result, Ok, Err, IfErr, IsOk, ap, inl, inr, refl, subst}
use Rattle.std.specs.declared.alloc.AllocError.{AllocError}
use Rattle.sqlite_disk.specs.declared.Disk as disk
use Rattle.sqlite_disk.specs.declared.Files.{Files}
use Rattle.tenant_files.specs.sqlite_wal.proofs.LogLemmas.{SeenMayStay}
use Rattle.tenant_files.specs.sqlite_wal.specs.Reads.{AreClean}
use Rattle.tenant_files.specs.sqlite_wal.specs.Recovery.{Image}
use Rattle.tenant_files.specs.sqlite_store.specs.declared.store.FileStore.{FileStore}
use Rattle.sqlite.specs.Files.{file_state, over_files}
use Rattle.sqlite.specs.Held.{Held}
use Rattle.sqlite.specs.State.{HasCleanDisk}
use Rattle.tenant_store.specs.table_schema.specs.Ready.{IsReady}
use Rattle.tenant_files.specs.tenant_core.specs.States.{Outcomes, States}
use Rattle.tenant_files.specs.tenant_core.specs.tenant_messages.specs.declared.call.Call.{Call}
use Rattle.tenant_files.proofs.ClosedFacts.{given_clean}
use Rattle.tenant_files.proofs.StoredFacts.{same_states}
use Rattle.tenant_files.proofs.UsedFacts.{held, uses_file, uses_files}
use Rattle.tenant_files.specs.Closed.{GivesBack}
use Rattle.tenant_files.specs.Closing.{FailsToCopy}
use Rattle.tenant_files.specs.Opened.{IsFound}
use Rattle.tenant_files.specs.Stored.{MayStandFor}
use Rattle.tenant_files.specs.Used.{AreAsBefore}
use Rattle.tenant_files.specs.declared.fault.FileFault.{FileFault}
use Rattle.tenant_files.specs.declared.fault.FileFault.TheVariants.{Store}
use Rattle.tenant_store.specs.tenant_tables.specs.Rows.{StandsFor, StatesIn}
use Rattle.tenant_store.specs.Shown.{HasState, IsHonest, MayLeave}
use Rattle.tenant_store.specs.Laws.{works_below}
use Rattle.crush_app.proofs.Ending.{ends_map, keeps_itself}
use Rattle.crush_app.specs.End.{EndsScript, LatchesAs}
use Rattle.crush_app.specs.Play.{PlaysScript}
use Rattle.crush_app.specs.declared.play.ScriptEnd.{ScriptEnd}
use Rattle.crush_app.specs.declared.play.ScriptEnd.TheVariants.{Done}
use Rattle.crush_files.proofs.PlayFacts.{script_same}
use Rattle.crush_files.specs.Ended.{EndsOnFile, EndsOnFiles}

-- what is said of the file
module _ {D : Type 0} (g : disk.Ghosts D) (first : Held (FileStore D g)) (end : Result ScriptEnd AllocError) (files : Files D) (reads left from to : Option (List ℕ)) where
  abbrev OnFiles : Held (FileStore D g) → ScriptEnd → List (Option Call) → Type 0
  OnFiles last how ms =
      AreClean g files.log files.db → PlaysScript how true (StandsFor (file_state first).now.trees) (StatesIn (file_state last).committed) (MayStandFor over_files last) ms from to

  abbrev Said : Held (FileStore D g) → Type 0
  Said last = EndsScript (last ≡ first) (OnFiles last) end reads left from to

-- a file that failed for good isn't copied
works_copied : (has_failed : Bool) (copied : Result (Unit {0}) FileFault) → (has_failed ≡ true → copied ≡ Err Store) → IsOk copied → has_failed ≡ false
works_copied false copied given_up ok = refl
works_copied true copied given_up ok = absurd (false≢true (subst (λ (r : Result (Unit {0}) FileFault). IsOk r) (given_up refl) ok))

-- the file didn't fail for good where the script is done or the log was copied
works_then : (end : Result ScriptEnd AllocError) (has_failed : Bool) (copied : Result (Unit {0}) FileFault) → LatchesAs end has_failed → (has_failed ≡ true → copied ≡ Err Store)
    → (end ≡ Ok Done) ⊎ IsOk copied → has_failed ≡ false
works_then end has_failed copied latch given_up (inl done) = subst (λ (e : Result ScriptEnd AllocError). LatchesAs e has_failed) done latch
works_then end has_failed copied latch given_up (inr ok) = works_copied has_failed copied given_up ok

-- by a ready store that worked at first
module _ {D F : Type 0} (g : disk.Ghosts D) (store : Held (FileStore D g) × Bool) (watch : F) (first last : ((Held (FileStore D g) × Bool) × F) × Bool) (end : Result ScriptEnd AllocError)
    (copied : Result (Unit {0}) FileFault) (files : Files D) (reads left from to : Option (List ℕ)) where
  abbrev OnReady : ((Held (FileStore D g) × Bool) × F) × Bool → ScriptEnd → List (Option Call) → Type 0
  OnReady begun how ms =
      IsHonest over_files last.0.0 → PlaysScript how (last.0.0.1 || last.1) (HasState over_files begun.0.0) (HasState over_files last.0.0) (MayLeave over_files last.0.0) ms from to

  -- at the closing the rows are what the file holds
  pub ends_on_files : SeenMayStay g → first ≡ ((store, watch), false) → store.1 ≡ false → GivesBack last.0.0.0 copied files → (HasCleanDisk (file_state last.0.0.0) → IsHonest over_files last.0.0)
      → (IsHonest over_files last.0.0 → IsHonest over_files first.0.0) → LatchesAs end (last.0.0.1 || last.1) → ((last.0.0.1 || last.1) ≡ true → copied ≡ Err Store)
      → ((last.0.0.1 || last.1) ≡ false → IfErr copied (FailsToCopy last.0.0.0 files))
      → EndsScript (last ≡ first) (OnReady first) end reads left from to → EndsOnFiles g store.0 end copied files reads left from to
  ends_on_files stays made works given honest earlier latch given_up cause said =
      let works_after : (end ≡ Ok Done) ⊎ IsOk copied → (last.0.0.1 || last.1) ≡ false = works_then end (last.0.0.1 || last.1) copied latch given_up in
      let now : AreClean g files.log files.db → HasCleanDisk (file_state last.0.0.0) = given_clean last.0.0.0 copied files given in
      let ready : HasCleanDisk (file_state last.0.0.0) → (end ≡ Ok Done) ⊎ IsOk copied → IsReady (file_state last.0.0.0) =
      λ clean done. (honest clean).ready (works_below last.0.0.1 last.1 (works_after done)) in
      let old = StandsFor (file_state store.0).now.trees in
      let new = StandsFor (file_state last.0.0.0).now.trees in
      uses_files stays store last.0.0.0 copied files ((end ≡ Ok Done) ⊎ IsOk copied) (Said g store.0 end files reads left from to) works given
      (λ clean. subst (λ (x : ((Held (FileStore D g) × Bool) × F) × Bool). IsHonest over_files x.0.0) made (earlier (honest clean))) ready (λ done. cause (works_after done))
      (ends_map (last ≡ first) (last.0.0.0 ≡ store.0) (OnReady first) (OnFiles g store.0 end files reads left from to last.0.0.0) end reads left from to (λ same. ap (λ x. x.0.0.0) (same ∙ made))
      (λ how ms is plays clean.
      script_same how (last.0.0.1 || last.1) old old new (StatesIn (file_state last.0.0.0).committed) (MayStandFor over_files last.0.0.0) ms from to (same_states old)
      (λ done. held last.0.0.0 (ready (now clean) (inl (is ∙ ap Ok done))))
      (subst (λ (x : ((Held (FileStore D g) × Bool) × F) × Bool). OnReady x how ms) made plays (honest (now clean))))
      said)

-- no line was served
pub ends_unserved : {D : Type 0} (g : disk.Ghosts D) (store : Held (FileStore D g) × Bool) (e : AllocError) (copied : Result (Unit {0}) FileFault) (files : Files D) (reads to : Option (List ℕ))
    → SeenMayStay g → store.1 ≡ false → GivesBack store.0 copied files → IfErr copied (FailsToCopy store.0 files) → (HasCleanDisk (file_state store.0) → IsHonest over_files store) → EndsOnFiles g store.0 (Err e) copied files reads reads to to
ends_unserved g store e copied files reads to stays works given cause honest =
    uses_files stays store store.0 copied files ((Err e ≡ Ok Done) ⊎ IsOk copied) (Said g store.0 (Err e) files reads reads to to) works given honest (λ clean done. (honest clean).ready works) (λ _. cause)
    (record { as_before = refl; unwritten = keeps_itself to })

-- with the opening
module _ {D : Type 0} (g : disk.Ghosts D) (image : Image) (first : Held (FileStore D g)) (end : Result ScriptEnd AllocError) (copied : Result (Unit {0}) FileFault) (files : Files D)
    (reads left from to : Option (List ℕ)) where
  abbrev Says : Type 0 → States → States → Outcomes → Type 0
  Says Clean old new may_leave = EndsScript (Clean → AreAsBefore old new may_leave) (λ how ms. Clean → PlaysScript how true old new may_leave ms from to) end reads left from to

  pub ends_on_file : IsFound g (HasCleanDisk (file_state first)) image (StandsFor (file_state first).now.trees) → EndsOnFiles g first end copied files reads left from to
      → EndsOnFile g image end copied files reads left from to
  ends_on_file opening uses =
      uses_file image first copied files ((end ≡ Ok Done) ⊎ IsOk copied) (Said g first end files reads left from to) Says opening uses
      (λ last old same as_before said.
      let rows = StandsFor (file_state first).now.trees in
      let new = StatesIn (file_state last).committed in
      ends_map (last ≡ first) (AreClean g files.log files.db → AreAsBefore old new (MayStandFor over_files last)) (OnFiles g first end files reads left from to last)
      (λ how ms. AreClean g files.log files.db → PlaysScript how true old new (MayStandFor over_files last) ms from to) end reads left from to as_before
      (λ how ms is plays clean. script_same how true rows old new new (MayStandFor over_files last) ms from to (same clean) (λ _. same_states new) (plays clean)) said)
