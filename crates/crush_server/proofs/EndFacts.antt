-- How serving clients over a file ends, from how it ends over the ready store.
use Rattle.std.proofs.lemmas.Bool.{false≢true}
use Rattle.std.proofs.Common.{◌≡◌, ◌≢◌, ◌∙◌, ◌||◌, ℕ, ◌<◌, ◌≤◌, List, Bool, true, false, Option, Result, Ok, Err, IfErr, ap, refl, subst, sym}
use Rattle.std.specs.Prelude.{⊤}
use Rattle.sqlite_disk.specs.declared.Disk as disk
use Rattle.sqlite_disk.specs.declared.Files.{Files}
use Rattle.tenant_files.specs.sqlite_wal.proofs.LogLemmas.{SeenMayStay}
use Rattle.tenant_files.specs.sqlite_wal.specs.Reads.{AreClean}
use Rattle.tenant_files.specs.sqlite_wal.specs.Recovery.{Image}
use Rattle.tenant_files.specs.sqlite_store.specs.declared.store.FileStore.{FileStore}
use Rattle.sqlite.specs.Files.{file_state, over_files}
use Rattle.sqlite.specs.Held.{Held}
use Rattle.sqlite.specs.State.{HasCleanDisk}
use Rattle.tenant_store.specs.table_schema.specs.Ready.{IsReady}
use Rattle.tenant_core.specs.States.{Outcomes, Same, States}
use Rattle.tenant_files.proofs.ClosedFacts.{given_clean}
use Rattle.tenant_files.proofs.StoredFacts.{meets_same, same_states}
use Rattle.tenant_files.proofs.UsedFacts.{held, uses_file, uses_files}
use Rattle.tenant_files.specs.Closed.{GivesBack}
use Rattle.tenant_files.specs.Closing.{FailsToCopy}
use Rattle.tenant_files.specs.Opened.{IsFound}
use Rattle.tenant_files.specs.Stored.{MayStandFor}
use Rattle.tenant_files.specs.Used.{AreAsBefore}
use Rattle.tenant_files.specs.declared.fault.FileFault.{FileFault}
use Rattle.tenant_service.specs.Served.{IsSession, ServesSession}
use Rattle.tenant_core.specs.tenant_messages.specs.declared.call.Call.{Call}
use Rattle.tenant_core.specs.tenant_messages.specs.declared.reply.Reply.{Reply}
use Rattle.tenant_store.specs.tenant_tables.specs.Rows.{StandsFor, StatesIn}
use Rattle.tenant_store.specs.Shown.{HasState, IsHonest, MayLeave}
use Rattle.tenant_store.specs.Laws.{works_below}
use Rattle.crush_server.proofs.Each.{clients_map}
use Rattle.crush_server.specs.Clients.{Clients}
use Rattle.crush_server.specs.Ended.{EndsServing, LatchesAs, ServesOnFile, ServesOnFiles, has_failed}
use Rattle.crush_server.specs.declared.fault.ServerFault.{ServerFault}
use Rattle.crush_server.specs.declared.fault.ServerFault.TheVariants.{NoMemory, Store, CannotListen, WriteFault}

-- ---- ends

-- clients were served
abbrev IsServing : Result (Unit {0}) ServerFault → Type 0
IsServing (Ok done) = ⊤
IsServing (Err Store) = ⊤
IsServing (Err NoMemory) = ⊥
IsServing (Err CannotListen) = ⊥
IsServing (Err WriteFault) = ⊥

latched_is : (r : Result (Unit {0}) ServerFault) (latched : Bool) → IsServing r → LatchesAs r latched → latched ≡ has_failed r
latched_is (Ok done) latched is latch = latch
latched_is (Err Store) latched is latch = latch
latched_is (Err NoMemory) latched is latch = absurd is
latched_is (Err CannotListen) latched is latch = absurd is
latched_is (Err WriteFault) latched is latch = absurd is

-- where nothing failed, the store didn't fail for good
not_store : (r : Result (Unit {0}) ServerFault) → has_failed r ≡ false → r ≢ Err Store
not_store r works is = false≢true (sym works ∙ ap has_failed is)

serving_map : (A B : Type 0) (P Q : List Call → List Reply → Type 0) (r : Result (Unit {0}) ServerFault) (most : ℕ) (old new : Option Clients) → (A → B)
    → (IsServing r → (cs : List Call) (rs : List Reply) → P cs rs → Q cs rs) → EndsServing A P r most old new → EndsServing B Q r most old new
serving_map A B P Q (Ok done) most old new as_before follows s = clients_map P Q most old new (follows tt) s
serving_map A B P Q (Err Store) most old new as_before follows s = record { count = s.count; some = s.some; few = s.few; serves = clients_map P Q s.count old new (follows tt) s.serves }
serving_map A B P Q (Err NoMemory) most old new as_before follows s = as_before s
serving_map A B P Q (Err CannotListen) most old new as_before follows s = as_before s
serving_map A B P Q (Err WriteFault) most old new as_before follows s = as_before s

-- where no client was accepted
ends_as_before : (A : Type 0) (P : List Call → List Reply → Type 0) (fault : ServerFault) (most : ℕ) (old new : Option Clients) → (fault ≡ Store → ⊥) → A → EndsServing A P (Err fault) most old new
ends_as_before A P Store most old new other as_before = absurd (other refl)
ends_as_before A P NoMemory most old new other as_before = as_before
ends_as_before A P CannotListen most old new other as_before = as_before
ends_as_before A P WriteFault most old new other as_before = as_before

-- ---- the same states

session_same : (a b : States) (left : Outcomes) (cs : List Call) (rs : List Reply) → Same a b → IsSession a left cs rs → IsSession b left cs rs
session_same a b left cs rs same s = record {
  doubt = s.doubt;
  sound = λ f t has. s.sound f t ((same t (f t)).1 has);
  crash = λ f t next has there. s.crash f t next ((same t (f t)).1 has) there;
}

serves_same : (is : Bool) (a b c d : States) (left : Outcomes) (cs : List Call) (rs : List Reply) → Same a b → (is ≡ false → Same c d) → ServesSession false is a c left cs rs → ServesSession false is b d left cs rs
serves_same is a b c d left cs rs before after s =
    record { meets = meets_same is a b c d cs rs before after s.meets; session = λ was. session_same a b left cs rs before (s.session was) }

-- the store didn't fail for good, or no client was accepted
not_failed : {H F : Type 0} (first last : ((H × Bool) × F) × Bool) (end : Result (Unit {0}) ServerFault) (AsBefore : Type 0) (P : List Call → List Reply → Type 0) (most : ℕ) (from to : Option Clients)
    → (first.0.0.1 || first.1) ≡ false → LatchesAs end (last.0.0.1 || last.1) → EndsServing ((last ≡ first) × AsBefore) P end most from to → end ≢ Err Store → (last.0.0.1 || last.1) ≡ false
not_failed first last (Ok done) AsBefore P most from to worked latch said works = latch
not_failed first last (Err Store) AsBefore P most from to worked latch said works = absurd (works refl)
not_failed first last (Err NoMemory) AsBefore P most from to worked latch said works = ap (λ x. x.0.0.1 || x.1) said.0 ∙ worked
not_failed first last (Err CannotListen) AsBefore P most from to worked latch said works = ap (λ x. x.0.0.1 || x.1) said.0 ∙ worked
not_failed first last (Err WriteFault) AsBefore P most from to worked latch said works = ap (λ x. x.0.0.1 || x.1) said.0 ∙ worked

-- ---- over files

module _ {D : Type 0} (g : disk.Ghosts D) (first : Held (FileStore D g)) (end : Result (Unit {0}) ServerFault) (files : Files D) (most : ℕ) (from to : Option Clients) where
  abbrev OnFiles : Held (FileStore D g) → List Call → List Reply → Type 0
  OnFiles last calls replies =
      AreClean g files.log files.db
      → ServesSession false (has_failed end) (StandsFor (file_state first).now.trees) (StatesIn (file_state last).committed) (MayStandFor over_files last) calls replies

  abbrev Said : Held (FileStore D g) → Type 0
  Said last = EndsServing ((last ≡ first) × (to ≡ from)) (OnFiles last) end most from to

-- by a ready store that worked at first
module _ {D F : Type 0} (g : disk.Ghosts D) (store : Held (FileStore D g) × Bool) (watch : F) (first last : ((Held (FileStore D g) × Bool) × F) × Bool) (end : Result (Unit {0}) ServerFault)
    (copied : Result (Unit {0}) FileFault) (files : Files D) (AsBefore : Type 0) (most : ℕ) (before from to : Option Clients) where
  abbrev OnReady : ((Held (FileStore D g) × Bool) × F) × Bool → Bool → List Call → List Reply → Type 0
  OnReady begun is_latched calls replies =
      IsHonest over_files last.0.0 → ServesSession false is_latched (HasState over_files begun.0.0) (HasState over_files last.0.0) (MayLeave over_files last.0.0) calls replies

  -- at the closing the rows are what the file holds. The clients were the same before the listener
  -- was made ready
  pub ends_on_files : SeenMayStay g → first ≡ ((store, watch), false) → store.1 ≡ false → GivesBack last.0.0.0 copied files → (HasCleanDisk (file_state last.0.0.0) → IsHonest over_files last.0.0)
      → (IsHonest over_files last.0.0 → IsHonest over_files first.0.0) → LatchesAs end (last.0.0.1 || last.1) → ((last.0.0.1 || last.1) ≡ false → IfErr copied (FailsToCopy last.0.0.0 files)) → (AsBefore → to ≡ from) → from ≡ before
      → EndsServing ((last ≡ first) × AsBefore) (OnReady first (last.0.0.1 || last.1)) end most from to → ServesOnFiles g store.0 end copied files most before to
  ends_on_files stays made works given honest earlier latch cause none same said =
      let now : AreClean g files.log files.db → HasCleanDisk (file_state last.0.0.0) = given_clean last.0.0.0 copied files given in
      let worked : (first.0.0.1 || first.1) ≡ false = ap (λ x. x.0.0.1 || x.1) made ∙ ap (λ b. b || false) works in
      let works_after : end ≢ Err Store → (last.0.0.1 || last.1) ≡ false = not_failed first last end AsBefore (OnReady first (last.0.0.1 || last.1)) most from to worked latch said in
      let ready : HasCleanDisk (file_state last.0.0.0) → end ≢ Err Store → IsReady (file_state last.0.0.0) =
      λ clean done. (honest clean).ready (works_below last.0.0.1 last.1 (works_after done)) in
      let old = StandsFor (file_state store.0).now.trees in
      let new = StandsFor (file_state last.0.0.0).now.trees in
      uses_files stays store last.0.0.0 copied files (end ≢ Err Store) (Said g store.0 end files most before to) works given
      (λ clean. subst (λ (x : ((Held (FileStore D g) × Bool) × F) × Bool). IsHonest over_files x.0.0) made (earlier (honest clean))) ready (λ done. cause (works_after done))
      (subst (λ (o : Option Clients). EndsServing ((last.0.0.0 ≡ store.0) × (to ≡ before)) (OnFiles g store.0 end files most before to last.0.0.0) end most o to) same
      (serving_map ((last ≡ first) × AsBefore) ((last.0.0.0 ≡ store.0) × (to ≡ before)) (OnReady first (last.0.0.1 || last.1)) (OnFiles g store.0 end files most before to last.0.0.0) end most from to
      (λ u. (ap (λ x. x.0.0.0) (u.0 ∙ made), none u.1 ∙ same))
      (λ is calls replies serves clean.
      serves_same (has_failed end) old old new (StatesIn (file_state last.0.0.0).committed) (MayStandFor over_files last.0.0.0) calls replies (same_states old)
      (λ works. held last.0.0.0 (ready (now clean) (not_store end works)))
      (subst (λ (x : ((Held (FileStore D g) × Bool) × F) × Bool). OnReady x (has_failed end) calls replies) made
      (subst (λ (b : Bool). OnReady first b calls replies) (latched_is end (last.0.0.1 || last.1) is latch) serves) (honest (now clean))))
      said))

-- no client was accepted
pub ends_unserved : {D : Type 0} (g : disk.Ghosts D) (store : Held (FileStore D g) × Bool) (fault : ServerFault) (copied : Result (Unit {0}) FileFault) (files : Files D) (most : ℕ)
    (before to : Option Clients) → SeenMayStay g → store.1 ≡ false → GivesBack store.0 copied files → IfErr copied (FailsToCopy store.0 files) → (HasCleanDisk (file_state store.0) → IsHonest over_files store) → (fault ≡ Store → ⊥) → to ≡ before
    → ServesOnFiles g store.0 (Err fault) copied files most before to
ends_unserved g store fault copied files most before to stays works given cause honest other same =
    uses_files stays store store.0 copied files (Err fault ≢ Err Store) (Said g store.0 (Err fault) files most before to) works given honest (λ clean done. (honest clean).ready works) (λ _. cause)
    (ends_as_before _ (OnFiles g store.0 (Err fault) files most before to store.0) fault most before to other (refl, same))

-- with the opening
module _ {D : Type 0} (g : disk.Ghosts D) (image : Image) (first : Held (FileStore D g)) (end : Result (Unit {0}) ServerFault) (copied : Result (Unit {0}) FileFault) (files : Files D) (most : ℕ)
    (from to : Option Clients) where
  abbrev Says : Type 0 → States → States → Outcomes → Type 0
  Says Clean before after may_leave =
      EndsServing ((Clean → AreAsBefore before after may_leave) × (to ≡ from)) (λ calls replies. Clean → ServesSession false (has_failed end) before after may_leave calls replies) end most from to

  pub ends_on_file : IsFound g (HasCleanDisk (file_state first)) image (StandsFor (file_state first).now.trees) → ServesOnFiles g first end copied files most from to
      → ServesOnFile g image end copied files most from to
  ends_on_file opening uses =
      uses_file image first copied files (end ≢ Err Store) (Said g first end files most from to) Says opening uses
      (λ last old same as_before said.
      let rows = StandsFor (file_state first).now.trees in
      let new = StatesIn (file_state last).committed in
      serving_map ((last ≡ first) × (to ≡ from)) ((AreClean g files.log files.db → AreAsBefore old new (MayStandFor over_files last)) × (to ≡ from))
      (OnFiles g first end files most from to last)
      (λ calls replies. AreClean g files.log files.db → ServesSession false (has_failed end) old new (MayStandFor over_files last) calls replies) end most from to
      (λ u. (as_before u.0, u.1))
      (λ is cs rs serves clean. serves_same (has_failed end) rows old new new (MayStandFor over_files last) cs rs (same clean) (λ _. same_states new) (serves clean)) said)
