-- A script that is played where no tenant was made before.
use Rattle.std.specs.Prelude.{ℕ, ◌≡◌, List, length, Option, None}
use Rattle.std.specs.List.{All}
use Rattle.tenant_core.specs.Alone.{alone, replies_answered, calls_answered}
use Rattle.tenant_core.specs.States.{ServesCallsOfNobody, NamesCause}
use Rattle.tenant_core.specs.tenant_messages.specs.declared.call.Call.{Call}
use Rattle.tenant_core.specs.tenant_messages.specs.declared.reply.Reply.{Reply}
use Rattle.crush_app.specs.Play.{PlaysBy, PlaysUpToBy, WritesFirst}
use Rattle.crush_app.specs.declared.play.ScriptEnd.{ScriptEnd}
use Rattle.crush_app.specs.declared.play.ScriptEnd.TheVariants.{Done, Latched, TooLong, ReadFault, WriteFault}

-- the headline, for every tenant t: its replies other than 503 are those of the definition
-- run over just the requests so answered, from nothing
abbrev pub HeadlineFromNothing : List Call → List Reply → Type 0
HeadlineFromNothing calls replies =
    (t : List ℕ) → replies_answered t calls replies ≡ (alone None (calls_answered t calls replies)).replies

-- a run from nothing: one reply for each call, and the headline
pub record MeetsFromNothing (calls : List Call) (replies : List Reply) : Type 0 where
  pub count : length replies ≡ length calls
  pub headline : HeadlineFromNothing calls replies
  pub nobody : ServesCallsOfNobody calls replies
  pub causes : All NamesCause replies

-- the messages were served from nothing as the definition says, and their lines were written
abbrev pub PlaysFromNothing : List (Option Call) → Option (List ℕ) → Option (List ℕ) → Type 0
PlaysFromNothing ms from to = PlaysBy MeetsFromNothing ms from to

-- the same up to a message whose line was written in part
abbrev pub PlaysUpToFromNothing : List (Option Call) → Option (List ℕ) → Option (List ℕ) → Type 0
PlaysUpToFromNothing ms from to = PlaysUpToBy MeetsFromNothing ms from to

-- the headline from nothing of what was written
abbrev pub WritesHeadlineFromNothing : List (Option Call) → Option (List ℕ) → Option (List ℕ) → Type 0
WritesHeadlineFromNothing ms from to = WritesFirst HeadlineFromNothing ms from to

-- how the messages of a script that ended so were served from nothing. No such script ends as
-- `Latched`, since a store in memory never fails for good
abbrev pub PlaysToFromNothing : ScriptEnd → List (Option Call) → (from to : Option (List ℕ)) → Type 0
PlaysToFromNothing Done ms from to = PlaysFromNothing ms from to
PlaysToFromNothing WriteFault ms from to = PlaysUpToFromNothing ms from to
PlaysToFromNothing Latched ms from to = ⊥
PlaysToFromNothing TooLong ms from to = ⊥
PlaysToFromNothing ReadFault ms from to = ⊥

-- messages were served from nothing
pub record PlaysScriptFromNothing (end : ScriptEnd) (ms : List (Option Call)) (from to : Option (List ℕ)) : Type 0 where
  pub plays : PlaysToFromNothing end ms from to
  pub headline : WritesHeadlineFromNothing ms from to
