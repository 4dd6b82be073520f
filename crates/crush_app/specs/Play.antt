-- A script that was played: the states of tenants after it, and the bytes that were written.
use Rattle.std.specs.Prelude.{ℕ, ◌≡◌, ◌<◌, List, [], ◌∷◌, ◌++◌, length, Bool, true, false, Option, Some}
use Rattle.std.specs.Io.KnownBytes.{Appends}
use Rattle.tenant_core.specs.States.{States, Outcomes, Headline, MeetsDefinition}
use Rattle.tenant_core.specs.StoreReply.{IsUnavailable}
use Rattle.tenant_service.specs.Served.{IsSession, LeavesSession}
use Rattle.tenant_core.specs.tenant_messages.specs.declared.call.Call.{Call}
use Rattle.tenant_core.specs.tenant_messages.specs.declared.reply.Reply.{Reply}
use Rattle.tenant_service.specs.Writing.{AppendsUpTo}
use Rattle.crush_app.specs.Script.{calls_in, output, wire}
use Rattle.crush_app.specs.declared.play.ScriptEnd.{ScriptEnd}
use Rattle.crush_app.specs.declared.play.ScriptEnd.TheVariants.{Done, Latched, TooLong, ReadFault, WriteFault}

-- ---- messages

-- the messages were served so that their calls and the replies meet `Meets`, and their lines were
-- written
pub record PlaysBy (Meets : List Call → List Reply → Type 0) (ms : List (Option Call)) (from to : Option (List ℕ)) : Type 0 where
  pub replies : List Reply
  pub meets : Meets (calls_in ms) replies
  pub written : Appends from to (output ms replies)

-- the messages before one were served and their lines written whole; that message was served, and
-- its line was written in part; no later message was served
pub record PlaysUpToBy (Meets : List Call → List Reply → Type 0) (ms : List (Option Call)) (from to : Option (List ℕ)) : Type 0 where
  pub before : List (Option Call)
  pub cut : Option Call
  pub later : List (Option Call)
  pub all : before ++ cut ∷ later ≡ ms
  pub replies : List Reply
  pub last : List Reply
  pub count : length replies ≡ length (calls_in before)
  pub meets : Meets (calls_in (before ++ cut ∷ [])) (replies ++ last)
  pub line : List ℕ
  pub rest : List ℕ
  pub some : 0 < length rest
  pub part : line ++ rest ≡ output (cut ∷ []) last
  pub written : Appends from to (output before replies ++ line)

-- what was written is a first part of the lines for the first messages and the replies to their
-- calls, and these calls and replies meet `Meets`
pub record WritesFirst (Meets : List Call → List Reply → Type 0) (ms : List (Option Call)) (from to : Option (List ℕ)) : Type 0 where
  pub served : List (Option Call)
  pub later : List (Option Call)
  pub all : served ++ later ≡ ms
  pub replies : List Reply
  pub rest : List ℕ
  pub written : AppendsUpTo rest from to (output served replies)
  pub headline : Meets (calls_in served) replies

-- ---- messages, and the states of tenants

-- the messages were served as the definition says, and their lines were written; the store is then
-- latched, or not
abbrev pub Plays : Bool → States → States → List (Option Call) → Option (List ℕ) → Option (List ℕ) → Type 0
Plays is_latched old new ms from to = PlaysBy (MeetsDefinition is_latched old new) ms from to

-- the same up to a message whose line was written in part
abbrev pub PlaysUpTo : Bool → States → States → List (Option Call) → Option (List ℕ) → Option (List ℕ) → Type 0
PlaysUpTo is_latched old new ms from to = PlaysUpToBy (MeetsDefinition is_latched old new) ms from to

-- The messages before one were served so, and then that message: its call latched the store, was
-- answered 503, and is the one in doubt, so that an opening may find it done or not. The lines of
-- all of them were written, and nothing else; no later message was served.
pub record PlaysUntilLatched (old new : States) (left : Outcomes) (ms : List (Option Call)) (from to : Option (List ℕ)) : Type 0 where
  pub before : List (Option Call)
  pub call : Call
  pub later : List (Option Call)
  pub all : before ++ Some call ∷ later ≡ ms
  pub replies : List Reply
  pub reply : Reply
  pub silent : IsUnavailable reply
  pub meets : MeetsDefinition true old new (calls_in before ++ call ∷ []) (replies ++ reply ∷ [])
  pub leaves : LeavesSession old left (calls_in before ++ call ∷ []) (replies ++ reply ∷ []) (Some (length (calls_in before)))
  pub written : Appends from to (output before replies ++ wire reply)

-- the headline of what was written: for every tenant the replies other than 503 are the
-- definition's
abbrev pub WritesHeadline : States → List (Option Call) → Option (List ℕ) → Option (List ℕ) → Type 0
WritesHeadline old ms from to = WritesFirst (Headline old) ms from to

-- what a stop leaves: what was written is a first part of the lines for the first messages and the
-- replies to their calls, and these are a sound session, which leaves what it may leave
abbrev pub WritesSession : States → Outcomes → List (Option Call) → Option (List ℕ) → Option (List ℕ) → Type 0
WritesSession old left ms from to = WritesFirst (IsSession old left) ms from to

-- ---- a script

-- how the messages of a script that ended so were served
abbrev pub PlaysTo : ScriptEnd → Bool → States → States → Outcomes → List (Option Call) → (from to : Option (List ℕ)) → Type 0
PlaysTo Done is_latched old new left ms from to = Plays false old new ms from to
PlaysTo WriteFault is_latched old new left ms from to = PlaysUpTo is_latched old new ms from to
PlaysTo Latched is_latched old new left ms from to = PlaysUntilLatched old new left ms from to
PlaysTo TooLong is_latched old new left ms from to = ⊥
PlaysTo ReadFault is_latched old new left ms from to = ⊥

-- Messages were served on a store with the states `old` before and `new` after, which is then
-- latched or not, and of which an opening may find `left` after a crash.
pub record PlaysScript (end : ScriptEnd) (is_latched : Bool) (old new : States) (left : Outcomes) (ms : List (Option Call)) (from to : Option (List ℕ)) : Type 0 where
  pub plays : PlaysTo end is_latched old new left ms from to
  pub headline : WritesHeadline old ms from to
  pub stop : WritesSession old left ms from to
