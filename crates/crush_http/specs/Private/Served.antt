-- What one turn of a connection does.
use Rattle.std.specs.Prelude.{◌≡◌, ℕ, List, [], ◌∷◌, ◌++◌, length, Bool, true, false, Option, IfSome, ⊤}
use Rattle.std.specs.Io.KnownBytes.{Consumes}
use Rattle.tenant_core.specs.States.{Found, Outcomes, States, Serves}
use Rattle.tenant_core.specs.StoreReply.{IsUnavailable}
use Rattle.tenant_service.specs.Served.{IsSession}
use Rattle.tenant_core.specs.tenant_messages.specs.declared.call.Call.{Call}
use Rattle.tenant_core.specs.tenant_messages.specs.declared.reply.Reply.{Reply}
use Rattle.tenant_service.specs.Writing.{AppendsPart, AppendsUpTo}
use Rattle.crush_http.specs.Messages.{Message, MessageAt, Stop, HasMessages, calls_of}
use Rattle.crush_http.specs.Serving.{due, EndsAs, LeavesUnread}
use Rattle.crush_http.specs.Wire.{reply_wire}
use Rattle.crush_http.specs.declared.connection.ConnectionEnd.{ConnectionEnd}
use Rattle.crush_http.specs.declared.connection.Turn.{Turn}
use Rattle.crush_http.specs.declared.connection.Turn.TheVariants as turn

-- bytes came after those that were held: all were written but those that are held now, or a write
-- failed, and only a part was written
abbrev pub Puts : Bool → List ℕ → List ℕ → Option (List ℕ) → Option (List ℕ) → List ℕ → Type 0
Puts true held now from to bytes = AppendsUpTo now from to (held ++ bytes)
Puts false held now from to bytes = AppendsPart from to (held ++ bytes)

-- a service over a store that was and is latched, or not, replied so to the call
pub record Replies (is_honest : Type 0) (was is : Bool) (old new : States) (kept left : Outcomes) (call : Call) (reply : Reply) : Type 0 where
  pub serves : is_honest → is ≡ false → Serves call old new reply
  pub silent : is ≡ true → IsUnavailable reply
  pub rests : was ≡ true → is ≡ true
  pub session : is_honest → was ≡ false → IsSession old left (call ∷ []) (reply ∷ [])
  pub stays : was ≡ true → (t : List ℕ) (found : Found) → left t found → kept t found

-- at most one call was served: `Same` holds where none was, and `One` of the call and its reply
abbrev pub ServesAtMostOne : Type 0 → (Call → Reply → Type 0) → List Call → List Reply → Type 0
ServesAtMostOne Same One [] [] = Same
ServesAtMostOne Same One (call ∷ []) (reply ∷ []) = One call reply
ServesAtMostOne Same One _ _ = ⊥

-- a message that isn't the last was served, and its reply came after what was held
pub record ServesOne (One : Call → Reply → Type 0) (most : ℕ) (rest held now : List ℕ) (from to : Option (List ℕ)) (input : List ℕ) : Type 0 where
  pub message : Message
  pub at : MessageAt most input message rest
  pub goes_on : message.last ≡ false
  pub reply : Reply
  pub replied : One message.call reply
  pub put : AppendsUpTo now from to (held ++ reply_wire false reply)

-- the connection stops, by what was there, what was read, and what is unread. `Holds` holds of the
-- stop and of what is due
pub record EndsOn (Meets : List Call → List Reply → Type 0) (most : ℕ) (there : List ℕ) (old new : Option (List ℕ)) (Holds : Stop → List ℕ → Type 0) : Type 0 where
  pub read : List ℕ
  pub taken : Consumes old new read
  pub unread : List ℕ
  pub left : IfSome new (λ known. known ≡ unread)
  pub messages : List Message
  pub stop : Stop
  pub has : HasMessages most (there ++ (read ++ unread)) messages stop
  pub replies : List Reply
  pub count : length replies ≡ length messages
  pub meets : Meets (calls_of messages) replies
  pub holds : Holds stop (due stop messages replies)
  pub leaves : LeavesUnread stop new

-- the connection ends so once what is held now is written; what is due came after what was held
abbrev pub EndsHeld : ConnectionEnd → List ℕ → List ℕ → Option (List ℕ) → Option (List ℕ) → Stop → List ℕ → Type 0
EndsHeld ended held now from to stop bytes = EndsAs stop ended × AppendsUpTo now from to (held ++ bytes)

-- a write failed: what was held, and what is due after it, was written in part
abbrev pub EndsCut : List ℕ → Option (List ℕ) → Option (List ℕ) → Stop → List ℕ → Type 0
EndsCut held from to stop bytes = AppendsPart from to (held ++ bytes)

-- P, where there is a next message
abbrev pub OnNext : Turn → Type 0 → Type 0
OnNext turn.Next P = P
OnNext (turn.Ended e) P = ⊤
OnNext turn.Cut P = ⊤

-- P of how the connection ends
abbrev pub OnEnded : Turn → (ConnectionEnd → Type 0) → Type 0
OnEnded turn.Next P = ⊤
OnEnded (turn.Ended e) P = P e
OnEnded turn.Cut P = ⊤

-- P, where a write failed
abbrev pub OnCut : Turn → Type 0 → Type 0
OnCut turn.Next P = ⊤
OnCut (turn.Ended e) P = ⊤
OnCut turn.Cut P = P
