-- What is read, served and written on a connection.
use Rattle.std.specs.Prelude.{ℕ, ◌≡◌, ◌⊎◌, List, ◌++◌, length, Option, IfSome, ⊤}
use Rattle.std.specs.Io.KnownBytes.{Appends}
use Rattle.tenant_core.specs.tenant_messages.specs.declared.call.Call.{Call}
use Rattle.tenant_core.specs.tenant_messages.specs.declared.reply.Reply.{Reply}
use Rattle.tenant_service.specs.Writing.{AppendsPart}
use Rattle.crush_http.specs.Messages.{Message, Stop, input_ended, refused, last_served, read_failed, write_failed, HasMessages, calls_of}
use Rattle.crush_http.specs.Wire.{output, rejection_wire}
use Rattle.crush_http.specs.declared.connection.ConnectionEnd.{ConnectionEnd}
use Rattle.crush_http.specs.declared.connection.ConnectionEnd.TheVariants.{Closed, Bad, ReadFault, WriteFault}
use Rattle.crush_http.specs.declared.limits.TheConstants.{MESSAGE_LIMIT}

-- the bytes that are due where the messages were served and the connection then stops so: the
-- replies to all of them, and the one to what is no message
abbrev pub due : Stop → List Message → List Reply → List ℕ
due input_ended messages replies = output messages replies
due (refused reason) messages replies = output messages replies ++ rejection_wire reason
due last_served messages replies = output messages replies
due (read_failed unread) messages replies = output messages replies
due write_failed messages replies = output messages replies

-- the end of a connection that stops so, where all that is due was written
abbrev pub EndsAs : Stop → ConnectionEnd → Type 0
EndsAs input_ended Closed = ⊤
EndsAs (refused reason) Bad = ⊤
EndsAs last_served Closed = ⊤
EndsAs (read_failed unread) ReadFault = ⊤
EndsAs _ _ = ⊥

-- all that is due was written, and the connection ended as its stop says; or a write failed, and a
-- front of it was written, but not all. This comes with any stop, a failed read too, since replies
-- that wait are written after it. Where the write failed before that, so that no further message
-- was served, the stop is `write_failed`
abbrev pub Writes : ConnectionEnd → Stop → List ℕ → Option (List ℕ) → Option (List ℕ) → Type 0
Writes ended stop bytes from to = (EndsAs stop ended × Appends from to bytes) ⊎ ((ended ≡ WriteFault) × AppendsPart from to bytes)

-- after a failed read these bytes of the reader are unread, where its bytes are known
abbrev pub LeavesUnread : Stop → Option (List ℕ) → Type 0
LeavesUnread (read_failed unread) left = IfSome left (λ known. known ≡ unread)
LeavesUnread _ left = ⊤

-- the messages of the input were served: their calls and the replies meet `Meets`, and the replies
-- were written as `ended` says; no later message was served
pub record ServesInput (Meets : List Call → List Reply → Type 0) (input : List ℕ) (left from to : Option (List ℕ)) (ended : ConnectionEnd) : Type 0 where
  pub messages : List Message
  pub stop : Stop
  pub has : HasMessages MESSAGE_LIMIT input messages stop
  pub replies : List Reply
  pub count : length replies ≡ length messages
  pub meets : Meets (calls_of messages) replies
  pub written : Writes ended stop (due stop messages replies) from to
  pub unread : LeavesUnread stop left
