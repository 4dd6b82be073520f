-- The messages of an input, and how the connection ends. This is a relation: `one_reading` says
-- that the messages are a function of the input.
use Rattle.std.specs.Prelude.{◌≡◌, ℕ, ◌-◌, ◌<◌, ◌⊎◌, ◌==◌, ◌||◌, Bool, true, false, List, [], ◌∷◌, ◌++◌, length, map, ⊤}
use Rattle.httparse.specs.Grammar.{RequestHead}
use Rattle.tenant_core.specs.tenant_messages.specs.declared.call.Call.{Call}
use Rattle.crush_http.specs.Head.{HeadAt, HasNoHead, IsHalfHead}
use Rattle.crush_http.specs.Headers.{bytes, rejected, size_of, headers_of, closes}
use Rattle.crush_http.specs.declared.rejection.Rejection.{Rejection}
use Rattle.crush_http.specs.declared.rejection.Rejection.TheVariants.{BadRequest}

-- ---- a message

-- a call, and whether the connection ends after its reply
pub record Message : Type 0 where
  pub call : Call
  pub last : Bool

abbrev pub calls_of : List Message → List Call
calls_of messages = map (λ m. m.call) messages

-- the message of a head and a body, where at most `most` messages may come, that message among
-- them. The path is the request target, unchanged
abbrev pub message_of : ℕ → RequestHead → List ℕ → Message
message_of most head body = record { call = record { method = head.method; path = head.target; body = body }; last = closes head || most == 1 }

-- the input is the message and then the rest
pub record MessageAt (most : ℕ) (input : List ℕ) (message : Message) (rest : List ℕ) : Type 0 where
  pub head : RequestHead
  pub body : List ℕ
  pub begins : HeadAt input head (body ++ rest)
  pub size : size_of (headers_of head) ≡ bytes (length body)
  pub is : message ≡ message_of most head body

-- ---- where there is no message

-- there is a head, and fewer bytes than its body has
pub record IsHalfBody (input : List ℕ) : Type 0 where
  pub head : RequestHead
  pub after : List ℕ
  pub size : ℕ
  pub begins : HeadAt input head after
  pub is : size_of (headers_of head) ≡ bytes size
  pub few : length after < size

-- a front of a message
abbrev pub IsHalf : List ℕ → Type 0
IsHalf input = IsHalfHead input ⊎ IsHalfBody input

-- there is a head whose body isn't taken, for the reason
pub record HasBadSize (input : List ℕ) (reason : Rejection) : Type 0 where
  pub head : RequestHead
  pub after : List ℕ
  pub begins : HeadAt input head after
  pub is : size_of (headers_of head) ≡ rejected reason

-- what comes is no message, for the reason, whatever bytes follow
abbrev pub IsRejected : List ℕ → Rejection → Type 0
IsRejected input reason = (HasNoHead input × (reason ≡ BadRequest)) ⊎ HasBadSize input reason

-- ---- the end

-- why no further message is served
pub data Stop : Type 0 where
  input_ended : Stop  -- the input ends before a message is whole
  refused : Rejection → Stop  -- what comes is no message
  last_served : Stop  -- the last message was served
  read_failed : List ℕ → Stop  -- a read failed before a message was whole; these bytes stay unread
  write_failed : Stop  -- a write failed; nothing is said of what follows

-- the connection stops at the front of the input
abbrev pub StopsAt : Stop → List ℕ → Type 0
StopsAt input_ended input = IsHalf input
StopsAt (refused reason) input = IsRejected input reason
StopsAt last_served input = ⊥
StopsAt (read_failed unread) input = (part : List ℕ) × (input ≡ part ++ unread) × IsHalf part
StopsAt write_failed input = ⊤

-- no message follows, and this is why
abbrev pub IsOver : List Message → Stop → Type 0
IsOver [] last_served = ⊤
IsOver [] write_failed = ⊤
IsOver [] input_ended = ⊥
IsOver [] (refused reason) = ⊥
IsOver [] (read_failed unread) = ⊥
IsOver (m ∷ ms) stop = ⊥

-- ---- a connection

-- after a message: nothing, where it was the last, or what the rest has
abbrev pub GoesOn : Bool → List Message → Stop → Type 0 → Type 0
GoesOn true ms stop More = IsOver ms stop
GoesOn false ms stop More = More

-- the input has these messages, at most `most`, and then stops so
abbrev pub HasMessages : ℕ → List ℕ → List Message → Stop → Type 0
HasMessages most input [] stop = StopsAt stop input
HasMessages most input (m ∷ ms) stop = (rest : List ℕ) × MessageAt most input m rest × GoesOn m.last ms stop (HasMessages (most - 1) rest ms stop)
