-- The messages are a function of the whole input, and so is the stop, but for one choice.
use Rattle.std.specs.Prelude.{◌≡◌, ℕ, ◌-◌, ◌⊎◌, List, [], ◌∷◌, ◌++◌, ⊤}
use Rattle.httparse.specs.Spans.{RequestOverflows}
use Rattle.crush_http.specs.Head.{IsHalfHead}
use Rattle.crush_http.specs.Messages.{Message, MessageAt, Stop, input_ended, refused, last_served, read_failed, write_failed, HasMessages}
use Rattle.crush_http.specs.declared.limits.TheConstants.{HEADER_LIMIT, MESSAGE_LIMIT}

-- there is no head yet and no continuation makes one within the limits, which need not show yet:
-- there are too many headers already, or the target can't be mended. Such an end is `input_ended`
-- or a refusal
abbrev pub IsUndecided : List ℕ → Type 0
IsUndecided rest = IsHalfHead rest × RequestOverflows HEADER_LIMIT rest

-- undecided bytes follow the messages of the input, which are at most `most`
abbrev pub EndsUndecided : ℕ → List ℕ → List Message → Type 0
EndsUndecided most input [] = IsUndecided input
EndsUndecided most input (m ∷ ms) = (rest : List ℕ) × MessageAt most input m rest × EndsUndecided (most - 1) rest ms

-- the stop is the input's own
abbrev pub IsOfInput : Stop → Type 0
IsOfInput input_ended = ⊤
IsOfInput (refused reason) = ⊤
IsOfInput last_served = ⊤
IsOfInput (read_failed unread) = ⊥
IsOfInput write_failed = ⊥

-- the stop is a fault of the reader or of the writer
abbrev pub IsOfFault : Stop → Type 0
IsOfFault input_ended = ⊥
IsOfFault (refused reason) = ⊥
IsOfFault last_served = ⊥
IsOfFault (read_failed unread) = ⊤
IsOfFault write_failed = ⊤

abbrev pub OneReading : Type 0
OneReading =
    (input : List ℕ) (ms ns : List Message) (s t : Stop) → HasMessages MESSAGE_LIMIT input ms s → HasMessages MESSAGE_LIMIT input ns t → IsOfInput s → IsOfInput t
    → (ms ≡ ns) × ((s ≡ t) ⊎ EndsUndecided MESSAGE_LIMIT input ms)

-- the messages that were served up to a fault are the first messages of the input
abbrev pub FaultReading : Type 0
FaultReading =
    (input : List ℕ) (ms ns : List Message) (s t : Stop) → HasMessages MESSAGE_LIMIT input ms s → HasMessages MESSAGE_LIMIT input ns t → IsOfFault s → IsOfInput t
    → (more : List Message) × (ms ++ more ≡ ns)
