-- A script: the lines of an input as calls, and replies as lines.
use Rattle.std.specs.Prelude.{ℕ, ◌==◌, ◌≤◌, List, [], ◌∷◌, ◌++◌, length, map, filter, Bool, nat_lt, if◌then◌else◌, Option, Some, None, option_map, decimal}
use Rattle.std.specs.List.{list_any, before_first, after_first}
use Rattle.std.specs.Str.{is_utf8}
use Rattle.std.specs.Str.Lines.{lines}
use Rattle.tenant_service.specs.Input.{OfInput}
use Rattle.tenant_service.specs.Writing.{shown_body}
use Rattle.crush_app.specs.declared.limits.TheConstants.{SCRIPT_LIMIT}
use Rattle.tenant_core.specs.tenant_messages.specs.Reply.{reply, refused}
use Rattle.tenant_core.specs.tenant_messages.specs.declared.call.Call.{Call}
use Rattle.tenant_core.specs.tenant_messages.specs.declared.reply.Reply.{Reply}
use Rattle.tenant_core.specs.tenant_messages.specs.declared.reply.Problem.TheVariants.{BadRequest}

-- ---- from bytes to calls

abbrev pub is_space : ℕ → Bool
is_space b = b == 32

-- bytes as text, where they are UTF-8
abbrev pub text_of : List ℕ → Option (List ℕ)
text_of bytes = if is_utf8 bytes then Some bytes else None

-- METHOD, a space and PATH, and after one more space BODY; without that space BODY is empty
abbrev pub call_of_line : List ℕ → Option Call
call_of_line line =
    if list_any is_space line then
    (let rest = after_first is_space line in
    option_map (λ path. record { method = before_first is_space line; path = path; body = after_first is_space rest }) (text_of (before_first is_space rest))) else None

abbrev pub is_nonempty : List ℕ → Bool
is_nonempty line = nat_lt 0 (length line)

-- the messages of some lines: for each line that isn't empty its call, or none where the line
-- doesn't have the form of a call
abbrev pub messages_in : List (List ℕ) → List (Option Call)
messages_in ls = map call_of_line (filter is_nonempty ls)

-- the messages of an input. Its lines end with LF, one CR before an LF is dropped, and the last LF
-- may be missing
abbrev pub messages : List ℕ → List (Option Call)
messages input = messages_in (lines input)

abbrev pub calls_in : List (Option Call) → List Call
calls_in [] = []
calls_in (None ∷ ms) = calls_in ms
calls_in (Some call ∷ ms) = call ∷ calls_in ms

-- ---- from replies to bytes

-- a reply as a line: STATUS, a space, the body, LF
abbrev pub wire : Reply → List ℕ
wire replied = (decimal replied.status ++ 32 ∷ []) ++ (shown_body replied.body ++ 10 ∷ [])

-- the reply to a line that doesn't have the form of a call
abbrev pub bad_line : Reply
bad_line = reply (refused BadRequest)

-- the lines for some messages, with the replies to the calls among them
abbrev pub output : List (Option Call) → List Reply → List ℕ
output [] replies = []
output (None ∷ ms) replies = wire bad_line ++ output ms replies
output (Some call ∷ ms) [] = []
output (Some call ∷ ms) (replied ∷ replies) = wire replied ++ output ms replies

-- ---- the input

-- this holds of an input that isn't too long, which is what the reader had, where its bytes are
-- known
abbrev pub OfScript : Option (List ℕ) → (List ℕ → Type 0) → Type 0
OfScript bytes Holds = OfInput bytes (λ input. (length input ≤ SCRIPT_LIMIT) × Holds input)
