-- Replies as bytes (RFC 9112, sections 4 and 6).
use Rattle.std.specs.Prelude.{ℕ, ◌&&◌, Bool, true, false, List, [], ◌∷◌, ◌++◌, length, nat_le, nat_lt, if◌then◌else◌, codes, decimal, unwrap_or}
use Rattle.std.specs.List.{flat_map}
use Rattle.http.specs.StatusCode.{reason_phrase}
use Rattle.tenant_core.specs.tenant_messages.specs.declared.reply.Reply.{Reply}
use Rattle.tenant_service.specs.Writing.{shown_body}
use Rattle.crush_http.specs.Messages.{Message}
use Rattle.crush_http.specs.declared.rejection.Rejection.{Rejection}
use Rattle.crush_http.specs.declared.rejection.Rejection.TheVariants.{BadRequest, TooLarge, Length}

-- the phrase of a status of three digits (RFC 9110, section 15), by the crate `http`; none where it
-- knows none
abbrev pub phrase : ℕ → List ℕ
phrase status = if nat_le 100 status && nat_lt status 1000 then unwrap_or (reason_phrase status) [] else []

-- the line `Connection: close` of a reply after which the connection ends
abbrev pub close_line : Bool → List ℕ
close_line true = codes "Connection: close\r\n"
close_line false = []

abbrev pub pieces : Bool → ℕ → List ℕ → List (List ℕ)
pieces last status body =
    codes "HTTP/1.1 " ∷ decimal status ∷ codes " " ∷ phrase status ∷ codes "\r\nContent-Length: " ∷ decimal (length body)
    ∷ codes "\r\nContent-Type: application/json\r\n" ∷ close_line last ∷ codes "\r\n" ∷ body ∷ []

-- a reply with a status and a body, after which the connection ends or goes on
unfoldable pub wire : Bool → ℕ → List ℕ → List ℕ
wire last status body = flat_map (λ piece. piece) (pieces last status body)

-- ---- replies to messages

abbrev pub reply_wire : Bool → Reply → List ℕ
reply_wire last reply = wire last reply.status (shown_body reply.body)

-- the replies to messages, in order
abbrev pub output : List Message → List Reply → List ℕ
output [] replies = []
output (m ∷ ms) [] = []
output (m ∷ ms) (reply ∷ replies) = reply_wire m.last reply ++ output ms replies

-- ---- where there is no message

abbrev pub rejection_status : Rejection → ℕ
rejection_status BadRequest = 400
rejection_status TooLarge = 413
rejection_status Length = 501

abbrev pub rejection_body : Rejection → List ℕ
rejection_body BadRequest = codes "{\"error\":\"bad_request\"}"
rejection_body TooLarge = codes "{\"error\":\"too_large\"}"
rejection_body Length = codes "{\"error\":\"length\"}"

-- the reply to what is no message; the connection then ends
abbrev pub rejection_wire : Rejection → List ℕ
rejection_wire reason = wire true (rejection_status reason) (rejection_body reason)
