-- What the headers of a head say: the length of the body (RFC 9112, section 6), and whether the
-- connection ends after the reply (section 9). Other headers have no effect, `Expect` among them.
use Rattle.std.specs.Prelude.{ℕ, ◌==◌, ◌&&◌, ◌||◌, Bool, List, [], ◌∷◌, length, map, nat_lt, nat_le, if◌then◌else◌, codes, bytes_eq}
use Rattle.std.specs.List.{list_any, list_all, flat_map}
use Rattle.std.specs.Char.{to_ascii_lowercase, is_ascii_digit}
use Rattle.std.specs.Str.Parse.{digits_value}
use Rattle.httparse.specs.Grammar.{RequestHead}
use Rattle.httparse.specs.Spans.{name_and_value}
use Rattle.tenant_core.specs.declared.limits.TheConstants.{BODY_LIMIT}
use Rattle.crush_http.specs.declared.rejection.Rejection.{Rejection}
use Rattle.crush_http.specs.declared.rejection.Rejection.TheVariants.{BadRequest, TooLarge, Length}

-- names and values, in order. Spaces and tabs around a value are no part of it
abbrev pub Headers : Type 0
Headers = List (List ℕ × List ℕ)

abbrev pub headers_of : RequestHead → Headers
headers_of head = map name_and_value head.fields

-- the texts are the same but for the case of ASCII letters
abbrev pub same_word : List ℕ → List ℕ → Bool
same_word a b = bytes_eq (map to_ascii_lowercase a) (map to_ascii_lowercase b)

-- the values of the headers of a name, in order
abbrev pub values : List ℕ → Headers → List (List ℕ)
values name headers = flat_map (λ h. if same_word h.0 name then h.1 ∷ [] else []) headers

-- ---- the body

-- the length of a body, in bytes, or why the message isn't served
pub data Size : Type 0 where
  bytes : ℕ → Size
  rejected : Rejection → Size

-- a length is written in 1 to 10 decimal digits
abbrev pub is_length : List ℕ → Bool
is_length text = nat_lt 0 (length text) && (nat_le (length text) 10 && list_all is_ascii_digit text)

abbrev pub limited_size : ℕ → Size
limited_size n = if nat_le n BODY_LIMIT then bytes n else rejected TooLarge

-- without a Content-Length the body is empty; more than one is refused, even where they agree
abbrev pub size_by_length : List (List ℕ) → Size
size_by_length [] = bytes 0
size_by_length (text ∷ []) = if is_length text then limited_size (digits_value 10 text) else rejected BadRequest
size_by_length (text ∷ again ∷ more) = rejected BadRequest

-- each Transfer-Encoding is refused, whatever else the headers say
abbrev pub size_by_both : List (List ℕ) → List (List ℕ) → Size
size_by_both [] lengths = size_by_length lengths
size_by_both (coding ∷ codings) lengths = rejected Length

abbrev pub size_of : Headers → Size
size_of headers = size_by_both (values (codes "transfer-encoding") headers) (values (codes "content-length") headers)

-- ---- the end of the connection

-- one of the Connection headers has the value `close`, and nothing else
abbrev pub asks_close : Headers → Bool
asks_close headers = list_any (λ value. same_word value (codes "close")) (values (codes "connection") headers)

-- HTTP/1.0, or `Connection: close`
abbrev pub closes : RequestHead → Bool
closes head = (head.minor == 0) || asks_close (headers_of head)
