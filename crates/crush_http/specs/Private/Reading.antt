-- What was read into the buffer and the body.
use Rattle.std.specs.Prelude.{◌≡◌, ℕ, ◌+◌, ◌-◌, ◌<◌, ◌≤◌, min, List, [], ◌∷◌, ◌++◌, length, take, drop, Option, Result, Ok, Err}
use Rattle.std.specs.Io.KnownBytes.{Consumes, IsAtEnd}
use Rattle.httparse.specs.Grammar.{RequestHead}
use Rattle.httparse.specs.Spans.{IsWithin, span_bytes}
use Rattle.tenant_core.specs.declared.limits.TheConstants.{BODY_LIMIT}
use Rattle.tenant_core.specs.tenant_messages.specs.declared.call.Call.{Call}
use Rattle.crush_http.specs.Head.{HeadAt}
use Rattle.crush_http.specs.Headers.{Size, bytes, rejected, size_of, headers_of, closes}
use Rattle.crush_http.specs.Messages.{IsHalf, IsRejected}
use Rattle.crush_http.specs.declared.headers.Values.{Values}
use Rattle.crush_http.specs.declared.headers.Values.TheVariants.{None, One, Many}
use Rattle.crush_http.specs.declared.message.Incoming.{Incoming}
use Rattle.crush_http.specs.declared.message.Incoming.TheVariants as incoming
use Rattle.crush_http.specs.declared.request.MessagePlaces.{MessagePlaces}
use Rattle.crush_http.specs.declared.rejection.Rejection.{Rejection}

-- bytes were read, and `Holds` holds of those that were there, followed by the bytes read
pub record ReadsOn (there : List ℕ) (old new : Option (List ℕ)) (Holds : List ℕ → Type 0) : Type 0 where
  pub more : List ℕ
  pub taken : Consumes old new more
  pub holds : Holds (there ++ more)

-- ---- headers

-- the headers have no value, one value, or more
abbrev pub AreValues : Values → List (List ℕ) → Type 0
AreValues None vs = vs ≡ []
AreValues (One v) vs = vs ≡ v.now ∷ []
AreValues Many vs = 1 < length vs

abbrev pub IsSize : Result ℕ Rejection → Size → Type 0
IsSize (Ok n) size = size ≡ bytes n
IsSize (Err reason) size = size ≡ rejected reason

-- ---- a head

-- the buffer begins with the head of the request
pub record IsRequest (buffer : List ℕ) (r : MessagePlaces) (head : RequestHead) : Type 0 where
  pub begins : HeadAt buffer head (drop r.len buffer)
  pub within : r.len ≤ length buffer
  pub method_within : IsWithin (length buffer) r.method
  pub path_within : IsWithin (length buffer) r.path
  pub method : span_bytes buffer r.method ≡ head.method
  pub path : span_bytes buffer r.path ≡ head.target
  pub size : size_of (headers_of head) ≡ bytes r.size
  pub small : r.size ≤ BODY_LIMIT
  pub closes : r.closes ≡ closes head

-- the number of bytes that belong to the message, of the `count` bytes in the buffer
abbrev pub used : MessagePlaces → ℕ → ℕ
used r count = r.len + min r.size (count - r.len)

abbrev pub call_in : List ℕ → MessagePlaces → List ℕ → Call
call_in buffer r body = record { method = span_bytes buffer r.method; path = span_bytes buffer r.path; body = body }

-- ---- a body

-- all bytes are those of the body, and then the bytes of `first` that follow it
abbrev pub IsBodyOf : List ℕ → List ℕ → List ℕ → Type 0
IsBodyOf body first all = all ≡ body ++ drop (length body) first

-- ---- a message

-- all bytes begin with the message of the request and the body; the rest is in the buffer
pub record IsMessageOf (buffer : List ℕ) (r : MessagePlaces) (body all : List ℕ) : Type 0 where
  pub head : RequestHead
  pub is : IsRequest buffer r head
  pub begins : HeadAt all head (take r.size body ++ drop (used r (length buffer)) buffer)
  pub long : r.size ≤ length body

-- what was found in front of the input
abbrev pub Finds : Incoming → List ℕ → List ℕ → List ℕ → Option (List ℕ) → Option (List ℕ) → Type 0
Finds (incoming.Message r) there buffer body old new = ReadsOn there old new (IsMessageOf buffer r body)
Finds (incoming.Rejected reason) there buffer body old new = ReadsOn there old new (λ all. IsRejected all reason)
Finds incoming.Ended there buffer body old new = ReadsOn there old new IsHalf × IsAtEnd new
Finds incoming.Fault there buffer body old new = ReadsOn there old new IsHalf
