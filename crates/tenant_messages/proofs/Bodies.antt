-- The text and the value of a body.
use Rattle.std.proofs.Common.{◌≡◌, ℕ, List, Bool, true, false, Option, Some, None, refl}
use Rattle.std.specs.Str.{IsUtf8, is_utf8}
use Rattle.std.proofs.lemmas.Str.{IsUtf8-from_is_utf8, is_utf8-from_IsUtf8}
use Rattle.serde_json.specs.Data.{Data}
use Rattle.serde_json.specs.Read.{read}
use Rattle.tenant_messages.specs.Json.{text_of, value_of}

-- UTF-8 is a text
pub text_of-utf8 : (body : List ℕ) → IsUtf8 body → text_of body ≡ Some body
text_of-utf8 body utf8 = rw (is_utf8-from_IsUtf8 body utf8) refl

no_text_by : (body : List ℕ) (b : Bool) → is_utf8 body ≡ b → ¬ IsUtf8 body → text_of body ≡ None
no_text_by body true e h = absurd (h (IsUtf8-from_is_utf8 body e))
no_text_by body false e h = rw e refl

-- what isn't UTF-8 is none
pub text_of-other : (body : List ℕ) → ¬ IsUtf8 body → text_of body ≡ None
text_of-other body h = no_text_by body (is_utf8 body) refl h

-- the value of a text is what it reads as
pub value_of-text : (body : List ℕ) → IsUtf8 body → value_of body ≡ read body
value_of-text body utf8 = rw (text_of-utf8 body utf8) refl
