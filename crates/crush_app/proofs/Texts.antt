-- Whether bytes are text.
use Rattle.std.proofs.Common.{◌≡◌, ℕ, List, Bool, true, false, if◌then◌else◌, Some, None, option_map, Result, Ok, Err, refl, ap, MatchResult}
use Rattle.std.specs.Result.{result_ok}
use Rattle.std.specs.Str.{IsUtf8, is_utf8}
use Rattle.std.proofs.lemmas.Str.{IsUtf8-from_is_utf8, is_utf8-from_IsUtf8}
use Rattle.crush_app.specs.Script.{text_of}

no_text : (bytes : List ℕ) (b : Bool) → is_utf8 bytes ≡ b → (IsUtf8 bytes → ⊥) → None ≡ (if b then Some bytes else None)
no_text bytes true is not = absurd (not (IsUtf8-from_is_utf8 bytes is))
no_text bytes false is not = refl

-- what `from_utf8` gives is the text, and where it gives none the bytes are no text
pub text_of-result : {S E : Type 0} (shown : S → List ℕ) (Why : E → Type 0) (bytes : List ℕ) (read : Result S E)
    → MatchResult read (λ s. (shown s ≡ bytes) × IsUtf8 bytes) (λ e. (IsUtf8 bytes → ⊥) × Why e) → option_map shown (result_ok read) ≡ text_of bytes
text_of-result shown Why bytes (Ok s) h = rw (is_utf8-from_IsUtf8 bytes h.1) (ap (λ t. Some t) h.0)
text_of-result shown Why bytes (Err e) h = no_text bytes (is_utf8 bytes) refl h.0
