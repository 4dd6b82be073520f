-- The request number of a changing request.
use Rattle.std.specs.Prelude.{◌≡◌, ℕ, ◌≤◌, ◌&&◌, List, length, Bool, nat_le, if◌then◌else◌, Option, Some, None, option_and_then}
use Rattle.serde_json.specs.Data.{Data}
use Rattle.serde_json.specs.Find.{as_str}
use Rattle.tenant_messages.specs.Forms.{IsText}
use Rattle.tenant_messages.specs.declared.limits.TheConstants.{REQUEST_NUMBER_LIMIT}

-- a text of at least one byte, and at most REQUEST_NUMBER_LIMIT
pub record IsRequestNumber (d : Data) (number : List ℕ) : Type 0 where
  pub text : IsText d number
  pub some : 1 ≤ length number
  pub few : length number ≤ REQUEST_NUMBER_LIMIT

abbrev pub has_length : List ℕ → Bool
has_length number = nat_le 1 (length number) && nat_le (length number) REQUEST_NUMBER_LIMIT

abbrev pub if_has_length : List ℕ → Option (List ℕ)
if_has_length number = if has_length number then Some number else None

abbrev pub request_number_of : Data → Option (List ℕ)
request_number_of d = option_and_then if_has_length (as_str d)
