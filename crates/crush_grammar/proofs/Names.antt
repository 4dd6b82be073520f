-- The bytes of names are text.
use Rattle.std.proofs.Common.{◌≡◌, ◌<◌, ℕ, true, false, List, [], ◌∷◌, ◌&&◌, Bool, refl, arith}
use Rattle.std.proofs.lemmas.Bool.Decides.{nat_tests}
use Rattle.std.proofs.lemmas.Str.{IsUtf8-from_ascii}
use Rattle.std.proofs.lemmas.Str.Ascii.{IsAscii-nil, IsAscii-cons}
use Rattle.std.specs.List.{list_all}
use Rattle.std.specs.Str.{IsAscii, IsUtf8}
use Rattle.crush_map.specs.Faults.{is_name_byte}

both : (a b : Bool) → (a && b) ≡ true → (a ≡ true) × (b ≡ true)
both true b h = (refl, h)
both false b h = cc

is_small : (b : ℕ) → is_name_byte b ≡ true → b < 128
is_small b h = grind (arith, nat_tests)

are_small : (bytes : List ℕ) → list_all is_name_byte bytes ≡ true → IsAscii bytes
are_small [] h = IsAscii-nil
are_small (b ∷ bytes) h = IsAscii-cons b bytes (is_small b (both (is_name_byte b) _ h).0) (are_small bytes (both (is_name_byte b) _ h).1)

pub are_utf8 : (bytes : List ℕ) → list_all is_name_byte bytes ≡ true → IsUtf8 bytes
are_utf8 bytes h = IsUtf8-from_ascii bytes (are_small bytes h)
