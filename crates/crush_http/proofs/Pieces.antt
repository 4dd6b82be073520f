-- A reply that is written in pieces.
use Rattle.std.proofs.Common.{◌≡◌, ℕ, ◌<◌, List, [], ◌∷◌, length, map, Option, Some, None, Bool, true, false, ◌&&◌, ◌≤◌, nat_le, nat_lt, if◌then◌else◌, arith, refl, ap, sym, ◌∙◌, codes, decimal}
use Rattle.std.specs.List.{flat_map}
use Rattle.std.specs.Prelude.{option_map, unwrap_or}
use Rattle.std.proofs.lemmas.Bool.Decides.{nat_tests}
use Rattle.http.specs.StatusCode.{reason_phrase}
use Rattle.std.specs.Borrow.{Bor}
use Rattle.std.proofs.lemmas.List.Folds.{flat_map-map}
use Rattle.crush_http.specs.Wire.{wire, pieces, phrase, close_line}

-- references to pieces
pieces_read : (xs : List (Bor (List ℕ))) (ps : List (List ℕ)) → map (λ x. x.now) xs ≡ ps → flat_map (λ x. x.now) xs ≡ flat_map (λ p. p) ps
pieces_read xs ps e = sym (flat_map-map (λ p. p) (λ x. x.now) xs) ∙ ap (flat_map (λ p. p)) e

pub reply_pieces : (xs : List (Bor (List ℕ))) (last : Bool) (status : ℕ) (body a b c d : List ℕ)
    → map (λ x. x.now) xs ≡ codes "HTTP/1.1 " ∷ a ∷ codes " " ∷ b ∷ codes "\r\nContent-Length: " ∷ c ∷ codes "\r\nContent-Type: application/json\r\n" ∷ d ∷ codes "\r\n" ∷ body ∷ []
    → a ≡ decimal status → b ≡ phrase status → c ≡ decimal (length body) → d ≡ close_line last
    → flat_map (λ x. x.now) xs ≡ wire last status body
unfolding wire
reply_pieces xs last status body a b c d e p q r s =
    let same : (codes "HTTP/1.1 " ∷ a ∷ codes " " ∷ b ∷ codes "\r\nContent-Length: " ∷ c ∷ codes "\r\nContent-Type: application/json\r\n" ∷ d ∷ codes "\r\n" ∷ body ∷ []) ≡ pieces last status body =
    λ i. codes "HTTP/1.1 " ∷ p i ∷ codes " " ∷ q i ∷ codes "\r\nContent-Length: " ∷ r i ∷ codes "\r\nContent-Type: application/json\r\n" ∷ s i ∷ codes "\r\n" ∷ body ∷ [] in
    pieces_read xs (pieces last status body) (e ∙ same)

-- ---- phrases

if_true : (b : Bool) (xs : List ℕ) → b ≡ true → (if b then xs else []) ≡ xs
if_true true xs e = refl
if_true false xs e = cc

text_of : (found : Option (Bor (List ℕ))) (none : Bor (List ℕ)) → none.now ≡ [] → (unwrap_or found none).now ≡ unwrap_or (option_map (λ s. s.now) found) []
text_of None none e = e
text_of (Some s) none e = refl

pub phrase_known : (status code : ℕ) (found : Option (Bor (List ℕ))) (text none : Bor (List ℕ)) → 100 ≤ status → status < 1000 → code ≡ status → option_map (λ s. s.now) found ≡ reason_phrase code
    → text ≡ unwrap_or found none → none.now ≡ [] → text.now ≡ phrase status
phrase_known status code found text none low high same said is empty =
    let three : (nat_le 100 status && nat_lt status 1000) ≡ true = grind (arith, nat_tests, low, high) in
    ap (λ t. t.now) is ∙ text_of found none empty ∙ ap (λ o. unwrap_or o []) (said ∙ ap reason_phrase same)
    ∙ sym (if_true (nat_le 100 status && nat_lt status 1000) (unwrap_or (reason_phrase status) []) three)
