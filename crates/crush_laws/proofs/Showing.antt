-- Bytes that are written in part, and bodies as they are shown.
use Rattle.std.proofs.Common.{◌≡◌, ◌≢◌, ◌<◌, ◌++◌, ◌+◌, ℕ, List, [], ◌∷◌, length, Some, refl, sym, ap, ◌∙◌, arith}
use Rattle.std.proofs.lemmas.List.{length-append}
use Rattle.crush_server.specs.tenant_service.specs.Writing.{AppendsPart, shown_body}

pub is_less : (old new bytes : List ℕ) → AppendsPart (Some old) (Some new) bytes → length new < length old + length bytes
is_less old new bytes part =
    let front = part.front.front in
    let all : length front + length part.rest ≡ length bytes = sym (length-append front part.rest) ∙ ap (λ (l : List ℕ). length l) part.front.all in
    let grown : length new ≡ length old + length front = ap (λ (l : List ℕ). length l) part.front.written ∙ length-append old front in
    let some = part.some in
    omega (arith, all, grown, some)

pub is_shown : (body : List ℕ) → shown_body body ≢ []
is_shown [] e = cc
is_shown (b ∷ body) e = cc

pub same_shown : (body : List ℕ) → body ≢ [] → shown_body body ≡ body
same_shown [] ne = absurd (ne refl)
same_shown (b ∷ body) ne = refl
