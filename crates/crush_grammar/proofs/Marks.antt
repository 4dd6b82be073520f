-- Texts that ask for straw2.
use Rattle.std.proofs.Common.{◌≡◌, ℕ, ◌==◌, ◌||◌, List, [], ◌∷◌, ◌++◌, Bool, true, false, if◌then◌else◌, refl, ap, sym, ◌∙◌, ◌≢◌, bytes_eq}
use Rattle.std.proofs.lemmas.Slice.Eq.{bytes_eq-Decides}
use Rattle.crush_map.specs.Mark.{straw2_mark}
use Rattle.crush_grammar.specs.Words.{first_line, asks_for_straw2}
use Rattle.crush_grammar.specs.Private.Ends.{ends_line}

-- after the mark, the end of the line decides
pub asks_by_end : (rest : List ℕ) → asks_for_straw2 (straw2_mark ++ rest) ≡ ends_line rest
unfolding asks_for_straw2
asks_by_end rest = refl

begins_by : (b c : ℕ) (bytes p q : List ℕ) (k : Bool) → (if k then [] else b ∷ first_line bytes) ≡ c ∷ (p ++ q) →
    (first_line bytes ≡ p ++ q → (rest : List ℕ) × (bytes ≡ p ++ rest)) → (rest : List ℕ) × (b ∷ bytes ≡ c ∷ (p ++ rest))
begins_by b c bytes p q true e more = cc
begins_by b c bytes p q false e more = let (rest, f) = more (cc) in (rest, cc)

-- a text begins as its first line does
begins : (p q bytes : List ℕ) → first_line bytes ≡ p ++ q → (rest : List ℕ) × (bytes ≡ p ++ rest)
begins [] q bytes e = (bytes, refl)
begins (c ∷ p) q [] e = cc
begins (c ∷ p) q (b ∷ bytes) e = begins_by b c bytes p q (b == 10) e (begins p q bytes)

asks_by : (bytes : List ℕ) (j k : Bool) → bytes_eq (first_line bytes) straw2_mark ≡ j → bytes_eq (first_line bytes) (straw2_mark ++ 13 ∷ []) ≡ k → (j || k) ≡ true → (rest : List ℕ) × (bytes ≡ straw2_mark ++ rest)
asks_by bytes true k e f h = begins straw2_mark [] bytes ((bytes_eq-Decides (first_line bytes) straw2_mark).0 e)
asks_by bytes false true e f h = begins straw2_mark (13 ∷ []) bytes ((bytes_eq-Decides (first_line bytes) (straw2_mark ++ 13 ∷ [])).0 f)
asks_by bytes false false e f h = cc

-- only a text that begins with the mark asks
pub asks_only : (bytes : List ℕ) → asks_for_straw2 bytes ≡ true → (rest : List ℕ) × (bytes ≡ straw2_mark ++ rest)
unfolding asks_for_straw2
asks_only bytes h = asks_by bytes _ _ refl refl h

unless_by : (bytes : List ℕ) (k : Bool) → asks_for_straw2 bytes ≡ k → ((rest : List ℕ) → bytes ≡ straw2_mark ++ rest → ⊥) → k ≡ false
unless_by bytes true e none = let (rest, f) = asks_only bytes e in absurd (none rest f)
unless_by bytes false e none = refl

-- where the mark is taken from the front, the rest decides
pub asks_after : (mark bytes rest : List ℕ) → mark ≡ straw2_mark → bytes ≡ mark ++ rest → ends_line rest ≡ asks_for_straw2 bytes
asks_after mark bytes rest m e = sym (ap asks_for_straw2 (e ∙ ap (λ p. p ++ rest) m) ∙ asks_by_end rest)

pub asks_unless : (mark bytes : List ℕ) → mark ≡ straw2_mark → ((rest : List ℕ) → bytes ≢ mark ++ rest) → false ≡ asks_for_straw2 bytes
asks_unless mark bytes m none = sym (unless_by bytes (asks_for_straw2 bytes) refl (λ rest e. none rest (e ∙ ap (λ p. p ++ rest) (sym m))))
