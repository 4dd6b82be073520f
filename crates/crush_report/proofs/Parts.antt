-- Lists that stand one behind the other in one.
use Rattle.std.proofs.Common.{◌≡◌, ◌<◌, ◌≤◌, ◌-◌, ◌++◌, ◌∷◌, ◌∙◌, ℕ, zero, suc, List, [], length, take, drop, get_or, refl, ap, arith, length-append, length-drop}
use Rattle.std.specs.Prelude.{slice_range}
use Rattle.std.proofs.lemmas.List.{drop-append-le, take-append-le, take_all}
use Rattle.crush_choose.specs.Marks.{Slot}
use Rattle.crush_report.proofs.Kept.{drop_first}
use Rattle.crush_report.specs.Private.Parts.{AreEnds, last_end, list_at, parts_of, start_at}

-- ---- one more list

-- the first list begins within the slots
first_within : (size start : ℕ) (ends : List ℕ) → AreEnds size start ends → start ≤ size
first_within size start [] are = are
first_within size start (end ∷ ends) are = omega (arith, are.0, first_within size end ends are.1)

pub ends_push : (size more start end : ℕ) (ends : List ℕ) → AreEnds size start ends → last_end start ends ≤ end → end ≤ more → AreEnds more start (ends ++ end ∷ [])
ends_push size more start end [] are le within = (le, within)
ends_push size more start end (e ∷ es) are le within = (are.0, ends_push size more e end es are.1 le within)

pub last_push : (start end : ℕ) (ends : List ℕ) → last_end start (ends ++ end ∷ []) ≡ end
last_push start end [] = refl
last_push start end (e ∷ es) = last_push e end es

-- a list stays where more is put behind
range_stays : (slots more : List Slot) (start end : ℕ) → start ≤ end → end ≤ length slots → slice_range (slots ++ more) start end ≡ slice_range slots start end
range_stays slots more start end le within =
    let short : end - start ≤ length (drop start slots) = omega (arith, within, le, length-drop start slots) in
    ap (take (end - start)) (drop-append-le start slots more (omega (arith, within, le))) ∙ take-append-le (end - start) (drop start slots) more short

-- what is put behind is the last one
last_range : (slots more : List Slot) → slice_range (slots ++ more) (length slots) (length (slots ++ more)) ≡ more
last_range slots more =
    let all : length more ≤ length (slots ++ more) - length slots = omega (arith, length-append slots more) in
    ap (take (length (slots ++ more) - length slots)) (drop_first slots more) ∙ take_all (length (slots ++ more) - length slots) more all

pub parts_push : (slots more : List Slot) (start : ℕ) (ends : List ℕ) → AreEnds (length slots) start ends → last_end start ends ≡ length slots
    → parts_of (slots ++ more) start (ends ++ length (slots ++ more) ∷ []) ≡ parts_of slots start ends ++ more ∷ []
parts_push slots more start [] are last = rw last (ap (λ (part : List Slot). part ∷ []) (last_range slots more))
parts_push slots more start (e ∷ es) are last =
    let within = first_within (length slots) e es are.1 in
    let rest = parts_push slots more e es are.1 last in
    ap (λ (part : List Slot). part ∷ parts_of (slots ++ more) e (es ++ length (slots ++ more) ∷ [])) (range_stays slots more start e are.0 within)
    ∙ ap (λ (parts : List (List Slot)). slice_range slots start e ∷ parts) rest

-- ---- one of the lists

next_start : (start end : ℕ) (ends : List ℕ) (place : ℕ) → start_at end ends place ≡ start_at start (end ∷ ends) (suc place)
next_start start end ends zero = refl
next_start start end ends (suc place) = refl

pub part_at : (slots : List Slot) (start : ℕ) (ends : List ℕ) (place : ℕ) → place < length ends
    → list_at (parts_of slots start ends) place ≡ slice_range slots (start_at start ends place) (get_or ends place 0)
part_at slots start [] place lt = absurd (omega (arith, lt))
part_at slots start (e ∷ es) zero lt = refl
part_at slots start (e ∷ es) (suc place) lt =
    part_at slots e es place (omega (arith, lt)) ∙ ap (λ (from : ℕ). slice_range slots from (get_or es place 0)) (next_start start e es place)

pub none_past : (slots : List Slot) (start : ℕ) (ends : List ℕ) (place : ℕ) → length ends ≤ place → list_at (parts_of slots start ends) place ≡ []
none_past slots start [] place le = refl
none_past slots start (e ∷ es) zero le = absurd (omega (arith, le))
none_past slots start (e ∷ es) (suc place) le = none_past slots e es place (omega (arith, le))

-- each list lies within the slots
pub ordered : (size start : ℕ) (ends : List ℕ) (place : ℕ) → place < length ends → AreEnds size start ends → start_at start ends place ≤ get_or ends place 0
ordered size start [] place lt are = absurd (omega (arith, lt))
ordered size start (e ∷ es) zero lt are = are.0
ordered size start (e ∷ es) (suc place) lt are = rw (← next_start start e es place) (ordered size e es place (omega (arith, lt)) are.1)

pub within : (size start : ℕ) (ends : List ℕ) (place : ℕ) → place < length ends → AreEnds size start ends → get_or ends place 0 ≤ size
within size start [] place lt are = absurd (omega (arith, lt))
within size start (e ∷ es) zero lt are = first_within size e es are.1
within size start (e ∷ es) (suc place) lt are = within size e es place (omega (arith, lt)) are.1
