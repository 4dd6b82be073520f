-- The first word of bytes.
use Rattle.std.proofs.Common.{◌≡◌, ℕ, ◌<◌, ◌==◌, List, [], ◌∷◌, take, drop, Bool, true, false, if◌then◌else◌, refl, ap, arith}
use Rattle.std.proofs.lemmas.Bool.Decides.{nat_tests}
use Rattle.crush_map.specs.Faults.{is_name_byte}
use Rattle.crush_grammar.specs.Words.{words_from, onto, alone}
use Rattle.crush_grammar.specs.Private.Scan.{run_len}

name_not_lf : (b : ℕ) → is_name_byte b ≡ true → (b == 10) ≡ false
name_not_lf b e = grind (arith, nat_tests)

other : {A : Type 0} (k : Bool) (x y : A) → k ≡ false → (if k then x else y) ≡ y
other true x y e = cc
other false x y e = refl

-- the first word has n bytes
abbrev IsFirst : ℕ → ℕ → List ℕ → Type 0
IsFirst line n bytes = words_from false line bytes ≡ record { line = line; text = take n bytes; straw2 = false } ∷ words_from false line (drop n bytes)

ahead : (line b : ℕ) (c : ℕ) (cs : List ℕ) (k : Bool) → is_name_byte c ≡ k → (0 < run_len (c ∷ cs) → IsFirst line (run_len (c ∷ cs)) (c ∷ cs)) →
    (if is_name_byte c then onto b (words_from false line (c ∷ cs)) else alone line b (words_from false line (c ∷ cs))) ≡ record { line = line; text = b ∷ take (run_len (c ∷ cs)) (c ∷ cs); straw2 = false } ∷ words_from false line (drop (run_len (c ∷ cs)) (c ∷ cs))
ahead line b c cs true e more =
    let some : 0 < run_len (c ∷ cs) = rw e (omega arith) in
    rw e (ap (onto b) (rw e at (more some)))
ahead line b c cs false e more =
    let none : run_len (c ∷ cs) ≡ 0 = rw e refl in
    rw none (other (is_name_byte c) _ _ e)

by_name : (line b : ℕ) (bs : List ℕ) (k : Bool) → is_name_byte b ≡ k → 0 < run_len (b ∷ bs) → (0 < run_len bs → IsFirst line (run_len bs) bs) → IsFirst line (run_len (b ∷ bs)) (b ∷ bs)
by_name line b [] true e h more = rw (name_not_lf b e, e) refl
by_name line b (c ∷ cs) true e h more = rw (name_not_lf b e, e) (ahead line b c cs (is_name_byte c) refl more)
by_name line b bs false e h more = let bad = rw e at h in absurd (omega arith)

pub run_word : (line : ℕ) (bs : List ℕ) → 0 < run_len bs → IsFirst line (run_len bs) bs
run_word line [] h = absurd (omega arith)
run_word line (b ∷ bs) h = by_name line b bs (is_name_byte b) refl h (run_word line bs)
