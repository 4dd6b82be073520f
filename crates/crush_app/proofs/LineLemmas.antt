-- The first line of an input.
use Rattle.std.proofs.Common.{◌≡◌, ◌==◌, ℕ, ◌+◌, ◌-◌, ◌<◌, ◌≤◌, List, [], ◌∷◌, length, take, drop, Bool, true, false, nat_lt, if◌then◌else◌, Some, None, position, refl, ap, sym, ◌∙◌, arith, length-drop}
use Rattle.std.proofs.lemmas.Bool.Decides.{nat_tests}
use Rattle.std.proofs.lemmas.List.{take_all, drop_all}
use Rattle.std.proofs.lemmas.List.Splits.{slice_split_first, length-slice_split}
use Rattle.std.specs.List.{position_or_len, before_first, after_first, slice_split}
use Rattle.std.specs.Str.Lines.{lines, lines_of_parts, strip_carriage_return}

-- ---- the first place that passes

some_by : (n len i : ℕ) (b : Bool) → nat_lt n len ≡ b → (if b then Some n else None) ≡ Some i → (n ≡ i) × (n < len)
some_by n len i true e h = (let same : Some n ≡ Some i = h in cc, grind (arith, nat_tests))
some_by n len i false e h = cc

pub position-some : (p : ℕ → Bool) (xs : List ℕ) (i : ℕ) → position p xs ≡ Some i → (position_or_len p xs ≡ i) × (position_or_len p xs < length xs)
position-some p xs i h = some_by (position_or_len p xs) (length xs) i (nat_lt (position_or_len p xs) (length xs)) refl h

none_by : (n len : ℕ) (b : Bool) → nat_lt n len ≡ b → (if b then Some n else None) ≡ None → len ≤ n
none_by n len true e h = let bad : Some n ≡ None = h in cc
none_by n len false e h = grind (arith, nat_tests)

pub position-none : (p : ℕ → Bool) (xs : List ℕ) → position p xs ≡ None → length xs ≤ position_or_len p xs
position-none p xs h = none_by (position_or_len p xs) (length xs) (nat_lt (position_or_len p xs) (length xs)) refl h

-- ---- what is before it and after it

pub before-some : (p : ℕ → Bool) (xs : List ℕ) (i : ℕ) → position p xs ≡ Some i → take i xs ≡ before_first p xs
before-some p xs i h = ap (λ n. take n xs) (sym (position-some p xs i h).0)

-- the rest of a slice from a place on
rest_of : (xs : List ℕ) (k : ℕ) → take (length xs - k) (drop k xs) ≡ drop k xs
rest_of xs k = take_all (length xs - k) (drop k xs) (omega (arith, length-drop k xs))

pub after-some : (p : ℕ → Bool) (xs : List ℕ) (i : ℕ) → position p xs ≡ Some i → take (length xs - (i + 1)) (drop (i + 1) xs) ≡ after_first p xs
after-some p xs i h = rest_of xs (i + 1) ∙ ap (λ n. drop (n + 1) xs) (sym (position-some p xs i h).0)

pub before-none : (p : ℕ → Bool) (xs : List ℕ) → position p xs ≡ None → xs ≡ before_first p xs
before-none p xs h = sym (take_all (position_or_len p xs) xs (position-none p xs h))

pub after-none : (p : ℕ → Bool) (xs : List ℕ) → position p xs ≡ None → [] ≡ after_first p xs
after-none p xs h = let all = position-none p xs h in sym (drop_all (position_or_len p xs + 1) xs (omega arith))

-- ---- lines

-- without a byte that passes there is one part
split_by : (p : ℕ → Bool) (x : ℕ) (xs : List ℕ) (b : Bool) → p x ≡ b → length (x ∷ xs) ≤ position_or_len p (x ∷ xs)
    → (length xs ≤ position_or_len p xs → slice_split p xs ≡ xs ∷ []) → slice_split p (x ∷ xs) ≡ (x ∷ xs) ∷ []
split_by p x xs true e h more = let le = rw e at h in absurd (omega arith)
split_by p x xs false e h more = let le = rw e at h in let less : length xs ≤ position_or_len p xs = omega arith in rw (e, more less) refl

split_none : (p : ℕ → Bool) (xs : List ℕ) → length xs ≤ position_or_len p xs → slice_split p xs ≡ xs ∷ []
split_none p [] h = refl
split_none p (x ∷ xs) h = split_by p x xs (p x) refl h (split_none p xs)

-- a part before another is a line, less a CR at its end
parts-first : (x : List ℕ) (ys : List (List ℕ)) → 0 < length ys → lines_of_parts (x ∷ ys) ≡ strip_carriage_return x ∷ lines_of_parts ys
parts-first x [] h = absurd (omega arith)
parts-first x (y ∷ ys) h = refl

abbrev is_newline : ℕ → Bool
is_newline b = b == 10

-- an input with an LF: its first line, and the lines of what follows
pub lines-some : (xs : List ℕ) (i : ℕ) (line : List ℕ) → position (λ b. b == 10) xs ≡ Some i → line ≡ strip_carriage_return (take i xs)
    → lines xs ≡ line ∷ lines (take (length xs - (i + 1)) (drop (i + 1) xs))
lines-some xs i line h stripped =
    let at = position-some is_newline xs i h in
    let more : 0 < length (slice_split is_newline (after_first is_newline xs)) = omega (arith, length-slice_split is_newline (after_first is_newline xs)) in
    ap lines_of_parts (slice_split_first is_newline xs 0 at.1)
    ∙ parts-first (before_first is_newline xs) (slice_split is_newline (after_first is_newline xs)) more
    ∙ rw (after-some is_newline xs i h, stripped, before-some is_newline xs i h) refl

-- an input with none is one line
only_by : (xs : List ℕ) (b : Bool) → (length xs == 0) ≡ b → 0 < length xs → lines_of_parts (xs ∷ []) ≡ xs ∷ []
only_by xs true e h = let zero : length xs ≡ 0 = grind (arith, nat_tests, e) in absurd (omega arith)
only_by xs false e h = rw e refl

only_line : (xs : List ℕ) → 0 < length xs → lines_of_parts (xs ∷ []) ≡ xs ∷ []
only_line xs h = only_by xs (length xs == 0) refl h

pub lines-none : (xs : List ℕ) → 0 < length xs → position (λ b. b == 10) xs ≡ None → lines xs ≡ xs ∷ []
lines-none xs some h = ap lines_of_parts (split_none is_newline xs (position-none is_newline xs h)) ∙ only_line xs some
