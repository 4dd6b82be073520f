-- The words of a map text, and their lines.
--
-- Source: Ceph's CRUSH map manual and its compiler of map texts.
use Rattle.std.specs.Prelude.{ℕ, ◌+◌, ◌==◌, ◌||◌, Bool, true, false, List, [], ◌∷◌, ◌++◌, map, bytes_eq, if◌then◌else◌}
use Rattle.crush_map.specs.Faults.{is_name_byte}
use Rattle.crush_map.specs.Mark.{straw2_mark}

-- a word: a run of bytes that are allowed in names, or one other byte, such as a brace; the number
-- of its line; and whether its text asks for straw2
pub record Word : Type 0 where
  pub line : ℕ
  pub text : List ℕ
  pub straw2 : Bool

-- ---- the mark

-- the bytes before the first LF
abbrev pub first_line : List ℕ → List ℕ
first_line [] = []
first_line (b ∷ bytes) = if b == 10 then [] else b ∷ first_line bytes

-- whether a text asks for straw2: its first line, less one CR at its end, is the mark
unfoldable pub asks_for_straw2 : List ℕ → Bool
asks_for_straw2 bytes = bytes_eq (first_line bytes) straw2_mark || bytes_eq (first_line bytes) (straw2_mark ++ 13 ∷ [])

-- ---- words

-- space, tab and CR; an LF is blank too, and ends its line
abbrev pub is_blank : ℕ → Bool
is_blank b = b == 32 || b == 9 || b == 13

-- whether the first byte is allowed in names
abbrev pub starts_name : List ℕ → Bool
starts_name [] = false
starts_name (b ∷ bytes) = is_name_byte b

-- puts a byte in front of the first word
abbrev pub onto : ℕ → List Word → List Word
onto b [] = []
onto b (w ∷ ws) = record w { text = b ∷ w.text } ∷ ws

-- puts a word of one byte in front of the others
abbrev pub alone : ℕ → ℕ → List Word → List Word
alone line b ws = record { line = line; text = b ∷ []; straw2 = false } ∷ ws

-- the words of bytes whose first line has the number `line`, as of a text that doesn't ask;
-- `comment` says whether they begin inside a comment, which goes from # to the end of its line
abbrev pub words_from : Bool → ℕ → List ℕ → List Word
words_from comment line [] = []
words_from true line (b ∷ bytes) = if b == 10 then words_from false (line + 1) bytes else words_from true line bytes
words_from false line (b ∷ bytes) =
    if b == 10 then words_from false (line + 1) bytes
    else (if is_name_byte b then (if starts_name bytes then onto b (words_from false line bytes) else alone line b (words_from false line bytes))
    else (if b == 35 then words_from true line bytes
    else (if is_blank b then words_from false line bytes
    else alone line b (words_from false line bytes))))

-- the same words in a text that asks for straw2, or doesn't
abbrev pub in_text : Bool → List Word → List Word
in_text straw2 ws = map (λ (w : Word). record w { straw2 = straw2 }) ws

-- the words of a text; its first line is 1
abbrev pub words : List ℕ → List Word
words bytes = in_text (asks_for_straw2 bytes) (words_from false 1 bytes)

-- the rest of a text: the words that remain, and the line of the last word read
pub record Rest : Type 0 where
  pub line : ℕ
  pub words : List Word
