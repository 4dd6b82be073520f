-- The end of the first word, as the code finds it.
use Rattle.std.specs.Prelude.{ℕ, suc, ◌==◌, ◌||◌, Bool, false, not, List, [], ◌∷◌, if◌then◌else◌}
use Rattle.crush_map.specs.Faults.{is_name_byte}
use Rattle.crush_grammar.specs.Words.{is_blank}

-- how many bytes at the front are allowed in names
abbrev pub run_len : List ℕ → ℕ
run_len [] = 0
run_len (b ∷ bytes) = if is_name_byte b then suc (run_len bytes) else 0

-- whether the first byte begins a word
abbrev pub starts_word : List ℕ → Bool
starts_word [] = false
starts_word (b ∷ bytes) = not (b == 10 || b == 35 || is_blank b)
