-- The words of lines.
use Rattle.std.proofs.Common.{◌≡◌, ◌∙◌, ℕ, ◌+◌, ◌<◌, ◌==◌, ◌&&◌, List, [], ◌∷◌, ◌++◌, length, map, sum_by, Bool, true, false, refl, sym, ap, arith, append_assoc, nat_lt, Some, None, if◌then◌else◌}
use Rattle.std.proofs.lemmas.Bool.Decides.{nat_tests}
use Rattle.std.proofs.lemmas.List.Sums.{sum_by-cons}
use Rattle.std.specs.List.{flat_map, list_all, AllByRecursion}
use Rattle.crush_map.specs.Faults.{is_name_byte}
use Rattle.crush_grammar.specs.Words.{Word, words_from, in_text, starts_name, onto, alone}
use Rattle.crush_grammar.specs.Sayings.{name_of}
use Rattle.crush_writing.specs.Canonical.{line, inner_line}

-- ---- words

-- a word on line n; `marked` says whether its text asks for straw2
abbrev pub word_at : Bool → ℕ → List ℕ → Word
word_at marked n text = record { line = n; text = text; straw2 = marked }

-- bytes that are one word wherever no byte of a name follows them
abbrev pub IsToken : List ℕ → Type 0
IsToken t = (n : ℕ) (rest : List ℕ) → starts_name rest ≡ false → words_from false n (t ++ rest) ≡ word_at false n t ∷ words_from false n rest

pub both : (a b : Bool) → (a && b) ≡ true → (a ≡ true) × (b ≡ true)
both true true h = (refl, refl)
both true false h = cc
both false b h = cc

name_not_lf : (b : ℕ) → is_name_byte b ≡ true → (b == 10) ≡ false
name_not_lf b e = grind (arith, nat_tests)

pick : {A : Type 0} (k : Bool) (x y : A) → k ≡ true → (if k then x else y) ≡ x
pick true x y e = refl
pick false x y e = cc

-- a run of the bytes of names
pub run_is_token : (t : List ℕ) → 0 < length t → list_all is_name_byte t ≡ true → IsToken t
run_is_token [] some all n rest free = absurd (omega arith)
run_is_token (b ∷ []) some all n rest free =
    let e = (both (is_name_byte b) true all).0 in
    rw (name_not_lf b e, e, free) refl
run_is_token (b ∷ c ∷ cs) some all n rest free =
    let e = both (is_name_byte b) (list_all is_name_byte (c ∷ cs)) all in
    let f = both (is_name_byte c) (list_all is_name_byte cs) e.1 in
    rw (name_not_lf b e.0, e.0) (pick (is_name_byte c) (onto b (words_from false n (c ∷ (cs ++ rest)))) (alone n b (words_from false n (c ∷ (cs ++ rest)))) f.0 ∙ ap (onto b) (run_is_token (c ∷ cs) (omega arith) e.1 n rest free))

named_by : (t v : List ℕ) (k : Bool) → (nat_lt 0 (length t) && list_all is_name_byte t) ≡ k → (if k then Some t else None) ≡ Some v → IsToken t
named_by t v true e h =
    let f = both (nat_lt 0 (length t)) (list_all is_name_byte t) e in
    run_is_token t (grind (arith, nat_tests)) f.1
named_by t v false e h = cc

pub keyword : (t : List ℕ) → (nat_lt 0 (length t) && list_all is_name_byte t) ≡ true → IsToken t
keyword t h = named_by t t true h refl

-- a name
pub name_is_token : (t v : List ℕ) → name_of t ≡ Some v → IsToken t
unfolding name_of
name_is_token t v h = named_by t v (nat_lt 0 (length t) && list_all is_name_byte t) refl h

-- ---- texts

-- the words of bytes from line n on, in a text that asks for straw2 or doesn't
abbrev pub words_in : Bool → ℕ → List ℕ → List Word
words_in marked n bytes = in_text marked (words_from false n bytes)

-- from line n on, the text is these words, whatever follows it on line k
pub record Reads (marked : Bool) (n : ℕ) (text : List ℕ) (k : ℕ) (ws : List Word) : Type 0 where
  pub reads : (rest : List ℕ) → words_in marked n (text ++ rest) ≡ ws ++ words_in marked k rest

pub joined : {marked : Bool} {n k l : ℕ} {a b : List ℕ} {us vs : List Word} → Reads marked n a k us → Reads marked k b l vs → Reads marked n (a ++ b) l (us ++ vs)
joined {marked = marked} {n = n} {l = l} {a = a} {b = b} {us = us} {vs = vs} g h = record {
  reads = λ rest. ap (words_in marked n) (append_assoc a b rest) ∙ (g.reads (b ++ rest) ∙ (ap (λ zs. us ++ zs) (h.reads rest) ∙ sym (append_assoc us vs (words_in marked l rest))));
}

pub ends : {marked : Bool} {n k : ℕ} {a : List ℕ} {us : List Word} (l : ℕ) (vs : List Word) → Reads marked n a k us → k ≡ l → us ≡ vs → Reads marked n a l vs
ends {marked = marked} {us = us} l vs g e f = record { reads = λ rest. g.reads rest ∙ (ap (λ i. us ++ words_in marked i rest) e ∙ ap (λ zs. zs ++ words_in marked l rest) f) }

-- ---- lines

abbrev behind_spaces : List (List ℕ) → List ℕ
behind_spaces ts = flat_map (λ other. 32 ∷ other) ts

no_name : (ts : List (List ℕ)) (rest : List ℕ) → starts_name (behind_spaces ts ++ 10 ∷ rest) ≡ false
no_name [] rest = refl
no_name (t ∷ ts) rest = refl

others_read : (ts : List (List ℕ)) → AllByRecursion IsToken ts → (n : ℕ) (rest : List ℕ) → words_from false n (behind_spaces ts ++ 10 ∷ rest) ≡ map (word_at false n) ts ++ words_from false (n + 1) rest
others_read [] all n rest = refl
others_read (t ∷ ts) all n rest =
    ap (words_from false n) (append_assoc t (behind_spaces ts) (10 ∷ rest))
    ∙ (all.0 n (behind_spaces ts ++ 10 ∷ rest) (no_name ts rest) ∙ ap (λ ws. word_at false n t ∷ ws) (others_read ts all.1 n rest))

tail : (t others rest : List ℕ) → ((t ++ others) ++ 10 ∷ []) ++ rest ≡ t ++ (others ++ 10 ∷ rest)
tail t others rest = simp append_assoc

line_read : (n : ℕ) (ts : List (List ℕ)) → 0 < length ts → AllByRecursion IsToken ts → (rest : List ℕ) → words_from false n (line ts ++ rest) ≡ map (word_at false n) ts ++ words_from false (n + 1) rest
line_read n [] some all rest = absurd (omega arith)
line_read n (t ∷ ts) some all rest =
    ap (words_from false n) (tail t (behind_spaces ts) rest)
    ∙ (all.0 n (behind_spaces ts ++ 10 ∷ rest) (no_name ts rest) ∙ ap (λ ws. word_at false n t ∷ ws) (others_read ts all.1 n rest))

all_marked : (marked : Bool) (n : ℕ) (ts : List (List ℕ)) (ws : List Word) → in_text marked (map (word_at false n) ts ++ ws) ≡ map (word_at marked n) ts ++ in_text marked ws
all_marked marked n [] ws = refl
all_marked marked n (t ∷ ts) ws = ap (λ us. word_at marked n t ∷ us) (all_marked marked n ts ws)

-- a line of words
pub line_reads : (marked : Bool) (n : ℕ) (ts : List (List ℕ)) → 0 < length ts → AllByRecursion IsToken ts → Reads marked n (line ts) (n + 1) (map (word_at marked n) ts)
line_reads marked n ts some all = record {
  reads = λ rest. ap (in_text marked) (line_read n ts some all rest) ∙ all_marked marked n ts (words_from false (n + 1) rest);
}

-- a line of words in braces
pub inner_line_reads : (marked : Bool) (n : ℕ) (ts : List (List ℕ)) → 0 < length ts → AllByRecursion IsToken ts → Reads marked n (inner_line ts) (n + 1) (map (word_at marked n) ts)
inner_line_reads marked n ts some all = let plain = line_reads marked n ts some all in record { reads = plain.reads }

-- ---- texts that trees spell

-- from line n on, the text is the words of a tree that declares this, whatever follows it on line k
abbrev pub Spells : {T D : Type 0} → (T → List Word) → (T → D) → Bool → ℕ → List ℕ → ℕ → D → Type 0
Spells {T = T} words declares marked n text k d = (t : T) × (declares t ≡ d) × Reads marked n text k (words t)

-- what each of a list declares, on the lines that follow one another
abbrev pub numbered : {X D : Type 0} → (ℕ → X → D) → (X → ℕ) → ℕ → List X → List D
numbered declaration lines n [] = []
numbered declaration lines n (x ∷ xs) = declaration n x ∷ numbered declaration lines (n + lines x) xs

pub numbered-map : {X D : Type 0} (f : X → D) (lines : X → ℕ) (n : ℕ) (xs : List X) → numbered (λ m x. f x) lines n xs ≡ map f xs
numbered-map f lines n [] = refl
numbered-map f lines n (x ∷ xs) = ap (λ ds. f x ∷ ds) (numbered-map f lines (n + lines x) xs)

pub all_spell : {X T D : Type 0} (marked : Bool) (words : T → List Word) (declares : T → D) (text : X → List ℕ) (declaration : ℕ → X → D) (lines : X → ℕ) (xs : List X) →
    AllByRecursion (λ x. (n : ℕ) → Spells words declares marked n (text x) (n + lines x) (declaration n x)) xs →
    (n : ℕ) → Spells (flat_map words) (map declares) marked n (flat_map text xs) (n + sum_by lines xs) (numbered declaration lines n xs)
all_spell marked words declares text declaration lines [] all n = ([], refl, record { reads = λ rest. let none : n + 0 ≡ n = omega arith in ap (λ i. words_in marked i rest) (sym none) })
all_spell marked words declares text declaration lines (x ∷ xs) all n =
    let (t, d, r) = all.0 n in
    let (ts, ds, rs) = all_spell marked words declares text declaration lines xs all.1 (n + lines x) in (
      t ∷ ts,
      cc,
      ends (n + sum_by lines (x ∷ xs)) (words t ++ flat_map words ts) (joined r rs) (let more = sum_by-cons lines x xs in omega arith) refl,
    )
