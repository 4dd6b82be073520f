-- The canonical text of a map is a text of that map.
use Rattle.std.proofs.Common.{◌≡◌, ◌∙◌, ℕ, ◌+◌, ◌||◌, Bool, true, false, List, [], ◌∷◌, ◌++◌, map, sum_by, if◌then◌else◌, refl, sym, ap, subst, arith, codes, append_assoc, Option, Some, None, IfSome, slice_get}
use Rattle.std.proofs.lemmas.List.{append-nil, map-append}
use Rattle.std.proofs.lemmas.List.Concat.{flat_map-append}
use Rattle.std.proofs.lemmas.List.Sorted.{IsPermutation-refl}
use Rattle.std.specs.List.{flat_map, list_any, AllByRecursion}
use Rattle.crush_map.specs.crush_types.specs.Kinds.{is_straw2}
use Rattle.crush_map.specs.Mark.{straw2_mark}
use Rattle.crush_map.specs.Map.{Map, IsMap, IsMapOf}
use Rattle.crush_map.specs.Sound.{IsTypeAt, IsDeviceAt, IsBucketAt, IsRuleAt}
use Rattle.crush_grammar.specs.Words.{Word, words, asks_for_straw2}
use Rattle.crush_grammar.specs.Syntax.{early_words, early_declares, late_words, late_declares, Text, text_words, text_declares}
use Rattle.crush_grammar.specs.Fronts.{last_line}
use Rattle.crush_writing.specs.Canonical.{line, tunable_lines, device_line, type_line, bucket_lines, rule_lines, has_straw2, mark_line, canonical}
use Rattle.crush_text.specs.Judging.{last_fault, at_line}
use Rattle.crush_text.specs.MapText.{IsTextOf}
use Rattle.crush_text.proofs.Spelt.{words_in, Reads, joined, ends, Spells, numbered, all_spell}
use Rattle.crush_text.proofs.Trees.{IsWritten, all_mapped, tunables_of, tunable_declared, tunables_spell, device_declared, device_spells, type_declared, type_spells, bucket_declared, bucket_height, bucket_spells, rule_declared, rule_height, rule_spells}
use Rattle.crush_text.proofs.SoundMap.{Sound, all_by, all_both, bucket_is_written, rule_is_written}
use Rattle.crush_text.proofs.Judged.{ranges, declarations_of, map_goes}

-- ---- remarks

-- the line of the first heading
abbrev first_heading : Bool → ℕ
first_heading marked = if marked then 2 else 1

mark_by : (marked k : Bool) → Reads marked 1 (if k then line (straw2_mark ∷ []) else []) (first_heading k) []
mark_by marked true = record { reads = λ rest. refl }
mark_by marked false = record { reads = λ rest. refl }

mark_first : (m : Map) → Reads (has_straw2 m) 1 (mark_line m) (first_heading (has_straw2 m)) []
unfolding mark_line
mark_first m = mark_by (has_straw2 m) (has_straw2 m)

begins : (marked : Bool) (n : ℕ) → Reads marked n (codes "# begin crush map\n") (n + 1) []
begins marked n = record { reads = λ rest. refl }

devices_follow : (marked : Bool) (n : ℕ) → Reads marked n (codes "\n# devices\n") (n + 1 + 1) []
devices_follow marked n = record { reads = λ rest. refl }

types_follow : (marked : Bool) (n : ℕ) → Reads marked n (codes "\n# types\n") (n + 1 + 1) []
types_follow marked n = record { reads = λ rest. refl }

buckets_follow : (marked : Bool) (n : ℕ) → Reads marked n (codes "\n# buckets\n") (n + 1 + 1) []
buckets_follow marked n = record { reads = λ rest. refl }

rules_follow : (marked : Bool) (n : ℕ) → Reads marked n (codes "\n# rules\n") (n + 1 + 1) []
rules_follow marked n = record { reads = λ rest. refl }

end_follows : (marked : Bool) (n : ℕ) → Reads marked n (codes "\n# end crush map\n") (n + 1 + 1) []
end_follows marked n = record { reads = λ rest. refl }

-- ---- the mark

asks_by : (marked : Bool) (t d y b r : List ℕ) →
    asks_for_straw2 ((if marked then line (straw2_mark ∷ []) else []) ++ codes "# begin crush map\n" ++ t ++ codes "\n# devices\n" ++ d ++ codes "\n# types\n" ++ y ++ codes "\n# buckets\n" ++ b ++ codes "\n# rules\n" ++ r ++ codes "\n# end crush map\n") ≡ marked
unfolding asks_for_straw2
asks_by true t d y b r = refl
asks_by false t d y b r = refl

-- the canonical text of a map asks for straw2 where a bucket needs it
asks : (m : Map) → asks_for_straw2 (canonical m) ≡ has_straw2 m
unfolding canonical mark_line
asks m = asks_by (has_straw2 m) (tunable_lines m.tunables) (flat_map device_line m.devices) (flat_map type_line m.types) (flat_map (bucket_lines m) m.buckets) (flat_map (rule_lines m) m.rules)

or_this : (a b : Bool) → a ≡ true → (a || b) ≡ true
or_this true b h = refl
or_this false b h = cc

or_that : (a b : Bool) → b ≡ true → (a || b) ≡ true
or_that true b h = refl
or_that false b h = h

any_of : {X : Type 0} (test : X → Bool) (xs : List X) → AllByRecursion (λ x. test x ≡ true → list_any test xs ≡ true) xs
any_of test [] = tt
any_of test (x ∷ xs) = (
  or_this (test x) (list_any test xs),
  all_mapped (λ y. test y ≡ true → list_any test xs ≡ true) (λ y. test y ≡ true → (test x || list_any test xs) ≡ true) xs (λ y h is. or_that (test x) (list_any test xs) (h is)) (any_of test xs),
)

-- ---- lists of elements

if_mapped : {X : Type 0} (P Q : X → Type 0) (o : Option X) → ((x : X) → P x → Q x) → IfSome o P → IfSome o Q
if_mapped P Q None h p = tt
if_mapped P Q (Some x) h p = h x p

devices_spell : (m : Map) → Sound m → (n : ℕ) → Spells (flat_map early_words) (map early_declares) (has_straw2 m) n (flat_map device_line m.devices) (n + sum_by (λ x. 1) m.devices) (numbered device_declared (λ x. 1) n m.devices)
devices_spell m s = all_spell (has_straw2 m) early_words early_declares device_line device_declared (λ x. 1) m.devices
    (all_by (λ d. (n : ℕ) → Spells early_words early_declares (has_straw2 m) n (device_line d) (n + 1) (device_declared n d)) m.devices
    (λ i. if_mapped (IsDeviceAt i) (λ d. (n : ℕ) → Spells early_words early_declares (has_straw2 m) n (device_line d) (n + 1) (device_declared n d)) (slice_get m.devices i) (λ d is. device_spells (has_straw2 m) d is.id is.name) (s.devices i)))

types_spell : (m : Map) → Sound m → (n : ℕ) → Spells (flat_map early_words) (map early_declares) (has_straw2 m) n (flat_map type_line m.types) (n + sum_by (λ x. 1) m.types) (numbered type_declared (λ x. 1) n m.types)
types_spell m s = all_spell (has_straw2 m) early_words early_declares type_line type_declared (λ x. 1) m.types
    (all_by (λ t. (n : ℕ) → Spells early_words early_declares (has_straw2 m) n (type_line t) (n + 1) (type_declared n t)) m.types
    (λ i. if_mapped (IsTypeAt i) (λ t. (n : ℕ) → Spells early_words early_declares (has_straw2 m) n (type_line t) (n + 1) (type_declared n t)) (slice_get m.types i) (λ t is. type_spells (has_straw2 m) t is.number is.name) (s.types i)))

buckets_spell : (m : Map) → Sound m → (n : ℕ) → Spells (flat_map late_words) (map late_declares) (has_straw2 m) n (flat_map (bucket_lines m) m.buckets) (n + sum_by bucket_height m.buckets) (numbered (bucket_declared m) bucket_height n m.buckets)
buckets_spell m s =
    let written : AllByRecursion (IsWritten m) m.buckets = all_by (IsWritten m) m.buckets (λ i. if_mapped (IsBucketAt m i) (IsWritten m) (slice_get m.buckets i) (λ b is. bucket_is_written m s i b is) (s.buckets i)) in
    all_spell (has_straw2 m) late_words late_declares (bucket_lines m) (bucket_declared m) bucket_height m.buckets
    (all_both (IsWritten m) (λ b. is_straw2 b.alg ≡ true → has_straw2 m ≡ true) (λ b. (n : ℕ) → Spells late_words late_declares (has_straw2 m) n (bucket_lines m b) (n + bucket_height b) (bucket_declared m n b)) m.buckets
    (λ b form mark. bucket_spells (has_straw2 m) m b form mark) written (any_of (λ b. is_straw2 b.alg) m.buckets))

rules_spell : (m : Map) → Sound m → (n : ℕ) → Spells (flat_map late_words) (map late_declares) (has_straw2 m) n (flat_map (rule_lines m) m.rules) (n + sum_by rule_height m.rules) (numbered (rule_declared m) rule_height n m.rules)
rules_spell m s = all_spell (has_straw2 m) late_words late_declares (rule_lines m) (rule_declared m) rule_height m.rules
    (all_by (λ r. (n : ℕ) → Spells late_words late_declares (has_straw2 m) n (rule_lines m r) (n + rule_height r) (rule_declared m n r)) m.rules
    (λ i. if_mapped (IsRuleAt m i) (λ r. (n : ℕ) → Spells late_words late_declares (has_straw2 m) n (rule_lines m r) (n + rule_height r) (rule_declared m n r)) (slice_get m.rules i) (λ r is. rule_spells (has_straw2 m) m r is.some (rule_is_written m s i r is)) (s.rules i)))

-- ---- the whole text

without_remarks : (t d y b r : List Word) → (((((((((([] ++ t) ++ []) ++ d) ++ []) ++ y) ++ []) ++ b) ++ []) ++ r) ++ []) ≡ (t ++ (d ++ y)) ++ (b ++ r)
without_remarks t d y b r = simp (append_assoc, append-nil)

-- the canonical text is the words of a tree, which declares the map
record Spelt (m : Map) : Type 0 where
  pub tree : Text
  pub i : ℕ
  pub j : ℕ
  pub k : ℕ
  pub l : ℕ
  pub n : ℕ
  pub declares : text_declares tree ≡ declarations_of m i j k l n
  pub last : ℕ
  pub reads : Reads (has_straw2 m) 1 (canonical m) last (text_words tree)

spelt : (m : Map) → Sound m → Spelt m
unfolding canonical
spelt m s =
    let r = ranges m.tunables s.tunables in
    let marked = has_straw2 m in
    let first = first_heading marked in
    let (ts, dt, rt) = tunables_spell marked m.tunables (let low = r.total_tries in omega arith) (let low = r.descend_once in omega arith) (let low = r.vary_r in omega arith) (let low = r.stable in omega arith) (first + 1) in
    let j = first + 1 + sum_by (λ x. 1) (tunables_of m.tunables) + 1 + 1 in
    let (ds, dd, rd) = devices_spell m s j in
    let k = j + sum_by (λ x. 1) m.devices + 1 + 1 in
    let (ys, dy, ry) = types_spell m s k in
    let l = k + sum_by (λ x. 1) m.types + 1 + 1 in
    let (bs, db, rb) = buckets_spell m s l in
    let n = l + sum_by bucket_height m.buckets + 1 + 1 in
    let (rs, dr, rr) = rules_spell m s n in
    let tree : Text = record { early = ts ++ (ds ++ ys); late = bs ++ rs } in
    let early_parts : flat_map early_words (ts ++ (ds ++ ys)) ≡ flat_map early_words ts ++ (flat_map early_words ds ++ flat_map early_words ys) =
    flat_map-append early_words ts (ds ++ ys) ∙ ap (λ ws. flat_map early_words ts ++ ws) (flat_map-append early_words ds ys) in
    let late_parts : flat_map late_words (bs ++ rs) ≡ flat_map late_words bs ++ flat_map late_words rs = flat_map-append late_words bs rs in
    let early_all : map early_declares (ts ++ (ds ++ ys)) ≡ numbered tunable_declared (λ x. 1) (first + 1) (tunables_of m.tunables) ++ (numbered device_declared (λ x. 1) j m.devices ++ numbered type_declared (λ x. 1) k m.types) =
    map-append early_declares ts (ds ++ ys) ∙ (ap (λ ws. map early_declares ts ++ ws) (map-append early_declares ds ys) ∙ cc) in
    let late_all : map late_declares (bs ++ rs) ≡ numbered (bucket_declared m) bucket_height l m.buckets ++ numbered (rule_declared m) rule_height n m.rules =
    map-append late_declares bs rs ∙ cc in
    let reads = joined (joined (joined (joined (joined (joined (joined (joined (joined (joined (joined (mark_first m) (begins marked first)) rt) (devices_follow marked (first + 1 + sum_by (λ x. 1) (tunables_of m.tunables)))) rd) (types_follow marked (j + sum_by (λ x. 1) m.devices))) ry)
    (buckets_follow marked (k + sum_by (λ x. 1) m.types))) rb) (rules_follow marked (l + sum_by bucket_height m.buckets))) rr) (end_follows marked (n + sum_by rule_height m.rules)) in
    let same = without_remarks (flat_map early_words ts) (flat_map early_words ds) (flat_map early_words ys) (flat_map late_words bs) (flat_map late_words rs) in
    record {
      tree = tree;
      i = first + 1;
      j = j;
      k = k;
      l = l;
      n = n;
      declares = ap (λ xs. xs ++ map late_declares (bs ++ rs)) early_all ∙ ap (λ xs. (numbered tunable_declared (λ x. 1) (first + 1) (tunables_of m.tunables) ++ (numbered device_declared (λ x. 1) j m.devices ++ numbered type_declared (λ x. 1) k m.types)) ++ xs) late_all;
      last = n + sum_by rule_height m.rules + 1 + 1;
      reads = ends (n + sum_by rule_height m.rules + 1 + 1) (text_words tree) reads refl
          (same ∙ (ap (λ ws. ws ++ (flat_map late_words bs ++ flat_map late_words rs)) (sym early_parts) ∙ ap (λ ws. flat_map early_words (ts ++ (ds ++ ys)) ++ ws) (sym late_parts)));
    }

spelt_words : (m : Map) → (p : Spelt m) → words (canonical m) ≡ text_words p.tree
spelt_words m p =
    ap (λ marked. words_in marked 1 (canonical m)) (asks m)
    ∙ (ap (words_in (has_straw2 m) 1) (sym (append-nil (canonical m))) ∙ (p.reads.reads [] ∙ append-nil (text_words p.tree)))

pub is_text_of : (m : Map) → Sound m → IsMap m → IsTextOf (canonical m) m
is_text_of m s is =
    let p = spelt m s in
    let ds = declarations_of m p.i p.j p.k p.l p.n in
    let goes = map_goes m s p.i p.j p.k p.l p.n in
    record {
      declarations = ds;
      form = (p.tree, spelt_words m p, sym p.declares);
      each = goes.faultless;
      end = ap (last_fault (last_line 1 (words (canonical m)))) goes.makes ∙ ap (at_line (last_line 1 (words (canonical m)))) s.faultless.1;
      draft = subst (λ x. IsMapOf x.draft m) (sym goes.makes) (record {
        types = IsPermutation-refl m.types;
        devices = IsPermutation-refl m.devices;
        buckets = refl;
        rules = IsPermutation-refl m.rules;
        tunables = refl;
      });
      map = is;
    }
