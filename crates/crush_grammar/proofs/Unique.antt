-- Words break in one way only: at one place, with one fault, and behind the same declarations.
use Rattle.std.proofs.Common.{ℤ, sym, ◌≡◌, ◌∙◌, ℕ, suc, ◌⊎◌, inl, inr, List, [], ◌∷◌, ◌++◌, take, drop, slice_get, Option, Some, None, IsSomeAnd, Bool, true, false, not, ◌&&◌, ◌||◌, refl, ap, append_assoc, if◌then◌else◌}
use Rattle.std.specs.Prelude.{◌↔◌, codes}
use Rattle.std.proofs.lemmas.List.{append-nil, take-append-drop}
use Rattle.std.proofs.lemmas.Slice.Eq.{bytes_eq-Decides}
use Rattle.crush_map.specs.WeightText.{weight_of}
use Rattle.crush_grammar.specs.Words.{Word}
use Rattle.crush_grammar.specs.Numbers.{number_of, integer_of}
use Rattle.crush_grammar.specs.Sayings.{name_of, type_of, tunable_of, alg_of, hash_of, rule_id_of, erasure_of, firstn_of, setting_of}
use Rattle.crush_grammar.specs.Syntax.{Declares}
use Rattle.crush_grammar.specs.Fronts.{is, is_token, IsFront, IsWhole, LeavesAt, HasCode, FrontDeclares, Breaks, last_line}
use Rattle.crush_grammar.specs.Automaton.{State, Move, Reading, reading, step, text, give, with_item, to, wrong, on, begun, in_lines, plain, in_items, in_pos, in_steps, at_max, action, at_end, device_at}
use Rattle.crush_grammar.specs.Automaton.State.{Between, TunableWord, TunableKey, DeviceWord, DeviceNumber, DeviceName, ClassWord, TypeWord, TypeNumber, BucketType, BucketName, IdLines, IdWord, IdNumber, IdClass, AlgWord, Hashes, HashWord, Items, ItemWord, ItemName, WeightWord, ItemWeight, PosWord, RuleWord, RuleName, RuleOpen, RuleId, RuleNumber, RuleType, RuleKind, MinWord, RuleMin, MaxWord, RuleMax, StepWord, TakeWord, Taken, SetWord, ChooseWord, ChooseHow, ChooseNumber, ChooseType, Steps, Dead}
use Rattle.crush_grammar.specs.declared.code.TextCode.{TextCode}
use Rattle.crush_grammar.specs.declared.code.TextCode.TheVariants.{X1, X2, X3, X4, X5, X6, X7, Map}
use Rattle.crush_grammar.specs.declared.code.TextFault.{TextFault}
use Rattle.crush_grammar.specs.declared.declaration.DeclaredItem.{DeclaredItem}
use Rattle.crush_grammar.specs.declared.declaration.BucketHead.{BucketHead}
use Rattle.crush_grammar.specs.declared.declaration.DeclaredBucket.{DeclaredBucket}
use Rattle.crush_grammar.specs.declared.declaration.DeclaredRule.{DeclaredRule}
use Rattle.crush_grammar.specs.declared.declaration.Declaration.{Declaration}
use Rattle.crush_grammar.proofs.IsRead.{is_read}
use Rattle.crush_grammar.proofs.Written.{is_written}
use Rattle.crush_grammar.proofs.Endings.{Ends, is_dead, is_open, is_taken, wants_alg, wants_weight, straw, code_at, run, ends_off, off_word, dead_ends}
use Rattle.crush_grammar.proofs.Cuts.{onto, out, out_on, given_decls, said}
use Rattle.crush_grammar.proofs.Lines.{is_open_text, is_text_open, and_on, dead_decls}
use Rattle.crush_grammar.proofs.Codes.{code_of, code_is, alg_before, take_before, weight_before}
use Rattle.crush_grammar.proofs.Breaking.{breaks}
use Rattle.crush_grammar.proofs.Whole.{one_place, not_both}

-- ---- the code

-- at most one of the four holds
abbrev pub one_of : Bool → Bool → Bool → Bool → Bool
one_of true b c d = not (b || (c || d))
one_of false true c d = not (c || d)
one_of false false true d = not d
one_of false false false d = true

-- a state expects a weight, or an algorithm, or may begin a declaration, or is behind a take, and
-- no two of these hold
pub one_at : (q : State) → one_of (wants_weight q) (wants_alg q) (is_open q) (is_taken q) ≡ true
one_at (AlgWord h i) = refl
one_at (WeightWord b e) = refl
one_at (Between early) = refl
one_at (DeviceName l n x) = refl
one_at (Taken r) = refl
one_at other = refl

pub six_is : (a m n k : Bool) → a ≡ true → X6 ≡ code_of a m n k
six_is a m n k h = rw h refl

pub two_is : (a b c d s t u v : Bool) → one_of a b c d ≡ true → (b && t) ≡ true → X2 ≡ code_of (a && s) (b && t) (c && u) (d && v)
two_is true true c d s t u v one h = cc
two_is true false c d s t u v one h = cc
two_is false true c d s t u v one h = rw h refl
two_is false false c d s t u v one h = cc

pub four_is : (a b c d s t u v : Bool) → one_of a b c d ≡ true → (c && u) ≡ true → X4 ≡ code_of (a && s) (b && t) (c && u) (d && v)
four_is a b false d s t u v one h = cc
four_is true true true d s t u v one h = cc
four_is true false true d s t u v one h = cc
four_is false true true d s t u v one h = cc
four_is false false true d s t u v one h = rw h refl

pub three_is : (a b c d s t u v : Bool) → one_of a b c d ≡ true → (d && v) ≡ true → X3 ≡ code_of (a && s) (b && t) (c && u) (d && v)
three_is a b c false s t u v one h = cc
three_is true true c true s t u v one h = cc
three_is true false true true s t u v one h = cc
three_is true false false true s t u v one h = cc
three_is false true true true s t u v one h = cc
three_is false true false true s t u v one h = cc
three_is false false true true s t u v one h = cc
three_is false false false true s t u v one h = rw h refl

pub one_is : (front : List Word) (x : Word) (c : TextCode) → HasCode front x c → HasCode front x X1 → X1 ≡ c
one_is front x X1 h none = refl
one_is front x X2 h none = absurd (none.0 h)
one_is front x X3 h none = absurd (none.1 h)
one_is front x X4 h none = absurd (none.2 h)
one_is front x X5 h none = absurd h
one_is front x X6 h none = absurd (none.3 h)
one_is front x X7 h none = absurd h
one_is front x (Map c) h none = absurd h

-- a word that leaves the grammar has one code
pub same_code : (front : List Word) (x : Word) (c : TextCode) → HasCode front x c → c ≡ code_at (run (Between true) front) x
same_code front x X1 h = one_is front x (code_at (run (Between true) front) x) (code_is front x) h
same_code front x X2 h =
    let q = run (Between true) front in
    let b = and_on (wants_alg q) (straw x) (alg_before front x h) h.0 in
    two_is (wants_weight q) (wants_alg q) (is_open q) (is_taken q) (is_token x) (straw x) (is (codes "choose_args") x) (is (codes "class") x) (one_at q) b
same_code front x X3 h =
    let q = run (Between true) front in
    let d = and_on (is_taken q) (is (codes "class") x) (take_before front x h) h.0 in
    three_is (wants_weight q) (wants_alg q) (is_open q) (is_taken q) (is_token x) (straw x) (is (codes "choose_args") x) (is (codes "class") x) (one_at q) d
same_code front x X4 h =
    let q = run (Between true) front in
    let c = and_on (is_open q) (is (codes "choose_args") x) (is_text_open front h.1.0 h.1.1) h.0 in
    four_is (wants_weight q) (wants_alg q) (is_open q) (is_taken q) (is_token x) (straw x) (is (codes "choose_args") x) (is (codes "class") x) (one_at q) c
same_code front x X5 h = absurd h
same_code front x X6 h =
    let q = run (Between true) front in
    let a = and_on (wants_weight q) (is_token x) (weight_before front x h) h.0 in
    six_is (wants_weight q && is_token x) (wants_alg q && straw x) (is_open q && is (codes "choose_args") x) (is_taken q && is (codes "class") x) a
same_code front x X7 h = absurd h
same_code front x (Map c) h = absurd h

-- ---- what a front declares

-- no declaration is begun
abbrev pub is_between : State → Bool
is_between (Between b) = true
is_between other = false

-- a step goes to where no declaration is begun only if it ends one
abbrev pub Shut : Move → Type 0
Shut s = s.done ≡ None → is_between s.state ≡ false

pub shut_two : (k : Bool) (s t : Move) → Shut s → Shut t → Shut (if k then s else t)
shut_two true s t a b = a
shut_two false s t a b = b

pub shut_on : {V : Type 0} (x : Word) (c : TextCode) (o : Option V) (next : V → Move) → ((v : V) → Shut (next v)) → Shut (on c x o next)
shut_on x c (Some v) next h = h v
shut_on x c None next h = λ e. refl

pub shut_key : (x : Word) (t : List ℕ) (s : Move) → Shut s → Shut (if is t x then s else to (wrong X1 x))
shut_key x t s a = shut_two (is t x) s (to (wrong X1 x)) a (λ e. refl)

pub lines_shut : (h : BucketHead) (o : Option ℤ) (x : Word) → Shut (in_lines h o x)
lines_shut h None x = shut_key x (codes "id") _ (λ e. refl)
lines_shut h (Some i) x = shut_two (is (codes "id") x) _ _ (λ e. refl) (shut_key x (codes "alg") _ (λ e. refl))

pub plain_shut : (h : BucketHead) (o : Option ℤ) (i : ℤ) (x : Word) → Shut (plain h o i x)
plain_shut h None i x = lines_shut h (Some i) x
plain_shut h (Some j) i x = λ e. refl

pub items_shut : (b : DeclaredBucket) (x : Word) → Shut (in_items b x)
items_shut b x = shut_two (is (codes "item") x) _ _ (λ e. refl) (shut_key x (codes "}") _ (λ e. cc))

pub pos_shut : (b : DeclaredBucket) (i : DeclaredItem) (x : Word) → Shut (in_pos b i x)
pos_shut b i x = shut_two (is (codes "pos") x) _ _ (λ e. refl) (items_shut (with_item b i) x)

pub steps_shut : (r : DeclaredRule) (x : Word) → Shut (in_steps r x)
steps_shut r x = shut_two (is (codes "step") x) _ _ (λ e. refl) (shut_key x (codes "}") _ (λ e. cc))

pub max_shut : (r : DeclaredRule) (x : Word) → Shut (at_max r x)
max_shut r x = shut_two (is (codes "max_size") x) _ _ (λ e. refl) (shut_key x (codes "step") _ (λ e. refl))

pub action_shut : (r : DeclaredRule) (x : Word) → Shut (action r x)
action_shut r x =
    shut_two (is (codes "take") x) _ _ (λ e. refl) (shut_two (is (codes "emit") x) _ _ (λ e. refl) (shut_two (is (codes "choose") x) _ _ (λ e. refl) (shut_two (is (codes "chooseleaf") x) _ _ (λ e. refl)
    (shut_on x X1 (setting_of x.text) (λ s. to (SetWord r s)) (λ s e. refl)))))

pub shut_at : (p : State) (x : Word) → is_between p ≡ false → Shut (step p x)
unfolding step
shut_at (Between d) x a = cc
shut_at (TunableWord l) x a = shut_on x X1 (tunable_of x.text) _ (λ v e. refl)
shut_at (TunableKey l t) x a = shut_on x X1 (number_of x.text) _ (λ v e. cc)
shut_at (DeviceWord l) x a = shut_on x X1 (number_of x.text) _ (λ v e. refl)
shut_at (DeviceNumber l n) x a = shut_on x X1 (name_of x.text) _ (λ v e. refl)
shut_at (DeviceName l n y) x a = shut_two (is (codes "class") x) _ _ (λ e. refl) (λ e. cc)
shut_at (ClassWord l n y) x a = shut_on x X1 (name_of x.text) _ (λ v e. cc)
shut_at (TypeWord l) x a = shut_on x X1 (number_of x.text) _ (λ v e. refl)
shut_at (TypeNumber l n) x a = shut_on x X1 (name_of x.text) _ (λ v e. cc)
shut_at (BucketType l t) x a = shut_on x X1 (name_of x.text) _ (λ v e. refl)
shut_at (BucketName h) x a = shut_key x (codes "{") _ (λ e. refl)
shut_at (IdLines h None) x a = lines_shut h None x
shut_at (IdLines h (Some i)) x a = lines_shut h (Some i) x
shut_at (IdWord h o) x a = shut_on x X1 (integer_of x.text) _ (λ v e. refl)
shut_at (IdNumber h None i) x a = shut_two (is (codes "class") x) _ _ (λ e. refl) (plain_shut h None i x)
shut_at (IdNumber h (Some j) i) x a = shut_two (is (codes "class") x) _ _ (λ e. refl) (plain_shut h (Some j) i x)
shut_at (IdClass h o) x a = shut_on x X1 (name_of x.text) _ (λ v e. refl)
shut_at (AlgWord h i) x a = shut_on x _ (alg_of x) _ (λ v e. refl)
shut_at (Hashes b) x a = shut_two (is (codes "hash") x) _ _ (λ e. refl) (items_shut b x)
shut_at (HashWord b) x a = shut_on x X1 (hash_of x.text) _ (λ v e. refl)
shut_at (Items b) x a = items_shut b x
shut_at (ItemWord b) x a = shut_on x X1 (name_of x.text) _ (λ v e. refl)
shut_at (ItemName b i) x a = shut_two (is (codes "weight") x) _ _ (λ e. refl) (pos_shut b i x)
shut_at (WeightWord b i) x a = shut_on x _ (weight_of x.text) _ (λ v e. refl)
shut_at (ItemWeight b i) x a = pos_shut b i x
shut_at (PosWord b i) x a = shut_on x X1 (number_of x.text) _ (λ v e. refl)
shut_at (RuleWord l) x a = shut_on x X1 (name_of x.text) _ (λ v e. refl)
shut_at (RuleName l y) x a = shut_key x (codes "{") _ (λ e. refl)
shut_at (RuleOpen l y) x a = shut_on x X1 (rule_id_of x.text) _ (λ v e. refl)
shut_at (RuleId l y) x a = shut_on x X1 (number_of x.text) _ (λ v e. refl)
shut_at (RuleNumber l y n) x a = shut_key x (codes "type") _ (λ e. refl)
shut_at (RuleType l y n) x a = shut_on x X1 (erasure_of x.text) _ (λ v e. refl)
shut_at (RuleKind r) x a = shut_two (is (codes "min_size") x) _ _ (λ e. refl) (max_shut r x)
shut_at (MinWord r) x a = shut_on x X1 (number_of x.text) _ (λ v e. refl)
shut_at (RuleMin r) x a = max_shut r x
shut_at (MaxWord r) x a = shut_on x X1 (number_of x.text) _ (λ v e. refl)
shut_at (RuleMax r) x a = shut_key x (codes "step") _ (λ e. refl)
shut_at (StepWord r) x a = action_shut r x
shut_at (TakeWord r) x a = shut_on x X1 (name_of x.text) _ (λ v e. refl)
shut_at (Taken r) x a = shut_two (is (codes "class") x) _ _ (λ e. refl) (steps_shut r x)
shut_at (SetWord r s) x a = shut_on x X1 (number_of x.text) _ (λ v e. refl)
shut_at (ChooseWord r leaf) x a = shut_on x X1 (firstn_of x.text) _ (λ v e. refl)
shut_at (ChooseHow r leaf h) x a = shut_on x X1 (integer_of x.text) _ (λ v e. refl)
shut_at (ChooseNumber r leaf h n) x a = shut_key x (codes "type") _ (λ e. refl)
shut_at (ChooseType r leaf h n) x a = shut_on x X1 (name_of x.text) _ (λ v e. refl)
shut_at (Steps r) x a = steps_shut r x
shut_at (Dead f) x a = λ e. refl

pub ends_by : (q : State) (x : Word) (line : ℕ) (ws : List Word) (o : Option Declaration) → (step q x).done ≡ o → is_between q ≡ false → (reading q line (x ∷ ws)).decls ≡ [] →
    (is_between (step q x).state ≡ false → (reading (step q x).state x.line ws).decls ≡ [] → ⊥) → ⊥
ends_by q x line ws (Some d) e shut none more =
    let g = sym (given_decls (step q x).done (reading (step q x).state x.line ws)) ∙ none in
    let h = ap (λ o. onto o (reading (step q x).state x.line ws).decls) (sym e) ∙ g in
    cc
ends_by q x line ws None e shut none more =
    let g = sym (given_decls (step q x).done (reading (step q x).state x.line ws)) ∙ none in
    more (shut_at q x shut e) (ap (λ o. onto o (reading (step q x).state x.line ws).decls) (sym e) ∙ g)

pub ends_now : (q : State) (line : ℕ) → is_between q ≡ false → (at_end q line).fault ≡ None → (at_end q line).decls ≡ [] → ⊥
ends_now (Between b) line shut ends none = cc
ends_now (DeviceName l n x) line shut ends none = cc
ends_now other line shut ends none = cc

-- where a declaration is begun, words that end the text end one
pub ends_one : (q : State) (line : ℕ) (ws : List Word) → is_between q ≡ false → Ends q line ws → (reading q line ws).decls ≡ [] → ⊥
ends_one q line [] shut ends none = ends_now q line shut ends none
ends_one q line (x ∷ ws) shut ends none =
    ends_by q x line ws (step q x).done refl shut none (λ s n. ends_one (step q x).state x.line ws s (off_word q line x ws ends) n)

pub none_by : (os rs : List Declaration) (d : Declaration) → os ++ rs ≡ d ∷ [] → (rs ≡ [] → ⊥) → os ≡ []
none_by [] rs d e n = refl
none_by (o ∷ []) rs d e n = absurd (n (cc))
none_by (o ∷ u ∷ os) rs d e n = cc

pub shut_end : (q : State) (line : ℕ) → is_open q ≡ false → (at_end q line).decls ≡ []
shut_end (Between b) line h = cc
shut_end (DeviceName l n x) line h = cc
shut_end other line h = refl

pub shut_between : (q : State) → is_open q ≡ false → is_between q ≡ false
shut_between (Between b) h = cc
shut_between other h = refl

-- the first word begins a declaration that these words do not end
pub begins_none : (y : Word) (zs more : List Word) (d : Declaration) → text ((y ∷ zs) ++ more) ≡ said (d ∷ []) → is_open (run (begun true y) zs) ≡ false → (line : ℕ) → (reading (begun true y) line zs).decls ≡ []
unfolding step
begins_none y zs more d t shut line =
    let q = run (begun true y) zs in
    let l = last_line 1 (y ∷ zs) in
    let ends : Ends q l more = ends_off (Between true) 1 (y ∷ zs) more (ap (λ r. r.fault) t) in
    let all : out (begun true y) zs ++ (reading q l more).decls ≡ d ∷ [] = sym (out_on (Between true) 1 (y ∷ zs) more) ∙ ap (λ r. r.decls) t in
    let none : out (begun true y) zs ≡ [] = none_by (out (begun true y) zs) (reading q l more).decls d all (ends_one q l more (shut_between q shut) ends) in
    let same : (reading (begun true y) line (zs ++ [])).decls ≡ [] = out_on (begun true y) line zs [] ∙ ap (λ ds. ds ++ (reading q (last_line line zs) []).decls) none ∙ shut_end q (last_line line zs) shut in
    rw append-nil at same

pub class_begins : (y : Word) → is (codes "class") y ≡ true → is_dead (begun true y) ≡ true
unfolding type_of
class_begins y h = let same = (bytes_eq-Decides y.text (codes "class")).0 h in rw same refl

pub either_if : (k : Bool) (a b c d : State) → is_dead a ≡ true → (c ≡ d) ⊎ (is_dead c ≡ true) → ((if k then a else c) ≡ (if k then b else d)) ⊎ (is_dead (if k then a else c) ≡ true)
either_if true a b c d h more = inr h
either_if false a b c d h more = more

-- behind a bucket or a rule a word begins what it begins before them, or leaves the grammar
pub begun_late_or_dead : (y : Word) → (begun false y ≡ begun true y) ⊎ (is_dead (begun false y) ≡ true)
begun_late_or_dead y =
    either_if (is (codes "tunable") y) (wrong X1 y) (TunableWord y.line) _ _ refl
    (either_if (is (codes "device") y) (wrong X1 y) (DeviceWord y.line) _ _ refl
    (either_if (is (codes "type") y) (wrong X1 y) (TypeWord y.line) _ _ refl (inl refl)))

pub by_late : (y : Word) (zs : List Word) → (begun false y ≡ begun true y) ⊎ (is_dead (begun false y) ≡ true) → is_open (run (begun false y) zs) ≡ false →
    (is_open (run (begun true y) zs) ≡ false → (line : ℕ) → (reading (begun true y) line zs).decls ≡ []) → (line : ℕ) → (reading (begun false y) line zs).decls ≡ []
by_late y zs (inl e) shut more line = ap (λ s. (reading s line zs).decls) e ∙ more (sym (ap (λ s. is_open (run s zs)) e) ∙ shut) line
by_late y zs (inr e) shut more line = dead_decls (begun false y) line zs e

abbrev pub behind_device : ℕ → ℕ → List ℕ → Word → Bool → Move
behind_device l n x y k = if k then to (ClassWord l n x) else record { done = Some (device_at l n x); state = begun true y }

pub by_device : (l n : ℕ) (x : List ℕ) (y : Word) (zs : List Word) (k : Bool) → (k ≡ true → ⊥) → is_open (run (behind_device l n x y k).state zs) ≡ false →
    (is_open (run (begun true y) zs) ≡ false → (line : ℕ) → (reading (begun true y) line zs).decls ≡ []) →
    (line : ℕ) → (give (behind_device l n x y k).done (reading (behind_device l n x y k).state line zs)).decls ≡ device_at l n x ∷ []
by_device l n x y zs true other shut more line = absurd (other refl)
by_device l n x y zs false other shut more line = ap (λ ds. device_at l n x ∷ ds) (more shut line)

-- words that begin a declaration and break it off end what was whole before them, and no more
pub cut_reads : (p : State) (line : ℕ) (y : Word) (zs more : List Word) (d : Declaration) → is_open p ≡ true → text ((y ∷ zs) ++ more) ≡ said (d ∷ []) → is_open (run p (y ∷ zs)) ≡ false →
    (reading p line (y ∷ zs)).decls ≡ (at_end p line).decls
unfolding step
cut_reads (Between true) line y zs more d o t shut = begins_none y zs more d t shut y.line
cut_reads (Between false) line y zs more d o t shut = by_late y zs (begun_late_or_dead y) shut (begins_none y zs more d t) y.line
cut_reads (DeviceName l n x) line y zs more d o t shut =
    let other : is (codes "class") y ≡ true → ⊥ = λ k. dead_ends (begun true y) (class_begins y k) y.line (zs ++ more) (off_word (Between true) 1 y (zs ++ more) (ap (λ r. r.fault) t)) in
    by_device l n x y zs (is (codes "class") y) other shut (begins_none y zs more d t) y.line
cut_reads other line y zs more d o t shut = cc

pub run_append : (p : State) (xs ys : List Word) → run p (xs ++ ys) ≡ run (run p xs) ys
run_append p [] ys = refl
run_append p (x ∷ xs) ys = run_append (step p x).state xs ys

pub shut_by_not : (front : List Word) (k : Bool) → is_open (run (Between true) front) ≡ k → ¬ (IsWhole front) → k ≡ false
shut_by_not front true e part = absurd (part (is_open_text front e))
shut_by_not front false e part = refl

pub cut_declares : (xs ys more : List Word) (d : Declaration) (ds : List Declaration) → ¬ (IsWhole (xs ++ ys)) → Declares xs ds → Declares (ys ++ more) (d ∷ []) → ds ≡ (text (xs ++ ys)).decls
cut_declares xs [] more d ds part h c = absurd (part (ds, rw (append-nil xs) h))
cut_declares xs (y ∷ zs) more d ds part h c =
    let p = run (Between true) xs in
    let line = last_line 1 xs in
    let shut = sym (ap is_open (run_append (Between true) xs (y ∷ zs))) ∙ shut_by_not (xs ++ y ∷ zs) (is_open (run (Between true) (xs ++ y ∷ zs))) refl part in
    let cut = cut_reads p line y zs more d (is_text_open xs ds h) (is_read ((y ∷ zs) ++ more) (d ∷ []) c) shut in
    let before : (text xs).decls ≡ out (Between true) xs ++ (at_end p line).decls = ap (λ us. (text us).decls) (sym (append-nil xs)) ∙ out_on (Between true) 1 xs [] in
    let all = out_on (Between true) 1 xs (y ∷ zs) ∙ ap (λ es. out (Between true) xs ++ es) cut in
    sym (ap (λ r. r.decls) (is_read xs ds h)) ∙ before ∙ sym all

-- a front declares what is read of it
pub front_reads : (front : List Word) (ds : List Declaration) → FrontDeclares front ds → ds ≡ (text front).decls
front_reads front ds (inl h) = sym (ap (λ r. r.decls) (is_read front ds h))
front_reads front ds (inr (part, (xs, ys, e, h, (more, d, c)))) = rw e (cut_declares xs ys more d ds (rw e at part) h c)

-- ---- breaks

pub fault_is : (f g : TextFault) → f.line ≡ g.line → f.code ≡ g.code → f ≡ g
fault_is f g a b = ap (λ l. record { line = l; code = f.code }) a ∙ ap (λ c. record { line = g.line; code = c }) b

pub one_fault : (front : List Word) (o : Option Word) (f g : TextFault) → IsSomeAnd o (λ w. (f.line ≡ w.line) × HasCode front w f.code) → IsSomeAnd o (λ w. (g.line ≡ w.line) × HasCode front w g.code) → f ≡ g
one_fault front None f g a b = absurd a
one_fault front (Some w) f g a b = fault_is f g (a.0 ∙ sym b.0) (same_code front w f.code a.1 ∙ sym (same_code front w g.code b.1))

pub leaves_once : (ws : List Word) (i j : ℕ) (ds es : List Declaration) (f g : TextFault) → i ≡ j →
    IsSomeAnd (slice_get ws i) (λ w. (f.line ≡ w.line) × HasCode (take i ws) w f.code) → IsSomeAnd (slice_get ws j) (λ w. (g.line ≡ w.line) × HasCode (take j ws) w g.code) →
    FrontDeclares (take i ws) ds → FrontDeclares (take j ws) es → (ds ≡ es) × (f ≡ g)
leaves_once ws i j ds es f g e a b c d =
    (front_reads (take i ws) ds c ∙ ap (λ k. (text (take k ws)).decls) e ∙ sym (front_reads (take j ws) es d), one_fault (take j ws) (slice_get ws j) f g (rw e at a) b)

pub no_front : (ws : List Word) (i : ℕ) → LeavesAt ws i → IsFront ws → ⊥
no_front ws i leaves (more, ds, h) =
    let e : take (suc i) ws ++ (drop (suc i) ws ++ more) ≡ ws ++ more = sym (append_assoc (take (suc i) ws) (drop (suc i) ws) more) ∙ ap (λ xs. xs ++ more) (take-append-drop (suc i) ws) in
    leaves.2 (drop (suc i) ws ++ more, ds, rw e h)

-- words break in one way
pub once : (ws : List Word) (ds es : List Declaration) (f g : TextFault) → Breaks ws ds f → Breaks ws es g → (ds ≡ es) × (f ≡ g)
once ws ds es f g (inl (i, a, b, c)) (inl (j, d, e, h)) = leaves_once ws i j ds es f g (one_place ws i j a d) b e c h
once ws ds es f g (inl (i, a, b, c)) (inr (d, e, h, k)) = absurd (no_front ws i a d)
once ws ds es f g (inr (a, b, c, d)) (inl (j, e, h, k)) = absurd (no_front ws j e a)
once ws ds es f g (inr (a, b, c, d)) (inr (e, h, k, l)) = (front_reads ws ds d ∙ sym (front_reads ws es l), c ∙ sym k)

-- ---- what is read

pub whole_text : (ws : List Word) (ds : List Declaration) → text ws ≡ said ds → Declares ws ds
whole_text ws ds e =
    let d : (text ws).decls ≡ ds = ap (λ r. r.decls) e in
    rw d at (is_written ws (ap (λ r. r.fault) e))

pub broken_text : (ws : List Word) (ds : List Declaration) (f : TextFault) → text ws ≡ record { decls = ds; fault = Some f } → Breaks ws ds f
broken_text ws ds f e =
    let d : (text ws).decls ≡ ds = ap (λ r. r.decls) e in
    rw d at (breaks ws f (ap (λ r. r.fault) e))

pub reading_is : (r : Reading) (ds : List Declaration) (o : Option TextFault) → r.decls ≡ ds → r.fault ≡ o → r ≡ record { decls = ds; fault = o }
reading_is r ds o a b = ap (λ es. record { decls = es; fault = r.fault }) a ∙ ap (λ p. record { decls = ds; fault = p }) b

pub text_by : (ws : List Word) (ds : List Declaration) (f : TextFault) (o : Option TextFault) → (text ws).fault ≡ o → Breaks ws ds f → text ws ≡ record { decls = ds; fault = Some f }
text_by ws ds f None e h = absurd (not_both ws ds f h ((text ws).decls, is_written ws e))
text_by ws ds f (Some g) e h =
    let s = once ws ds (text ws).decls f g h (breaks ws g e) in
    reading_is (text ws) ds (Some f) (sym s.0) (e ∙ ap Some (sym s.1))

-- breaks are read as they are
pub broken : (ws : List Word) (ds : List Declaration) (f : TextFault) → Breaks ws ds f ↔ (text ws ≡ record { decls = ds; fault = Some f })
broken ws ds f = ((λ h. text_by ws ds f (text ws).fault refl h), broken_text ws ds f)

pub whole : (ws : List Word) (ds : List Declaration) → Declares ws ds ↔ (text ws ≡ record { decls = ds; fault = None })
whole ws ds = (is_read ws ds, whole_text ws ds)
