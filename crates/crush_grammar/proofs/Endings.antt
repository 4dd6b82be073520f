-- What ends a text behind a state, and with which code a state dies of a word.
use Rattle.std.proofs.Common.{ℤ, ◌==◌, ◌≡◌, ◌∙◌, ℕ, List, [], ◌∷◌, ◌++◌, length, Option, Some, None, Bool, true, false, ◌&&◌, ◌||◌, refl, bytes_eq, if◌then◌else◌}
use Rattle.std.specs.Prelude.{codes}
use Rattle.std.proofs.lemmas.Slice.Eq.{bytes_eq-Decides}
use Rattle.crush_grammar.proofs.States.{dead}
use Rattle.crush_map.specs.WeightText.{weight_of}
use Rattle.crush_grammar.specs.Words.{Word}
use Rattle.crush_grammar.specs.Numbers.{number_of, integer_of}
use Rattle.crush_grammar.specs.Sayings.{name_of, type_of, tunable_of, alg_of, hash_of, rule_id_of, erasure_of, firstn_of, setting_of}
use Rattle.crush_grammar.specs.Fronts.{is, is_token, word, last_line}
use Rattle.crush_grammar.specs.Automaton.{State, Move, Reading, reading, step, give, with_item, to, wrong, on, first, begun_bucket, begun, in_lines, plain, in_items, in_pos, in_steps, at_max, action, at_end}
use Rattle.crush_grammar.specs.Automaton.State.{Between, TunableWord, TunableKey, DeviceWord, DeviceNumber, DeviceName, ClassWord, TypeWord, TypeNumber, BucketType, BucketName, IdLines, IdWord, IdNumber, IdClass, AlgWord, Hashes, HashWord, Items, ItemWord, ItemName, WeightWord, ItemWeight, PosWord, RuleWord, RuleName, RuleOpen, RuleId, RuleNumber, RuleType, RuleKind, MinWord, RuleMin, MaxWord, RuleMax, StepWord, TakeWord, Taken, SetWord, ChooseWord, ChooseHow, ChooseNumber, ChooseType, Steps, Dead}
use Rattle.crush_grammar.specs.declared.code.TextCode.{TextCode}
use Rattle.crush_grammar.specs.declared.code.TextCode.TheVariants.{X1, X2, X3, X4, X6}
use Rattle.crush_grammar.specs.declared.code.TextFault.{TextFault}
use Rattle.crush_grammar.specs.declared.declaration.DeclaredItem.{DeclaredItem}
use Rattle.crush_grammar.specs.declared.declaration.BucketHead.{BucketHead}
use Rattle.crush_grammar.specs.declared.declaration.DeclaredBucket.{DeclaredBucket}
use Rattle.crush_grammar.specs.declared.declaration.DeclaredRule.{DeclaredRule}
use Rattle.crush_grammar.specs.declared.declaration.Declaration.{Declaration}

abbrev pub is_dead : State → Bool
is_dead (Dead f) = true
is_dead p = false

abbrev pub Ends : State → ℕ → List Word → Type 0
Ends p line ws = (reading p line ws).fault ≡ None

-- words that end a text
abbrev pub say : List (List ℕ) → List Word
say [] = []
say (t ∷ ts) = word t ∷ say ts

abbrev pub close : List (List ℕ)
close = codes "}" ∷ []

abbrev pub alg : List (List ℕ)
alg = codes "alg" ∷ codes "tree" ∷ close

abbrev pub id : List (List ℕ)
id = codes "id" ∷ codes "0" ∷ alg

abbrev pub step_emit : List (List ℕ)
step_emit = codes "step" ∷ codes "emit" ∷ close

abbrev pub kind : List (List ℕ)
kind = codes "type" ∷ codes "erasure" ∷ step_emit

abbrev pub rule_id : List (List ℕ)
rule_id = codes "id" ∷ codes "0" ∷ kind

abbrev pub of_type : List (List ℕ)
of_type = codes "type" ∷ codes "a" ∷ close

-- a declaration may begin
abbrev pub is_open : State → Bool
is_open (Between b) = true
is_open (DeviceName l n x) = true
is_open other = false

-- the words end the text; where no declaration may begin they make one more
abbrev pub By : State → ℕ → List (List ℕ) → Type 0
By p line ts = Ends p line (say ts) × ((is_open p || (length (reading p line (say ts)).decls == 1)) ≡ true)

-- each state but a dead one has words that end the text
pub finish : (p : State) → is_dead p ≡ false → (line : ℕ) → (ts : List (List ℕ)) × By p line ts
unfolding step number_of weight_of integer_of name_of type_of tunable_of alg_of hash_of rule_id_of erasure_of firstn_of setting_of
finish (Between b) h line = ([], (refl, refl))
finish (TunableWord l) h line = (codes "straw_calc_version" ∷ codes "0" ∷ [], (refl, refl))
finish (TunableKey l t) h line = (codes "0" ∷ [], (refl, refl))
finish (DeviceWord l) h line = (codes "0" ∷ codes "a" ∷ [], (refl, refl))
finish (DeviceNumber l n) h line = (codes "a" ∷ [], (refl, refl))
finish (DeviceName l n x) h line = ([], (refl, refl))
finish (ClassWord l n x) h line = (codes "a" ∷ [], (refl, refl))
finish (TypeWord l) h line = (codes "0" ∷ codes "a" ∷ [], (refl, refl))
finish (TypeNumber l n) h line = (codes "a" ∷ [], (refl, refl))
finish (BucketType l t) h line = (codes "a" ∷ codes "{" ∷ id, (refl, refl))
finish (BucketName x) h line = (codes "{" ∷ id, (refl, refl))
finish (IdLines x None) h line = (id, (refl, refl))
finish (IdLines x (Some i)) h line = (alg, (refl, refl))
finish (IdWord x None) h line = (codes "0" ∷ alg, (refl, refl))
finish (IdWord x (Some i)) h line = (codes "0" ∷ codes "class" ∷ codes "a" ∷ alg, (refl, refl))
finish (IdNumber x None i) h line = (alg, (refl, refl))
finish (IdNumber x (Some j) i) h line = (codes "class" ∷ codes "a" ∷ alg, (refl, refl))
finish (IdClass x None) h line = (codes "a" ∷ id, (refl, refl))
finish (IdClass x (Some i)) h line = (codes "a" ∷ alg, (refl, refl))
finish (AlgWord x i) h line = (codes "tree" ∷ close, (refl, refl))
finish (Hashes b) h line = (close, (refl, refl))
finish (HashWord b) h line = (codes "0" ∷ close, (refl, refl))
finish (Items b) h line = (close, (refl, refl))
finish (ItemWord b) h line = (codes "a" ∷ close, (refl, refl))
finish (ItemName b e) h line = (close, (refl, refl))
finish (WeightWord b e) h line = (codes "0" ∷ close, (refl, refl))
finish (ItemWeight b e) h line = (close, (refl, refl))
finish (PosWord b e) h line = (codes "0" ∷ close, (refl, refl))
finish (RuleWord l) h line = (codes "a" ∷ codes "{" ∷ rule_id, (refl, refl))
finish (RuleName l x) h line = (codes "{" ∷ rule_id, (refl, refl))
finish (RuleOpen l x) h line = (rule_id, (refl, refl))
finish (RuleId l x) h line = (codes "0" ∷ kind, (refl, refl))
finish (RuleNumber l x n) h line = (kind, (refl, refl))
finish (RuleType l x n) h line = (codes "erasure" ∷ step_emit, (refl, refl))
finish (RuleKind r) h line = (step_emit, (refl, refl))
finish (MinWord r) h line = (codes "0" ∷ step_emit, (refl, refl))
finish (RuleMin r) h line = (step_emit, (refl, refl))
finish (MaxWord r) h line = (codes "0" ∷ step_emit, (refl, refl))
finish (RuleMax r) h line = (step_emit, (refl, refl))
finish (StepWord r) h line = (codes "emit" ∷ close, (refl, refl))
finish (TakeWord r) h line = (codes "a" ∷ close, (refl, refl))
finish (Taken r) h line = (close, (refl, refl))
finish (SetWord r s) h line = (codes "0" ∷ close, (refl, refl))
finish (ChooseWord r leaf) h line = (codes "firstn" ∷ codes "0" ∷ of_type, (refl, refl))
finish (ChooseHow r leaf x) h line = (codes "0" ∷ of_type, (refl, refl))
finish (ChooseNumber r leaf x n) h line = (of_type, (refl, refl))
finish (ChooseType r leaf x n) h line = (codes "a" ∷ close, (refl, refl))
finish (Steps r) h line = (close, (refl, refl))
finish (Dead f) h line = cc

abbrev pub straw : Word → Bool
straw x = is (codes "straw") x || is (codes "straw2") x

abbrev pub is_taken : State → Bool
is_taken (Taken r) = true
is_taken other = false

-- the algorithm of a bucket is expected
abbrev pub wants_alg : State → Bool
wants_alg (AlgWord h i) = true
wants_alg other = false

-- the weight of an item is expected
abbrev pub wants_weight : State → Bool
wants_weight (WeightWord b e) = true
wants_weight other = false

-- what is wrong with a word at a state
abbrev pub code_at : State → Word → TextCode
code_at q x = if wants_weight q && is_token x then X6 else (if wants_alg q && straw x then X2 else (if is_open q && is (codes "choose_args") x then X4 else (if is_taken q && is (codes "class") x then X3 else X1)))

-- a dead state has the line of the word, and this code
abbrev pub At : TextCode → Word → State → Type 0
At c x (Dead g) = g ≡ record { line = x.line; code = c }
At c x p = Unit {0}

pub at_two : (c : TextCode) (x : Word) (k : Bool) (s t : Move) → (k ≡ true → At c x s.state) → (k ≡ false → At c x t.state) → At c x (if k then s else t).state
at_two c x true s t a b = a refl
at_two c x false s t a b = b refl

pub at_if : (c : TextCode) (x : Word) (k : Bool) (s t : State) → (k ≡ true → At c x s) → (k ≡ false → At c x t) → At c x (if k then s else t)
at_if c x true s t a b = a refl
at_if c x false s t a b = b refl

pub at_on : {V : Type 0} (x : Word) (c : TextCode) (o : Option V) (next : V → Move) → ((v : V) → At c x (next v).state) → At c x (on c x o next).state
at_on x c (Some v) next h = h v
at_on x c None next h = refl

pub at_key : (x : Word) (t : List ℕ) (s : Move) → At X1 x s.state → At X1 x (if is t x then s else to (wrong X1 x)).state
at_key x t s a = at_two X1 x (is t x) s (to (wrong X1 x)) (λ e. a) (λ e. refl)

abbrev pub opens : Word → TextCode
opens x = if is (codes "choose_args") x then X4 else X1

pub at_first : (early : Bool) (x : Word) (t : List ℕ) (s : State) → is t x ≡ true → bytes_eq t (codes "choose_args") ≡ false → At (opens x) x s → At (opens x) x (first early x s)
at_first true x t s e n a = a
at_first false x t s e n a = let same = (bytes_eq-Decides x.text t).0 e in rw (same, n) refl

pub at_bucket : (x : Word) (o : Option (List ℕ)) → At (opens x) x (begun_bucket x o)
at_bucket x (Some t) = tt
at_bucket x None = refl

pub begun_at : (early : Bool) (x : Word) → At (opens x) x (begun early x)
begun_at early x =
    at_if (opens x) x (is (codes "tunable") x) _ _ (λ e. at_first early x (codes "tunable") (TunableWord x.line) e refl tt) (λ e1.
    at_if (opens x) x (is (codes "device") x) _ _ (λ e. at_first early x (codes "device") (DeviceWord x.line) e refl tt) (λ e2.
    at_if (opens x) x (is (codes "type") x) _ _ (λ e. at_first early x (codes "type") (TypeWord x.line) e refl tt) (λ e3.
    at_if (opens x) x (is (codes "rule") x) _ _ (λ e. tt) (λ e4. at_bucket x (type_of x.text)))))

pub lines_at : (h : BucketHead) (o : Option ℤ) (x : Word) → At X1 x (in_lines h o x).state
lines_at h None x = at_key x (codes "id") _ tt
lines_at h (Some i) x = at_two X1 x (is (codes "id") x) _ _ (λ e. tt) (λ e. at_key x (codes "alg") _ tt)

pub plain_at : (h : BucketHead) (o : Option ℤ) (i : ℤ) (x : Word) → At X1 x (plain h o i x).state
plain_at h None i x = lines_at h (Some i) x
plain_at h (Some j) i x = refl

pub items_at : (b : DeclaredBucket) (x : Word) → At X1 x (in_items b x).state
items_at b x = at_two X1 x (is (codes "item") x) _ _ (λ e. tt) (λ e. at_key x (codes "}") _ tt)

pub pos_at : (b : DeclaredBucket) (e : DeclaredItem) (x : Word) → At X1 x (in_pos b e x).state
pos_at b e x = at_two X1 x (is (codes "pos") x) _ _ (λ e. tt) (λ f. items_at (with_item b e) x)

pub steps_at : (r : DeclaredRule) (x : Word) → At X1 x (in_steps r x).state
steps_at r x = at_two X1 x (is (codes "step") x) _ _ (λ e. tt) (λ e. at_key x (codes "}") _ tt)

pub max_at : (r : DeclaredRule) (x : Word) → At X1 x (at_max r x).state
max_at r x = at_two X1 x (is (codes "max_size") x) _ _ (λ e. tt) (λ e. at_key x (codes "step") _ tt)

pub action_at : (r : DeclaredRule) (x : Word) → At X1 x (action r x).state
action_at r x =
    at_two X1 x (is (codes "take") x) _ _ (λ e. tt) (λ e1. at_two X1 x (is (codes "emit") x) _ _ (λ e. tt) (λ e2. at_two X1 x (is (codes "choose") x) _ _ (λ e. tt) (λ e3. at_two X1 x (is (codes "chooseleaf") x) _ _ (λ e. tt)
    (λ e4. at_on x X1 (setting_of x.text) (λ s. to (SetWord r s)) (λ s. tt)))))

pub step_at : (p : State) (x : Word) → is_dead p ≡ false → At (code_at p x) x (step p x).state
unfolding step number_of weight_of integer_of name_of type_of tunable_of alg_of hash_of rule_id_of erasure_of firstn_of setting_of
step_at (Between d) x a = begun_at d x
step_at (TunableWord l) x a = at_on x X1 (tunable_of x.text) _ (λ v. tt)
step_at (TunableKey l t) x a = at_on x X1 (number_of x.text) _ (λ v. tt)
step_at (DeviceWord l) x a = at_on x X1 (number_of x.text) _ (λ v. tt)
step_at (DeviceNumber l n) x a = at_on x X1 (name_of x.text) _ (λ v. tt)
step_at (DeviceName l n y) x a = at_two (opens x) x (is (codes "class") x) _ _ (λ e. tt) (λ f. begun_at true x)
step_at (ClassWord l n y) x a = at_on x X1 (name_of x.text) _ (λ v. tt)
step_at (TypeWord l) x a = at_on x X1 (number_of x.text) _ (λ v. tt)
step_at (TypeNumber l n) x a = at_on x X1 (name_of x.text) _ (λ v. tt)
step_at (BucketType l t) x a = at_on x X1 (name_of x.text) _ (λ v. tt)
step_at (BucketName h) x a = at_key x (codes "{") _ tt
step_at (IdLines h None) x a = lines_at h None x
step_at (IdLines h (Some i)) x a = lines_at h (Some i) x
step_at (IdWord h o) x a = at_on x X1 (integer_of x.text) _ (λ v. tt)
step_at (IdNumber h None i) x a = at_two X1 x (is (codes "class") x) _ _ (λ e. tt) (λ f. plain_at h None i x)
step_at (IdNumber h (Some j) i) x a = at_two X1 x (is (codes "class") x) _ _ (λ e. tt) (λ f. plain_at h (Some j) i x)
step_at (IdClass h o) x a = at_on x X1 (name_of x.text) _ (λ v. tt)
step_at (AlgWord h i) x a = at_on x _ (alg_of x) _ (λ v. tt)
step_at (Hashes b) x a = at_two X1 x (is (codes "hash") x) _ _ (λ e. tt) (λ f. items_at b x)
step_at (HashWord b) x a = at_on x X1 (hash_of x.text) _ (λ v. tt)
step_at (Items b) x a = items_at b x
step_at (ItemWord b) x a = at_on x X1 (name_of x.text) _ (λ v. tt)
step_at (ItemName b e) x a = at_two X1 x (is (codes "weight") x) _ _ (λ e. tt) (λ f. pos_at b e x)
step_at (WeightWord b e) x a = at_on x _ (weight_of x.text) _ (λ v. tt)
step_at (ItemWeight b e) x a = pos_at b e x
step_at (PosWord b e) x a = at_on x X1 (number_of x.text) _ (λ v. tt)
step_at (RuleWord l) x a = at_on x X1 (name_of x.text) _ (λ v. tt)
step_at (RuleName l y) x a = at_key x (codes "{") _ tt
step_at (RuleOpen l y) x a = at_on x X1 (rule_id_of x.text) _ (λ v. tt)
step_at (RuleId l y) x a = at_on x X1 (number_of x.text) _ (λ v. tt)
step_at (RuleNumber l y n) x a = at_key x (codes "type") _ tt
step_at (RuleType l y n) x a = at_on x X1 (erasure_of x.text) _ (λ v. tt)
step_at (RuleKind r) x a = at_two X1 x (is (codes "min_size") x) _ _ (λ e. tt) (λ f. max_at r x)
step_at (MinWord r) x a = at_on x X1 (number_of x.text) _ (λ v. tt)
step_at (RuleMin r) x a = max_at r x
step_at (MaxWord r) x a = at_on x X1 (number_of x.text) _ (λ v. tt)
step_at (RuleMax r) x a = at_key x (codes "step") _ tt
step_at (StepWord r) x a = action_at r x
step_at (TakeWord r) x a = at_on x X1 (name_of x.text) _ (λ v. tt)
step_at (Taken r) x a = at_two _ x (is (codes "class") x) _ _ (λ e. rw e refl) (λ e. rw e (steps_at r x))
step_at (SetWord r s) x a = at_on x X1 (number_of x.text) _ (λ v. tt)
step_at (ChooseWord r leaf) x a = at_on x X1 (firstn_of x.text) _ (λ v. tt)
step_at (ChooseHow r leaf h) x a = at_on x X1 (integer_of x.text) _ (λ v. tt)
step_at (ChooseNumber r leaf h n) x a = at_key x (codes "type") _ tt
step_at (ChooseType r leaf h n) x a = at_on x X1 (name_of x.text) _ (λ v. tt)
step_at (Steps r) x a = steps_at r x
step_at (Dead f) x a = cc

pub no_end : (f : TextFault) (line : ℕ) (ws : List Word) → Ends (Dead f) line ws → ⊥
no_end f line ws h = let k = rw (dead f line ws) at h in cc

pub dead_ends : (q : State) → is_dead q ≡ true → (line : ℕ) (ws : List Word) → Ends q line ws → ⊥
dead_ends (Dead f) k line ws h = no_end f line ws h
dead_ends other k line ws h = cc

pub given : (o : Option Declaration) (r : Reading) → (give o r).fault ≡ r.fault
given None r = refl
given (Some d) r = refl

pub on_word : (p : State) (line : ℕ) (x : Word) (ws : List Word) → Ends (step p x).state x.line ws → Ends p line (x ∷ ws)
on_word p line x ws h = given (step p x).done (reading (step p x).state x.line ws) ∙ h

pub off_word : (p : State) (line : ℕ) (x : Word) (ws : List Word) → Ends p line (x ∷ ws) → Ends (step p x).state x.line ws
off_word p line x ws h = let e = given (step p x).done (reading (step p x).state x.line ws) in cc

pub ending : (p : State) → is_dead p ≡ false → (line : ℕ) → (more : List Word) × Ends p line more
ending p h line = let f = finish p h line in (say f.0, f.1.0)

pub short : (p : State) (line : ℕ) (f : TextFault) → is_dead p ≡ false → (at_end p line).fault ≡ Some f → f ≡ record { line = line; code = X1 }
short (Between b) line f a h = cc
short (DeviceName l n x) line f a h = cc
short (Dead g) line f a h = cc
short other line f a h = cc

pub dead_is : (c : TextCode) (x : Word) (q : State) (f : TextFault) (ws : List Word) → is_dead q ≡ true → At c x q → (reading q x.line ws).fault ≡ Some f → f ≡ record { line = x.line; code = c }
dead_is c x (Dead g) f ws d a h = let k = rw (dead g x.line ws) at h in cc
dead_is c x other f ws d a h = cc

-- the state behind words
abbrev pub run : State → List Word → State
run p [] = p
run p (w ∷ ws) = run (step p w).state ws

pub ends_on : (p : State) (line : ℕ) (xs more : List Word) → Ends (run p xs) (last_line line xs) more → Ends p line (xs ++ more)
ends_on p line [] more h = h
ends_on p line (x ∷ xs) more h = on_word p line x (xs ++ more) (ends_on (step p x).state x.line xs more h)

pub ends_off : (p : State) (line : ℕ) (xs more : List Word) → Ends p line (xs ++ more) → Ends (run p xs) (last_line line xs) more
ends_off p line [] more h = h
ends_off p line (x ∷ xs) more h = ends_off (step p x).state x.line xs more (off_word p line x (xs ++ more) h)

abbrev pub is_device : State → Bool
is_device (DeviceName l n x) = true
is_device other = false

-- a step to a dead state ends no declaration
abbrev pub None_if_dead : Move → Type 0
None_if_dead s = is_dead s.state ≡ true → s.done ≡ None

pub none_two : (k : Bool) (s t : Move) → None_if_dead s → None_if_dead t → None_if_dead (if k then s else t)
none_two true s t a b = a
none_two false s t a b = b

pub none_on : {V : Type 0} (x : Word) (c : TextCode) (o : Option V) (next : V → Move) → ((v : V) → None_if_dead (next v)) → None_if_dead (on c x o next)
none_on x c (Some v) next h = h v
none_on x c None next h = λ e. refl

pub none_key : (x : Word) (t : List ℕ) (s : Move) → None_if_dead s → None_if_dead (if is t x then s else to (wrong X1 x))
none_key x t s a = none_two (is t x) s (to (wrong X1 x)) a (λ h. refl)

pub lines_none : (h : BucketHead) (o : Option ℤ) (x : Word) → None_if_dead (in_lines h o x)
lines_none h None x = none_key x (codes "id") _ (λ h. refl)
lines_none h (Some i) x = none_two (is (codes "id") x) _ _ (λ h. refl) (none_key x (codes "alg") _ (λ h. refl))

pub plain_none : (h : BucketHead) (o : Option ℤ) (i : ℤ) (x : Word) → None_if_dead (plain h o i x)
plain_none h None i x = lines_none h (Some i) x
plain_none h (Some j) i x = λ e. refl

pub items_none : (b : DeclaredBucket) (x : Word) → None_if_dead (in_items b x)
items_none b x = none_two (is (codes "item") x) _ _ (λ h. refl) (none_key x (codes "}") _ (λ h. cc))

pub pos_none : (b : DeclaredBucket) (e : DeclaredItem) (x : Word) → None_if_dead (in_pos b e x)
pos_none b e x = none_two (is (codes "pos") x) _ _ (λ h. refl) (items_none (with_item b e) x)

pub steps_none : (r : DeclaredRule) (x : Word) → None_if_dead (in_steps r x)
steps_none r x = none_two (is (codes "step") x) _ _ (λ h. refl) (none_key x (codes "}") _ (λ h. cc))

pub max_none : (r : DeclaredRule) (x : Word) → None_if_dead (at_max r x)
max_none r x = none_two (is (codes "max_size") x) _ _ (λ h. refl) (none_key x (codes "step") _ (λ h. refl))

pub action_none : (r : DeclaredRule) (x : Word) → None_if_dead (action r x)
action_none r x =
    none_two (is (codes "take") x) _ _ (λ h. refl) (none_two (is (codes "emit") x) _ _ (λ h. refl) (none_two (is (codes "choose") x) _ _ (λ h. refl) (none_two (is (codes "chooseleaf") x) _ _ (λ h. refl)
    (none_on x X1 (setting_of x.text) (λ s. to (SetWord r s)) (λ s h. refl)))))

pub done_at : (p : State) (x : Word) → is_device p ≡ false → None_if_dead (step p x)
unfolding step
done_at (Between d) x a = λ h. refl
done_at (TunableWord l) x a = none_on x X1 (tunable_of x.text) _ (λ v h. refl)
done_at (TunableKey l t) x a = none_on x X1 (number_of x.text) _ (λ v h. cc)
done_at (DeviceWord l) x a = none_on x X1 (number_of x.text) _ (λ v h. refl)
done_at (DeviceNumber l n) x a = none_on x X1 (name_of x.text) _ (λ v h. refl)
done_at (DeviceName l n y) x a = cc
done_at (ClassWord l n y) x a = none_on x X1 (name_of x.text) _ (λ v h. cc)
done_at (TypeWord l) x a = none_on x X1 (number_of x.text) _ (λ v h. refl)
done_at (TypeNumber l n) x a = none_on x X1 (name_of x.text) _ (λ v h. cc)
done_at (BucketType l t) x a = none_on x X1 (name_of x.text) _ (λ v h. refl)
done_at (BucketName h) x a = none_key x (codes "{") _ (λ h. refl)
done_at (IdLines h None) x a = lines_none h None x
done_at (IdLines h (Some i)) x a = lines_none h (Some i) x
done_at (IdWord h o) x a = none_on x X1 (integer_of x.text) _ (λ v h. refl)
done_at (IdNumber h None i) x a = none_two (is (codes "class") x) _ _ (λ h. refl) (plain_none h None i x)
done_at (IdNumber h (Some j) i) x a = none_two (is (codes "class") x) _ _ (λ h. refl) (plain_none h (Some j) i x)
done_at (IdClass h o) x a = none_on x X1 (name_of x.text) _ (λ v h. refl)
done_at (AlgWord h i) x a = none_on x _ (alg_of x) _ (λ v h. refl)
done_at (Hashes b) x a = none_two (is (codes "hash") x) _ _ (λ h. refl) (items_none b x)
done_at (HashWord b) x a = none_on x X1 (hash_of x.text) _ (λ v h. refl)
done_at (Items b) x a = items_none b x
done_at (ItemWord b) x a = none_on x X1 (name_of x.text) _ (λ v h. refl)
done_at (ItemName b e) x a = none_two (is (codes "weight") x) _ _ (λ h. refl) (pos_none b e x)
done_at (WeightWord b e) x a = none_on x _ (weight_of x.text) _ (λ v h. refl)
done_at (ItemWeight b e) x a = pos_none b e x
done_at (PosWord b e) x a = none_on x X1 (number_of x.text) _ (λ v h. refl)
done_at (RuleWord l) x a = none_on x X1 (name_of x.text) _ (λ v h. refl)
done_at (RuleName l y) x a = none_key x (codes "{") _ (λ h. refl)
done_at (RuleOpen l y) x a = none_on x X1 (rule_id_of x.text) _ (λ v h. refl)
done_at (RuleId l y) x a = none_on x X1 (number_of x.text) _ (λ v h. refl)
done_at (RuleNumber l y n) x a = none_key x (codes "type") _ (λ h. refl)
done_at (RuleType l y n) x a = none_on x X1 (erasure_of x.text) _ (λ v h. refl)
done_at (RuleKind r) x a = none_two (is (codes "min_size") x) _ _ (λ h. refl) (max_none r x)
done_at (MinWord r) x a = none_on x X1 (number_of x.text) _ (λ v h. refl)
done_at (RuleMin r) x a = max_none r x
done_at (MaxWord r) x a = none_on x X1 (number_of x.text) _ (λ v h. refl)
done_at (RuleMax r) x a = none_key x (codes "step") _ (λ h. refl)
done_at (StepWord r) x a = action_none r x
done_at (TakeWord r) x a = none_on x X1 (name_of x.text) _ (λ v h. refl)
done_at (Taken r) x a = none_two (is (codes "class") x) _ _ (λ h. refl) (steps_none r x)
done_at (SetWord r s) x a = none_on x X1 (number_of x.text) _ (λ v h. refl)
done_at (ChooseWord r leaf) x a = none_on x X1 (firstn_of x.text) _ (λ v h. refl)
done_at (ChooseHow r leaf h) x a = none_on x X1 (integer_of x.text) _ (λ v h. refl)
done_at (ChooseNumber r leaf h n) x a = none_key x (codes "type") _ (λ h. refl)
done_at (ChooseType r leaf h n) x a = none_on x X1 (name_of x.text) _ (λ v h. refl)
done_at (Steps r) x a = steps_none r x
done_at (Dead f) x a = λ h. refl
