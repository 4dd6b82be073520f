-- The code of the word that leaves the grammar.
use Rattle.std.proofs.Common.{ℤ, sym, ◌≡◌, ◌∙◌, ℕ, ◌⊎◌, inl, inr, List, [], ◌∷◌, ◌++◌, Option, Some, None, Bool, true, false, ◌&&◌, refl, ap, if◌then◌else◌}
use Rattle.std.specs.Prelude.{codes}
use Rattle.crush_grammar.proofs.IsRead.{is_read}
use Rattle.crush_grammar.proofs.Written.{is_written}
use Rattle.crush_map.specs.WeightText.{weight_of}
use Rattle.crush_grammar.specs.Words.{Word}
use Rattle.crush_grammar.specs.Numbers.{number_of, integer_of}
use Rattle.crush_grammar.specs.Sayings.{name_of, type_of, tunable_of, alg_of, hash_of, rule_id_of, erasure_of, firstn_of, setting_of}
use Rattle.crush_grammar.specs.Fronts.{is, is_token, word, one_half, IsStraw, IsClassOfTake, IsChooseArgs, IsNoWeight, HasCode, last_line}
use Rattle.crush_grammar.specs.Automaton.{State, Move, reading, step, text, with_item, with_step, named, to, wrong, on, first, begun_bucket, begun, in_lines, plain, in_items, in_pos, in_steps, at_max, action}
use Rattle.crush_grammar.specs.Automaton.State.{Between, TunableWord, TunableKey, DeviceWord, DeviceNumber, DeviceName, ClassWord, TypeWord, TypeNumber, BucketType, BucketName, IdLines, IdWord, IdNumber, IdClass, AlgWord, Hashes, HashWord, Items, ItemWord, ItemName, WeightWord, ItemWeight, PosWord, RuleWord, RuleName, RuleOpen, RuleId, RuleNumber, RuleType, RuleKind, MinWord, RuleMin, MaxWord, RuleMax, StepWord, TakeWord, Taken, SetWord, ChooseWord, ChooseHow, ChooseNumber, ChooseType, Steps, Dead}
use Rattle.crush_grammar.specs.declared.code.TextCode.{TextCode}
use Rattle.crush_grammar.specs.declared.code.TextCode.TheVariants.{X1, X2, X3, X4, X6}
use Rattle.crush_grammar.specs.declared.declaration.DeclaredItem.{DeclaredItem}
use Rattle.crush_grammar.specs.declared.declaration.BucketHead.{BucketHead}
use Rattle.crush_grammar.specs.declared.declaration.DeclaredBucket.{DeclaredBucket}
use Rattle.crush_grammar.specs.declared.declaration.DeclaredStep.{DeclaredStep}
use Rattle.crush_grammar.specs.declared.declaration.DeclaredRule.{DeclaredRule}
use Rattle.crush_grammar.specs.declared.declaration.Declaration.{Declaration}
use Rattle.crush_map.specs.crush_types.specs.declared.Kind.TheVariants as kinds
use Rattle.crush_grammar.specs.declared.declaration.DeclaredStep.TheVariants as steps
use Rattle.crush_grammar.specs.declared.declaration.Declaration.TheVariants as declarations
use Rattle.crush_grammar.proofs.Endings.{Ends, is_open, straw, is_taken, wants_alg, wants_weight, code_at, run, ends_on, ends_off}
use Rattle.crush_grammar.proofs.Cuts.{out, out_on}
use Rattle.crush_grammar.proofs.Lines.{both, is_open_text, is_text_open, and_on}

pub last_same : {A : Type 0} (xs ys : List A) (a b : A) → xs ++ a ∷ [] ≡ ys ++ b ∷ [] → a ≡ b
last_same [] [] a b h = cc
last_same [] (y ∷ []) a b h = cc
last_same [] (y ∷ z ∷ ys) a b h = cc
last_same (x ∷ []) [] a b h = cc
last_same (x ∷ z ∷ xs) [] a b h = cc
last_same (x ∷ xs) (y ∷ ys) a b h = last_same xs ys a b (cc)

abbrev pub EndsInTake : List DeclaredStep → Type 0
EndsInTake ss = (before : List DeclaredStep) × (name : List ℕ) × (ss ≡ before ++ steps.Take name ∷ [])

-- where a take step is the last, and where it is not
abbrev pub Good : State → Type 0
Good (Taken r) = EndsInTake r.steps
Good (Steps r) = ¬ (EndsInTake r.steps)
Good other = Unit {0}

pub good_two : (k : Bool) (s t : Move) → Good s.state → Good t.state → Good (if k then s else t).state
good_two true s t a b = a
good_two false s t a b = b

pub good_if : (k : Bool) (s t : State) → Good s → Good t → Good (if k then s else t)
good_if true s t a b = a
good_if false s t a b = b

pub good_on : {V : Type 0} (x : Word) (c : TextCode) (o : Option V) (next : V → Move) → ((v : V) → Good (next v).state) → Good (on c x o next).state
good_on x c (Some v) next h = h v
good_on x c None next h = tt

pub good_key : (x : Word) (t : List ℕ) (s : Move) → Good s.state → Good (if is t x then s else to (wrong X1 x)).state
good_key x t s a = good_two (is t x) s (to (wrong X1 x)) a tt

pub good_first : (early : Bool) (x : Word) (s : State) → Good s → Good (first early x s)
good_first true x s h = h
good_first false x s h = tt

pub good_bucket : (x : Word) (o : Option (List ℕ)) → Good (begun_bucket x o)
good_bucket x (Some t) = tt
good_bucket x None = tt

pub begun_good : (early : Bool) (x : Word) → Good (begun early x)
begun_good early x =
    good_if (is (codes "tunable") x) _ _ (good_first early x (TunableWord x.line) tt)
    (good_if (is (codes "device") x) _ _ (good_first early x (DeviceWord x.line) tt)
    (good_if (is (codes "type") x) _ _ (good_first early x (TypeWord x.line) tt)
    (good_if (is (codes "rule") x) _ _ tt (good_bucket x (type_of x.text)))))

pub other_step : (r : DeclaredRule) (s : DeclaredStep) → ((name : List ℕ) → s ≡ steps.Take name → ⊥) → Good (Steps (with_step r s))
other_step r s never = λ (before, name, e). never name (last_same r.steps before s (steps.Take name) e)

pub lines_good : (h : BucketHead) (o : Option ℤ) (x : Word) → Good (in_lines h o x).state
lines_good h None x = good_key x (codes "id") _ tt
lines_good h (Some i) x = good_two (is (codes "id") x) _ _ tt (good_key x (codes "alg") _ tt)

pub plain_good : (h : BucketHead) (o : Option ℤ) (i : ℤ) (x : Word) → Good (plain h o i x).state
plain_good h None i x = lines_good h (Some i) x
plain_good h (Some j) i x = tt

pub items_good : (b : DeclaredBucket) (x : Word) → Good (in_items b x).state
items_good b x = good_two (is (codes "item") x) _ _ tt (good_key x (codes "}") _ tt)

pub pos_good : (b : DeclaredBucket) (e : DeclaredItem) (x : Word) → Good (in_pos b e x).state
pos_good b e x = good_two (is (codes "pos") x) _ _ tt (items_good (with_item b e) x)

pub steps_good : (r : DeclaredRule) (x : Word) → Good (in_steps r x).state
steps_good r x = good_two (is (codes "step") x) _ _ tt (good_key x (codes "}") _ tt)

pub max_good : (r : DeclaredRule) (x : Word) → Good (at_max r x).state
max_good r x = good_two (is (codes "max_size") x) _ _ tt (good_key x (codes "step") _ tt)

pub action_good : (r : DeclaredRule) (x : Word) → Good (action r x).state
action_good r x =
    good_two (is (codes "take") x) _ _ tt (good_two (is (codes "emit") x) _ _ (other_step r steps.Emit (λ name h. cc)) (good_two (is (codes "choose") x) _ _ tt (good_two (is (codes "chooseleaf") x) _ _ tt
    (good_on x X1 (setting_of x.text) (λ s. to (SetWord r s)) (λ s. tt)))))

pub good_at : (p : State) (x : Word) → Good (step p x).state
unfolding step
good_at (Between d) x = begun_good d x
good_at (TunableWord l) x = good_on x X1 (tunable_of x.text) _ (λ v. tt)
good_at (TunableKey l t) x = good_on x X1 (number_of x.text) _ (λ v. tt)
good_at (DeviceWord l) x = good_on x X1 (number_of x.text) _ (λ v. tt)
good_at (DeviceNumber l n) x = good_on x X1 (name_of x.text) _ (λ v. tt)
good_at (DeviceName l n y) x = good_two (is (codes "class") x) _ _ tt (begun_good true x)
good_at (ClassWord l n y) x = good_on x X1 (name_of x.text) _ (λ v. tt)
good_at (TypeWord l) x = good_on x X1 (number_of x.text) _ (λ v. tt)
good_at (TypeNumber l n) x = good_on x X1 (name_of x.text) _ (λ v. tt)
good_at (BucketType l t) x = good_on x X1 (name_of x.text) _ (λ v. tt)
good_at (BucketName h) x = good_key x (codes "{") _ tt
good_at (IdLines h None) x = lines_good h None x
good_at (IdLines h (Some i)) x = lines_good h (Some i) x
good_at (IdWord h o) x = good_on x X1 (integer_of x.text) _ (λ v. tt)
good_at (IdNumber h None i) x = good_two (is (codes "class") x) _ _ tt (plain_good h None i x)
good_at (IdNumber h (Some j) i) x = good_two (is (codes "class") x) _ _ tt (plain_good h (Some j) i x)
good_at (IdClass h o) x = good_on x X1 (name_of x.text) _ (λ v. tt)
good_at (AlgWord h i) x = good_on x _ (alg_of x) _ (λ v. tt)
good_at (Hashes b) x = good_two (is (codes "hash") x) _ _ tt (items_good b x)
good_at (HashWord b) x = good_on x X1 (hash_of x.text) _ (λ v. tt)
good_at (Items b) x = items_good b x
good_at (ItemWord b) x = good_on x X1 (name_of x.text) _ (λ v. tt)
good_at (ItemName b e) x = good_two (is (codes "weight") x) _ _ tt (pos_good b e x)
good_at (WeightWord b e) x = good_on x _ (weight_of x.text) _ (λ v. tt)
good_at (ItemWeight b e) x = pos_good b e x
good_at (PosWord b e) x = good_on x X1 (number_of x.text) _ (λ v. tt)
good_at (RuleWord l) x = good_on x X1 (name_of x.text) _ (λ v. tt)
good_at (RuleName l y) x = good_key x (codes "{") _ tt
good_at (RuleOpen l y) x = good_on x X1 (rule_id_of x.text) _ (λ v. tt)
good_at (RuleId l y) x = good_on x X1 (number_of x.text) _ (λ v. tt)
good_at (RuleNumber l y n) x = good_key x (codes "type") _ tt
good_at (RuleType l y n) x = good_on x X1 (erasure_of x.text) _ (λ v. tt)
good_at (RuleKind r) x = good_two (is (codes "min_size") x) _ _ tt (max_good r x)
good_at (MinWord r) x = good_on x X1 (number_of x.text) _ (λ v. tt)
good_at (RuleMin r) x = max_good r x
good_at (MaxWord r) x = good_on x X1 (number_of x.text) _ (λ v. tt)
good_at (RuleMax r) x = good_key x (codes "step") _ tt
good_at (StepWord r) x = action_good r x
good_at (TakeWord r) x = good_on x X1 (name_of x.text) _ (λ v. (r.steps, v, refl))
good_at (Taken r) x = good_two (is (codes "class") x) _ _ tt (steps_good r x)
good_at (SetWord r s) x = good_on x X1 (number_of x.text) _ (λ v. other_step r (steps.Set s v) (λ name h. cc))
good_at (ChooseWord r leaf) x = good_on x X1 (firstn_of x.text) _ (λ v. tt)
good_at (ChooseHow r leaf h) x = good_on x X1 (integer_of x.text) _ (λ v. tt)
good_at (ChooseNumber r leaf h n) x = good_key x (codes "type") _ tt
good_at (ChooseType r leaf h n) x = good_on x X1 (name_of x.text) _ (λ v. other_step r (steps.Choose h leaf n v) (λ name h. cc))
good_at (Steps r) x = steps_good r x
good_at (Dead f) x = tt

pub run_good : (p : State) (ws : List Word) → Good p → Good (run p ws)
run_good p [] h = h
run_good p (w ∷ ws) h = run_good (step p w).state ws (good_at p w)

abbrev pub brace : List Word
brace = word (codes "}") ∷ []

-- a rule ends with a brace
abbrev pub AtRule : State → DeclaredRule → Type 0
AtRule q r = (q ≡ Steps r) ⊎ (q ≡ Taken r)

pub no_bucket : (b : DeclaredBucket) (r : DeclaredRule) (xs ds : List Declaration) → xs ++ declarations.Bucket b ∷ [] ≡ ds ++ declarations.Rule r ∷ [] → ⊥
no_bucket b r xs ds h = let e = last_same xs ds (declarations.Bucket b) (declarations.Rule r) h in cc

pub same_rule : (s r : DeclaredRule) (xs ds : List Declaration) → xs ++ declarations.Rule s ∷ [] ≡ ds ++ declarations.Rule r ∷ [] → s ≡ r
same_rule s r xs ds h = let e = last_same xs ds (declarations.Rule s) (declarations.Rule r) h in cc

pub at_rule : (q : State) (line : ℕ) (r : DeclaredRule) (xs ds : List Declaration) → Ends q line brace → xs ++ (reading q line brace).decls ≡ ds ++ declarations.Rule r ∷ [] → AtRule q r
unfolding step number_of weight_of integer_of name_of type_of tunable_of alg_of hash_of rule_id_of erasure_of firstn_of setting_of
at_rule (Hashes b) line r xs ds e h = absurd (no_bucket b r xs ds h)
at_rule (Items b) line r xs ds e h = absurd (no_bucket b r xs ds h)
at_rule (ItemName b i) line r xs ds e h = absurd (no_bucket (with_item b i) r xs ds h)
at_rule (ItemWeight b i) line r xs ds e h = absurd (no_bucket (with_item b i) r xs ds h)
at_rule (Steps s) line r xs ds e h = inl (ap Steps (same_rule s r xs ds h))
at_rule (Taken s) line r xs ds e h = inr (ap Taken (same_rule s r xs ds h))
at_rule (IdLines x None) line r xs ds e h = cc
at_rule (IdLines x (Some i)) line r xs ds e h = cc
at_rule (IdNumber x None i) line r xs ds e h = cc
at_rule (IdNumber x (Some j) i) line r xs ds e h = cc
at_rule other line r xs ds e h = cc

pub taken_is : (q : State) → is_taken q ≡ true → (r : DeclaredRule) × (q ≡ Taken r)
taken_is (Taken r) h = (r, refl)
taken_is other h = cc

pub take_stands : (front : List Word) (x : Word) (r : DeclaredRule) → run (Between true) front ≡ Taken r → is (codes "class") x ≡ true → IsClassOfTake front x
unfolding step
take_stands front x r e class =
    let good : EndsInTake r.steps = rw e at (run_good (Between true) front tt) in
    let ends : Ends (Between true) 1 (front ++ brace) = ends_on (Between true) 1 front brace (rw e refl) in
    let d : (text (front ++ brace)).decls ≡ out (Between true) front ++ declarations.Rule r ∷ [] = out_on (Between true) 1 front brace ∙ rw e refl in
    (class, (out (Between true) front, r, good.0, good.1, rw d at (is_written (front ++ brace) ends), good.2))

pub after_take : (front : List Word) (x : Word) → is_taken (run (Between true) front) ≡ true → is (codes "class") x ≡ true → IsClassOfTake front x
after_take front x taken class =
    let t = taken_is (run (Between true) front) taken in
    take_stands front x t.0 t.1 class

pub is_taken_by : (q : State) (r : DeclaredRule) → Good q → AtRule q r → EndsInTake r.steps → is_taken q ≡ true
is_taken_by q r g (inl e) t = absurd ((rw e at g) t)
is_taken_by q r g (inr e) t = rw e refl

pub take_before : (front : List Word) (x : Word) → IsClassOfTake front x → is_taken (run (Between true) front) ≡ true
take_before front x (class, (ds, r, before, name, h, s)) =
    let e = is_read (front ++ brace) (ds ++ declarations.Rule r ∷ []) h in
    let f : Ends (Between true) 1 (front ++ brace) = ap (λ t. t.fault) e in
    let d = sym (out_on (Between true) 1 front brace) ∙ ap (λ t. t.decls) e in
    let q = run (Between true) front in
    is_taken_by q r (run_good (Between true) front tt) (at_rule q (last_line 1 front) r (out (Between true) front) ds (ends_off (Between true) 1 front brace f) d) (before, name, s)

-- ---- an algorithm and a weight

abbrev pub closed_by : List ℕ → List Word
closed_by text = word text ∷ brace

pub same_bucket : (c b : DeclaredBucket) (xs ds : List Declaration) → xs ++ declarations.Bucket c ∷ [] ≡ ds ++ declarations.Bucket b ∷ [] → c ≡ b
same_bucket c b xs ds h = let e = last_same xs ds (declarations.Bucket c) (declarations.Bucket b) h in cc

pub no_rule : (r : DeclaredRule) (b : DeclaredBucket) (xs ds : List Declaration) → xs ++ declarations.Rule r ∷ [] ≡ ds ++ declarations.Bucket b ∷ [] → ⊥
no_rule r b xs ds h = let e = last_same xs ds (declarations.Rule r) (declarations.Bucket b) h in cc

pub some_items : (items : List DeclaredItem) (item : DeclaredItem) → items ++ item ∷ [] ≡ [] → ⊥
some_items [] item h = cc
some_items (x ∷ items) item h = cc

-- a bucket whose last item has this name alone has no weight there
pub no_weight : (c : DeclaredBucket) (text : List ℕ) (b : DeclaredBucket) (before : List DeclaredItem) (item : DeclaredItem) → with_item c (named text) ≡ b → b.items ≡ before ++ item ∷ [] → item.weight ≡ Some one_half → ⊥
no_weight c text b before item e h w =
    let s : c.items ++ named text ∷ [] ≡ b.items = ap (λ z. z.items) e in
    let l : named text ≡ item = last_same c.items before (named text) item (s ∙ h) in
    let m : None ≡ item.weight = ap (λ z. z.weight) l in
    cc

-- list and a brace end a bucket without items where an algorithm is expected, and nowhere else
pub at_alg : (q : State) (line : ℕ) (b : DeclaredBucket) (xs ds : List Declaration) → Ends q line (closed_by (codes "list")) →
    xs ++ (reading q line (closed_by (codes "list"))).decls ≡ ds ++ declarations.Bucket b ∷ [] → b.items ≡ [] → wants_alg q ≡ true
unfolding step number_of weight_of integer_of name_of type_of tunable_of alg_of hash_of rule_id_of erasure_of firstn_of setting_of
at_alg (AlgWord h i) line b xs ds e d none = refl
at_alg (ItemWord c) line b xs ds e d none = absurd (some_items c.items (named (codes "list")) (ap (λ z. z.items) (same_bucket (with_item c (named (codes "list"))) b xs ds d) ∙ none))
at_alg (TakeWord r) line b xs ds e d none = absurd (no_rule (with_step r (steps.Take (codes "list"))) b xs ds d)
at_alg (ChooseType r leaf h n) line b xs ds e d none = absurd (no_rule (with_step r (steps.Choose h leaf n (codes "list"))) b xs ds d)
at_alg (IdLines x None) line b xs ds e d none = cc
at_alg (IdLines x (Some i)) line b xs ds e d none = cc
at_alg (IdNumber x None i) line b xs ds e d none = cc
at_alg (IdNumber x (Some j) i) line b xs ds e d none = cc
at_alg (IdClass x None) line b xs ds e d none = cc
at_alg (IdClass x (Some i)) line b xs ds e d none = cc
at_alg other line b xs ds e d none = cc

-- 0.5 and a brace end a bucket whose last item has that weight where a weight is expected, and
-- nowhere else
pub at_weight : (q : State) (line : ℕ) (b : DeclaredBucket) (before : List DeclaredItem) (item : DeclaredItem) (xs ds : List Declaration) → Ends q line (closed_by (codes "0.5")) →
    xs ++ (reading q line (closed_by (codes "0.5"))).decls ≡ ds ++ declarations.Bucket b ∷ [] → b.items ≡ before ++ item ∷ [] → item.weight ≡ Some one_half → wants_weight q ≡ true
unfolding step number_of weight_of integer_of name_of type_of tunable_of alg_of hash_of rule_id_of erasure_of firstn_of setting_of
at_weight (WeightWord c i) line b before item xs ds e d last half = refl
at_weight (ItemWord c) line b before item xs ds e d last half = absurd (no_weight c (codes "0.5") b before item (same_bucket (with_item c (named (codes "0.5"))) b xs ds d) last half)
at_weight (TakeWord r) line b before item xs ds e d last half = absurd (no_rule (with_step r (steps.Take (codes "0.5"))) b xs ds d)
at_weight (ChooseType r leaf h n) line b before item xs ds e d last half = absurd (no_rule (with_step r (steps.Choose h leaf n (codes "0.5"))) b xs ds d)
at_weight (IdLines x None) line b before item xs ds e d last half = cc
at_weight (IdLines x (Some i)) line b before item xs ds e d last half = cc
at_weight (IdNumber x None i) line b before item xs ds e d last half = cc
at_weight (IdNumber x (Some j) i) line b before item xs ds e d last half = cc
at_weight (IdClass x None) line b before item xs ds e d last half = cc
at_weight (IdClass x (Some i)) line b before item xs ds e d last half = cc
at_weight other line b before item xs ds e d last half = cc

-- what a bucket is with the algorithm list and a brace
abbrev pub with_list : BucketHead → ℤ → DeclaredBucket
with_list h i = record { head = h; id = i; alg = kinds.List; items = [] }

pub alg_is : (q : State) → wants_alg q ≡ true → (h : BucketHead) × (i : ℤ) × (q ≡ AlgWord h i)
alg_is (AlgWord h i) e = (h, i, refl)
alg_is other e = cc

pub straw_stands : (front : List Word) (x : Word) (h : BucketHead) (i : ℤ) → run (Between true) front ≡ AlgWord h i → straw x ≡ true → IsStraw front x
unfolding step alg_of
straw_stands front x h i e s =
    let ys = closed_by (codes "list") in
    let ends : Ends (Between true) 1 (front ++ ys) = ends_on (Between true) 1 front ys (rw e refl) in
    let d : (text (front ++ ys)).decls ≡ out (Between true) front ++ declarations.Bucket (with_list h i) ∷ [] = out_on (Between true) 1 front ys ∙ rw e refl in
    (s, (out (Between true) front, with_list h i, rw d at (is_written (front ++ ys) ends), refl))

pub after_alg : (front : List Word) (x : Word) → wants_alg (run (Between true) front) ≡ true → straw x ≡ true → IsStraw front x
after_alg front x a s =
    let t = alg_is (run (Between true) front) a in
    straw_stands front x t.0 t.1 t.2 s

pub alg_before : (front : List Word) (x : Word) → IsStraw front x → wants_alg (run (Between true) front) ≡ true
alg_before front x (s, (ds, b, h, none)) =
    let ys = closed_by (codes "list") in
    let e = is_read (front ++ ys) (ds ++ declarations.Bucket b ∷ []) h in
    let f : Ends (Between true) 1 (front ++ ys) = ap (λ t. t.fault) e in
    let d = sym (out_on (Between true) 1 front ys) ∙ ap (λ t. t.decls) e in
    at_alg (run (Between true) front) (last_line 1 front) b (out (Between true) front) ds (ends_off (Between true) 1 front ys f) d none

-- what an item is with the weight 0.5
abbrev pub with_half : DeclaredBucket → DeclaredItem → DeclaredBucket
with_half b i = with_item b (record i { weight = Some one_half })

pub weight_is : (q : State) → wants_weight q ≡ true → (b : DeclaredBucket) × (i : DeclaredItem) × (q ≡ WeightWord b i)
weight_is (WeightWord b i) e = (b, i, refl)
weight_is other e = cc

pub weight_stands : (front : List Word) (x : Word) (c : DeclaredBucket) (i : DeclaredItem) → run (Between true) front ≡ WeightWord c i → is_token x ≡ true → IsNoWeight front x
unfolding step weight_of
weight_stands front x c i e s =
    let ys = closed_by (codes "0.5") in
    let ends : Ends (Between true) 1 (front ++ ys) = ends_on (Between true) 1 front ys (rw e refl) in
    let d : (text (front ++ ys)).decls ≡ out (Between true) front ++ declarations.Bucket (with_half c i) ∷ [] = out_on (Between true) 1 front ys ∙ rw e refl in
    (s, (out (Between true) front, with_half c i, c.items, record i { weight = Some one_half }, rw d at (is_written (front ++ ys) ends), refl, refl))

pub after_weight : (front : List Word) (x : Word) → wants_weight (run (Between true) front) ≡ true → is_token x ≡ true → IsNoWeight front x
after_weight front x a s =
    let t = weight_is (run (Between true) front) a in
    weight_stands front x t.0 t.1 t.2 s

pub weight_before : (front : List Word) (x : Word) → IsNoWeight front x → wants_weight (run (Between true) front) ≡ true
weight_before front x (s, (ds, b, before, item, h, last, half)) =
    let ys = closed_by (codes "0.5") in
    let e = is_read (front ++ ys) (ds ++ declarations.Bucket b ∷ []) h in
    let f : Ends (Between true) 1 (front ++ ys) = ap (λ t. t.fault) e in
    let d = sym (out_on (Between true) 1 front ys) ∙ ap (λ t. t.decls) e in
    at_weight (run (Between true) front) (last_line 1 front) b before item (out (Between true) front) ds (ends_off (Between true) 1 front ys f) d last half

abbrev pub code_of : Bool → Bool → Bool → Bool → TextCode
code_of a m n k = if a then X6 else (if m then X2 else (if n then X4 else (if k then X3 else X1)))

pub has_code : (front : List Word) (x : Word) (a m n k : Bool) → (a ≡ true → IsNoWeight front x) → (m ≡ true → IsStraw front x) → (n ≡ true → IsChooseArgs front x) → (k ≡ true → IsClassOfTake front x) →
    (IsNoWeight front x → a ≡ true) → (IsStraw front x → m ≡ true) → (IsChooseArgs front x → n ≡ true) → (IsClassOfTake front x → k ≡ true) → HasCode front x (code_of a m n k)
has_code front x true m n k six two four three six1 two1 four1 three1 = six refl
has_code front x false true n k six two four three six1 two1 four1 three1 = two refl
has_code front x false false true k six two four three six1 two1 four1 three1 = four refl
has_code front x false false false true six two four three six1 two1 four1 three1 = three refl
has_code front x false false false false six two four three six1 two1 four1 three1 = ((λ h. let e = two1 h in cc), (λ h. let e = three1 h in cc), (λ h. let e = four1 h in cc), (λ h. let e = six1 h in cc))

pub code_is : (front : List Word) (x : Word) → HasCode front x (code_at (run (Between true) front) x)
code_is front x =
    let q = run (Between true) front in
    let a = wants_weight q in
    let b = wants_alg q in
    has_code front x (a && is_token x) (b && straw x) (is_open q && is (codes "choose_args") x) (is_taken q && is (codes "class") x)
    (λ h. let e = both a (is_token x) h in after_weight front x e.0 e.1)
    (λ h. let e = both b (straw x) h in after_alg front x e.0 e.1)
    (λ h. let e = both (is_open q) (is (codes "choose_args") x) h in (e.1, is_open_text front e.0))
    (λ h. let e = both (is_taken q) (is (codes "class") x) h in after_take front x e.0 e.1)
    (λ h. and_on a (is_token x) (weight_before front x h) h.0)
    (λ h. and_on b (straw x) (alg_before front x h) h.0)
    (λ h. and_on (is_open q) (is (codes "choose_args") x) (is_text_open front h.1.0 h.1.1) h.0)
    (λ h. and_on (is_taken q) (is (codes "class") x) (take_before front x h) h.0)
