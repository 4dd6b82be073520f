-- The declarations that words end, and where a further one begins.
use Rattle.std.proofs.Common.{ℤ, sym, ◌≡◌, ◌∙◌, ℕ, ◌⊎◌, inl, inr, List, [], ◌∷◌, ◌++◌, Option, Some, None, Bool, true, false, refl, ap, if◌then◌else◌}
use Rattle.std.specs.Prelude.{codes}
use Rattle.crush_map.specs.WeightText.{weight_of}
use Rattle.crush_grammar.specs.Words.{Word}
use Rattle.crush_grammar.specs.Numbers.{number_of, integer_of}
use Rattle.crush_grammar.specs.Sayings.{name_of, tunable_of, alg_of, hash_of, rule_id_of, erasure_of, firstn_of, setting_of}
use Rattle.crush_grammar.specs.Fronts.{is, last_line}
use Rattle.crush_grammar.specs.Automaton.{State, Move, Reading, reading, step, give, with_item, to, wrong, on, begun, in_lines, plain, in_items, in_pos, in_steps, at_max, action, device_at}
use Rattle.crush_grammar.specs.Automaton.State.{Between, TunableWord, TunableKey, DeviceWord, DeviceNumber, DeviceName, ClassWord, TypeWord, TypeNumber, BucketType, BucketName, IdLines, IdWord, IdNumber, IdClass, AlgWord, Hashes, HashWord, Items, ItemWord, ItemName, WeightWord, ItemWeight, PosWord, RuleWord, RuleName, RuleOpen, RuleId, RuleNumber, RuleType, RuleKind, MinWord, RuleMin, MaxWord, RuleMax, StepWord, TakeWord, Taken, SetWord, ChooseWord, ChooseHow, ChooseNumber, ChooseType, Steps, Dead}
use Rattle.crush_grammar.specs.declared.code.TextCode.{TextCode}
use Rattle.crush_grammar.specs.declared.code.TextCode.TheVariants.{X1}
use Rattle.crush_grammar.specs.declared.declaration.DeclaredItem.{DeclaredItem}
use Rattle.crush_grammar.specs.declared.declaration.BucketHead.{BucketHead}
use Rattle.crush_grammar.specs.declared.declaration.DeclaredBucket.{DeclaredBucket}
use Rattle.crush_grammar.specs.declared.declaration.DeclaredRule.{DeclaredRule}
use Rattle.crush_grammar.specs.declared.declaration.Declaration.{Declaration}
use Rattle.crush_grammar.proofs.Endings.{run, is_device}

abbrev pub onto : Option Declaration → List Declaration → List Declaration
onto None ds = ds
onto (Some d) ds = d ∷ ds

-- the declarations that words end
abbrev pub out : State → List Word → List Declaration
out p [] = []
out p (w ∷ ws) = onto (step p w).done (out (step p w).state ws)

pub onto_append : (o : Option Declaration) (xs ys : List Declaration) → onto o (xs ++ ys) ≡ onto o xs ++ ys
onto_append None xs ys = refl
onto_append (Some d) xs ys = refl

pub given_decls : (o : Option Declaration) (r : Reading) → (give o r).decls ≡ onto o r.decls
given_decls None r = refl
given_decls (Some d) r = refl

pub out_on : (p : State) (line : ℕ) (xs more : List Word) → (reading p line (xs ++ more)).decls ≡ out p xs ++ (reading (run p xs) (last_line line xs) more).decls
out_on p line [] more = refl
out_on p line (x ∷ xs) more =
    given_decls (step p x).done (reading (step p x).state x.line (xs ++ more)) ∙
    ap (onto (step p x).done) (out_on (step p x).state x.line xs more) ∙
    onto_append (step p x).done (out (step p x).state xs) (reading (run (step p x).state xs) (last_line x.line xs) more).decls

-- a step that ends a declaration goes to where another may begin
abbrev pub settles : Option Declaration → State → Type 0
settles None q = Unit {0}
settles (Some d) q = (b : Bool) × (q ≡ Between b)

abbrev pub Settled : Move → Type 0
Settled s = settles s.done s.state

pub set_two : (k : Bool) (s t : Move) → Settled s → Settled t → Settled (if k then s else t)
set_two true s t a b = a
set_two false s t a b = b

pub set_on : {V : Type 0} (x : Word) (c : TextCode) (o : Option V) (next : V → Move) → ((v : V) → Settled (next v)) → Settled (on c x o next)
set_on x c (Some v) next h = h v
set_on x c None next h = tt

pub set_key : (x : Word) (t : List ℕ) (s : Move) → Settled s → Settled (if is t x then s else to (wrong X1 x))
set_key x t s a = set_two (is t x) s (to (wrong X1 x)) a tt

pub lines_set : (h : BucketHead) (o : Option ℤ) (x : Word) → Settled (in_lines h o x)
lines_set h None x = set_key x (codes "id") _ tt
lines_set h (Some i) x = set_two (is (codes "id") x) _ _ tt (set_key x (codes "alg") _ tt)

pub plain_set : (h : BucketHead) (o : Option ℤ) (i : ℤ) (x : Word) → Settled (plain h o i x)
plain_set h None i x = lines_set h (Some i) x
plain_set h (Some j) i x = tt

pub items_set : (b : DeclaredBucket) (x : Word) → Settled (in_items b x)
items_set b x = set_two (is (codes "item") x) _ _ tt (set_key x (codes "}") _ (false, refl))

pub pos_set : (b : DeclaredBucket) (e : DeclaredItem) (x : Word) → Settled (in_pos b e x)
pos_set b e x = set_two (is (codes "pos") x) _ _ tt (items_set (with_item b e) x)

pub steps_set : (r : DeclaredRule) (x : Word) → Settled (in_steps r x)
steps_set r x = set_two (is (codes "step") x) _ _ tt (set_key x (codes "}") _ (false, refl))

pub max_set : (r : DeclaredRule) (x : Word) → Settled (at_max r x)
max_set r x = set_two (is (codes "max_size") x) _ _ tt (set_key x (codes "step") _ tt)

pub action_set : (r : DeclaredRule) (x : Word) → Settled (action r x)
action_set r x =
    set_two (is (codes "take") x) _ _ tt (set_two (is (codes "emit") x) _ _ tt (set_two (is (codes "choose") x) _ _ tt (set_two (is (codes "chooseleaf") x) _ _ tt
    (set_on x X1 (setting_of x.text) (λ s. to (SetWord r s)) (λ s. tt)))))

pub settled_at : (p : State) (x : Word) → is_device p ≡ false → Settled (step p x)
unfolding step
settled_at (Between d) x a = tt
settled_at (TunableWord l) x a = set_on x X1 (tunable_of x.text) _ (λ v. tt)
settled_at (TunableKey l t) x a = set_on x X1 (number_of x.text) _ (λ v. (true, refl))
settled_at (DeviceWord l) x a = set_on x X1 (number_of x.text) _ (λ v. tt)
settled_at (DeviceNumber l n) x a = set_on x X1 (name_of x.text) _ (λ v. tt)
settled_at (DeviceName l n y) x a = cc
settled_at (ClassWord l n y) x a = set_on x X1 (name_of x.text) _ (λ v. (true, refl))
settled_at (TypeWord l) x a = set_on x X1 (number_of x.text) _ (λ v. tt)
settled_at (TypeNumber l n) x a = set_on x X1 (name_of x.text) _ (λ v. (true, refl))
settled_at (BucketType l t) x a = set_on x X1 (name_of x.text) _ (λ v. tt)
settled_at (BucketName h) x a = set_key x (codes "{") _ tt
settled_at (IdLines h None) x a = lines_set h None x
settled_at (IdLines h (Some i)) x a = lines_set h (Some i) x
settled_at (IdWord h o) x a = set_on x X1 (integer_of x.text) _ (λ v. tt)
settled_at (IdNumber h None i) x a = set_two (is (codes "class") x) _ _ tt (plain_set h None i x)
settled_at (IdNumber h (Some j) i) x a = set_two (is (codes "class") x) _ _ tt (plain_set h (Some j) i x)
settled_at (IdClass h o) x a = set_on x X1 (name_of x.text) _ (λ v. tt)
settled_at (AlgWord h i) x a = set_on x _ (alg_of x) _ (λ v. tt)
settled_at (Hashes b) x a = set_two (is (codes "hash") x) _ _ tt (items_set b x)
settled_at (HashWord b) x a = set_on x X1 (hash_of x.text) _ (λ v. tt)
settled_at (Items b) x a = items_set b x
settled_at (ItemWord b) x a = set_on x X1 (name_of x.text) _ (λ v. tt)
settled_at (ItemName b e) x a = set_two (is (codes "weight") x) _ _ tt (pos_set b e x)
settled_at (WeightWord b e) x a = set_on x _ (weight_of x.text) _ (λ v. tt)
settled_at (ItemWeight b e) x a = pos_set b e x
settled_at (PosWord b e) x a = set_on x X1 (number_of x.text) _ (λ v. tt)
settled_at (RuleWord l) x a = set_on x X1 (name_of x.text) _ (λ v. tt)
settled_at (RuleName l y) x a = set_key x (codes "{") _ tt
settled_at (RuleOpen l y) x a = set_on x X1 (rule_id_of x.text) _ (λ v. tt)
settled_at (RuleId l y) x a = set_on x X1 (number_of x.text) _ (λ v. tt)
settled_at (RuleNumber l y n) x a = set_key x (codes "type") _ tt
settled_at (RuleType l y n) x a = set_on x X1 (erasure_of x.text) _ (λ v. tt)
settled_at (RuleKind r) x a = set_two (is (codes "min_size") x) _ _ tt (max_set r x)
settled_at (MinWord r) x a = set_on x X1 (number_of x.text) _ (λ v. tt)
settled_at (RuleMin r) x a = max_set r x
settled_at (MaxWord r) x a = set_on x X1 (number_of x.text) _ (λ v. tt)
settled_at (RuleMax r) x a = set_key x (codes "step") _ tt
settled_at (StepWord r) x a = action_set r x
settled_at (TakeWord r) x a = set_on x X1 (name_of x.text) _ (λ v. tt)
settled_at (Taken r) x a = set_two (is (codes "class") x) _ _ tt (steps_set r x)
settled_at (SetWord r s) x a = set_on x X1 (number_of x.text) _ (λ v. tt)
settled_at (ChooseWord r leaf) x a = set_on x X1 (firstn_of x.text) _ (λ v. tt)
settled_at (ChooseHow r leaf h) x a = set_on x X1 (integer_of x.text) _ (λ v. tt)
settled_at (ChooseNumber r leaf h n) x a = set_key x (codes "type") _ tt
settled_at (ChooseType r leaf h n) x a = set_on x X1 (name_of x.text) _ (λ v. tt)
settled_at (Steps r) x a = steps_set r x
settled_at (Dead f) x a = tt

abbrev pub said : List Declaration → Reading
said ds = record { decls = ds; fault = None }

-- the declarations that words end are those of a front of them, behind which one more begins
abbrev pub Whole : State → ℕ → List Word → Type 0
Whole p line zs =
    (out p zs ≡ [])
    ⊎ ((xs : List Word) × (ys : List Word) × (b : Bool) × (zs ≡ xs ++ ys) × (reading p line xs ≡ said (out p zs)) × (run (Between b) ys ≡ run p zs) × (out (Between b) ys ≡ []))

pub give_said : (o : Option Declaration) (ds : List Declaration) → give o (said ds) ≡ said (onto o ds)
give_said None ds = refl
give_said (Some d) ds = refl

pub whole_later : (p : State) (line : ℕ) (x : Word) (zs : List Word) →
    ((xs : List Word) × (ys : List Word) × (b : Bool) × (zs ≡ xs ++ ys) × (reading (step p x).state x.line xs ≡ said (out (step p x).state zs)) × (run (Between b) ys ≡ run (step p x).state zs) × (out (Between b) ys ≡ [])) →
    Whole p line (x ∷ zs)
whole_later p line x zs (xs, ys, b, a, r, s, o) = inr (x ∷ xs, ys, b, ap (λ us. x ∷ us) a, ap (give (step p x).done) r ∙ give_said (step p x).done (out (step p x).state zs), s, o)

pub settled_end : (d : Declaration) (q : State) (line : ℕ) → settles (Some d) q → give (Some d) (reading q line []) ≡ said (d ∷ [])
settled_end d q line (b, e) = rw e refl

pub device_by : (l n : ℕ) (y : List ℕ) (x : Word) (k : Bool) (d : Declaration) → (if k then to (ClassWord l n y) else record { done = Some (device_at l n y); state = begun true x }).done ≡ Some d → device_at l n y ≡ d
device_by l n y x true d h = cc
device_by l n y x false d h = cc

pub begun_by : (l n : ℕ) (y : List ℕ) (x : Word) (k : Bool) (d : Declaration) → (if k then to (ClassWord l n y) else record { done = Some (device_at l n y); state = begun true x }).done ≡ Some d →
    (if k then to (ClassWord l n y) else record { done = Some (device_at l n y); state = begun true x }).state ≡ begun true x
begun_by l n y x true d h = cc
begun_by l n y x false d h = refl

pub now_none : (p : State) (line : ℕ) (x : Word) (zs : List Word) → (step p x).done ≡ None → out (step p x).state zs ≡ [] → Whole p line (x ∷ zs)
now_none p line x zs e none = inl (rw (e, none) refl)

pub now_settled : (p : State) (line : ℕ) (x : Word) (zs : List Word) (c : Declaration) → (step p x).done ≡ Some c → settles (Some c) (step p x).state → out (step p x).state zs ≡ [] → Whole p line (x ∷ zs)
now_settled p line x zs c e h none =
    inr (x ∷ [], zs, h.0, refl, rw (e, none) (settled_end c (step p x).state x.line h), ap (λ s. run s zs) (sym h.1), ap (λ s. out s zs) (sym h.1) ∙ none)

pub now_device : (p : State) (line : ℕ) (x : Word) (zs : List Word) (c : Declaration) → is_device p ≡ true → (step p x).done ≡ Some c → out (step p x).state zs ≡ [] → reading p line [] ≡ said (onto (step p x).done (out (step p x).state zs))
unfolding step
now_device (DeviceName l n y) line x zs c d e none = rw (e, none) (ap (λ u. said (u ∷ [])) (device_by l n y x (is (codes "class") x) c e))
now_device other line x zs c d e none = cc

pub begun_now : (p : State) (x : Word) (c : Declaration) → is_device p ≡ true → (step p x).done ≡ Some c → (step p x).state ≡ begun true x
unfolding step
begun_now (DeviceName l n y) x c d e = begun_by l n y x (is (codes "class") x) c e
begun_now other x c d e = cc

pub begins_so : (x : Word) → (step (Between true) x).state ≡ begun true x
unfolding step
begins_so x = refl

pub ends_none : (x : Word) → (step (Between true) x).done ≡ None
unfolding step
ends_none x = refl

pub device_now : (p : State) (line : ℕ) (x : Word) (zs : List Word) (c : Declaration) → is_device p ≡ true → (step p x).done ≡ Some c → out (step p x).state zs ≡ [] → Whole p line (x ∷ zs)
device_now p line x zs c d e none =
    let s = begins_so x ∙ sym (begun_now p x c d e) in
    inr ([], x ∷ zs, true, refl, now_device p line x zs c d e none, ap (λ t. run t zs) s, rw (ends_none x) (ap (λ t. out t zs) s ∙ none))

pub whole_now : (p : State) (line : ℕ) (x : Word) (zs : List Word) (o : Option Declaration) (k : Bool) → is_device p ≡ k → (step p x).done ≡ o → settles o (step p x).state ⊎ (k ≡ true) → out (step p x).state zs ≡ [] → Whole p line (x ∷ zs)
whole_now p line x zs None k d e h none = now_none p line x zs e none
whole_now p line x zs (Some c) k d e (inl h) none = now_settled p line x zs c e h none
whole_now p line x zs (Some c) k d e (inr h) none = device_now p line x zs c (d ∙ h) e none

pub settled_or : (p : State) (x : Word) (k : Bool) → is_device p ≡ k → settles (step p x).done (step p x).state ⊎ (k ≡ true)
settled_or p x true d = inr refl
settled_or p x false d = inl (settled_at p x d)

pub whole : (p : State) (line : ℕ) (zs : List Word) → Whole p line zs
whole p line [] = inl refl
whole p line (x ∷ zs) = elim (whole (step p x).state x.line zs) [
  | inl e ↦ whole_now p line x zs (step p x).done (is_device p) refl refl (settled_or p x (is_device p) refl) e
  | inr h ↦ whole_later p line x zs h
]
