-- What is read without a fault is of the form.
use Rattle.std.proofs.Common.{ℤ, ◌≡◌, ℕ, ◌⊎◌, inl, inr, List, [], ◌∷◌, ◌++◌, map, Option, Some, None, Bool, true, false, refl, append_assoc, codes, if◌then◌else◌}
use Rattle.std.specs.List.{flat_map}
use Rattle.std.specs.Prelude.{option_map}
use Rattle.std.proofs.lemmas.List.{append-nil}
use Rattle.std.proofs.lemmas.Slice.Eq.{bytes_eq-Decides}
use Rattle.crush_map.specs.crush_types.specs.declared.Kind.{Kind}
use Rattle.crush_map.specs.WeightText.{weight_of}
use Rattle.crush_grammar.specs.Words.{Word}
use Rattle.crush_grammar.specs.Numbers.{number_of, integer_of}
use Rattle.crush_grammar.specs.Sayings.{name_of, type_of, tunable_of, alg_of, hash_of, rule_id_of, erasure_of, firstn_of, setting_of}
use Rattle.crush_grammar.specs.Syntax.{Keyword, Saying, Algorithm, Name, optional, Class, clause_words, Early, early_words, early_declares, class_id_words, Hash, Weight, Pos, Item, item_words, item_declares, Bucket, Action, action_words, action_declares, Step, step_words, Rule, Late, late_words, late_declares, Declares}
use Rattle.crush_grammar.specs.Syntax.Early.{ATunable, ADevice, AType}
use Rattle.crush_grammar.specs.Syntax.Late.{ABucket, ARule}
use Rattle.crush_grammar.specs.Syntax.Action.{ATake, ASet, AChoose, AChooseLeaf, AnEmit}
use Rattle.crush_grammar.proofs.IsRead.{bucket_tail, rule_tail}
use Rattle.crush_grammar.specs.Fronts.{is}
use Rattle.crush_grammar.specs.Automaton.{State, Move, Reading, reading, step, text, give, with_item, with_step, named, to, wrong, on, first, begun_bucket, begun, in_lines, plain, in_items, in_pos, in_steps, at_step, at_max, action, at_end, tunable_at, device_at, type_at}
use Rattle.crush_grammar.specs.Automaton.State.{Between, TunableWord, TunableKey, DeviceWord, DeviceNumber, DeviceName, ClassWord, TypeWord, TypeNumber, BucketType, BucketName, IdLines, IdWord, IdNumber, IdClass, AlgWord, Hashes, HashWord, Items, ItemWord, ItemName, WeightWord, ItemWeight, PosWord, RuleWord, RuleName, RuleOpen, RuleId, RuleNumber, RuleType, RuleKind, MinWord, RuleMin, MaxWord, RuleMax, StepWord, TakeWord, Taken, SetWord, ChooseWord, ChooseHow, ChooseNumber, ChooseType, Steps, Dead}
use Rattle.crush_grammar.specs.declared.code.TextCode.{TextCode}
use Rattle.crush_grammar.specs.declared.code.TextCode.TheVariants.{X1, X3}
use Rattle.crush_grammar.specs.declared.declaration.Place.{Place}
use Rattle.crush_grammar.specs.declared.declaration.DeclaredItem.{DeclaredItem}
use Rattle.crush_grammar.specs.declared.declaration.BucketHead.{BucketHead}
use Rattle.crush_grammar.specs.declared.declaration.DeclaredBucket.{DeclaredBucket}
use Rattle.crush_grammar.specs.declared.declaration.DeclaredStep.{DeclaredStep}
use Rattle.crush_grammar.specs.declared.declaration.DeclaredRule.{DeclaredRule}
use Rattle.crush_grammar.specs.declared.declaration.Declaration.{Declaration}
use Rattle.crush_grammar.specs.declared.declaration.DeclaredStep.TheVariants as steps
use Rattle.crush_grammar.specs.declared.declaration.Declaration.TheVariants as declarations

-- one more word, and then the rest
abbrev Next : {X : Type 0} → (X → Word) → (X → List Word → Type 0) → List Word → Type 0
Next {X = X} word rest ws = (x : X) × (us : List Word) × (ws ≡ word x ∷ us) × rest x us

abbrev Keyed : (text : List ℕ) → (List Word → Type 0) → List Word → Type 0
Keyed text rest ws = Next (λ (k : Keyword text). k.word) (λ k us. rest us) ws

abbrev Said : {V : Type 0} → (List ℕ → Option V) → (Word → V → List Word → Type 0) → List Word → Type 0
Said read rest ws = Next (λ (x : Saying read). x.word) (λ x us. rest x.word x.value us) ws

-- words that may stand there or not, and then the rest
abbrev Maybe : {X : Type 0} → (X → List Word) → (Option X → List Word → Type 0) → List Word → Type 0
Maybe {X = X} words rest ws = (x : Option X) × (us : List Word) × (ws ≡ optional words x ++ us) × rest x us

abbrev Many : {X : Type 0} → (X → List Word) → (List X → List Word → Type 0) → List Word → Type 0
Many {X = X} words rest ws = (xs : List X) × (us : List Word) × (ws ≡ flat_map words xs ++ us) × rest xs us

abbrev weight_in : DeclaredItem → Option Weight → DeclaredItem
weight_in e None = e
weight_in e (Some w) = record e { weight = Some w.value.value }

abbrev placed : Word → ℕ → Place
placed w n = record { line = w.line; number = n }

abbrev pos_in : DeclaredItem → Option Pos → DeclaredItem
pos_in e None = e
pos_in e (Some p) = record e { place = Some (placed p.value.word p.value.value) }

abbrev AreLate : List Word → List Declaration → Type 0
AreLate ws ds = (ss : List Late) × (ws ≡ flat_map late_words ss) × (ds ≡ map late_declares ss)

abbrev From : Bool → List Word → List Declaration → Type 0
From true ws ds = Declares ws ds
From false ws ds = AreLate ws ds

abbrev Onward : Bool → Declaration → List Word → List Declaration → Type 0
Onward early d ws ds = (es : List Declaration) × From early ws es × (ds ≡ d ∷ es)

abbrev AfterName : ℕ → ℕ → List ℕ → List Declaration → List Word → Type 0
AfterName l n x ds ws = Maybe {X = Class} clause_words (λ c us. Onward true (device_at l n x) us ds) ws

abbrev AfterItems : DeclaredBucket → List Declaration → List Word → Type 0
AfterItems b ds ws = Many item_words (λ is us. Keyed (codes "}") (λ vs. Onward false (declarations.Bucket (record b { items = b.items ++ map item_declares is })) vs ds) us) ws

abbrev AfterWeight : DeclaredBucket → DeclaredItem → List Declaration → List Word → Type 0
AfterWeight b e ds ws = Maybe {X = Pos} clause_words (λ p us. AfterItems (with_item b (pos_in e p)) ds us) ws

abbrev AfterItem : DeclaredBucket → DeclaredItem → List Declaration → List Word → Type 0
AfterItem b e ds ws = Maybe {X = Weight} clause_words (λ w us. AfterWeight b (weight_in e w) ds us) ws

abbrev AfterHashes : DeclaredBucket → List Declaration → List Word → Type 0
AfterHashes b ds ws = Many {X = Hash} clause_words (λ hs us. AfterItems b ds us) ws

abbrev AfterAlg : BucketHead → ℤ → List Declaration → List Word → Type 0
AfterAlg h i ds ws = Next (λ (a : Algorithm). a.word) (λ a us. AfterHashes (record { head = h; id = i; alg = a.value; items = [] }) ds us) ws

abbrev AfterIds : BucketHead → ℤ → List Declaration → List Word → Type 0
AfterIds h i ds ws = Many class_id_words (λ cs us. Keyed (codes "alg") (λ vs. AfterAlg h i ds vs) us) ws

abbrev AfterLines : BucketHead → Option ℤ → List Declaration → List Word → Type 0
AfterLines h (Some i) ds ws = AfterIds h i ds ws
AfterLines h None ds ws = Many class_id_words (λ cs us. Keyed (codes "id") (λ vs. Said integer_of (λ w i zs. AfterIds h i ds zs) vs) us) ws

abbrev AfterPlain : BucketHead → Option ℤ → ℤ → List Declaration → List Word → Type 0
AfterPlain h None i ds ws = AfterIds h i ds ws
AfterPlain h (Some j) i ds ws = ⊥

abbrev AfterIdNumber : BucketHead → Option ℤ → ℤ → List Declaration → List Word → Type 0
AfterIdNumber h o i ds ws = ((c : Class) × (us : List Word) × (ws ≡ clause_words c ++ us) × AfterLines h o ds us) ⊎ AfterPlain h o i ds ws

abbrev acts : List Step → List DeclaredStep
acts ls = map (λ l. action_declares l.action) ls

abbrev AfterSteps : DeclaredRule → List Declaration → List Word → Type 0
AfterSteps r ds ws = Many step_words (λ ls us. Keyed (codes "}") (λ vs. Onward false (declarations.Rule (record r { steps = r.steps ++ acts ls })) vs ds) us) ws

abbrev AfterStep : DeclaredRule → List Declaration → List Word → Type 0
AfterStep r ds ws = (s : Action) × (us : List Word) × (ws ≡ action_words s ++ us) × AfterSteps (with_step r (action_declares s)) ds us

abbrev AfterMax : DeclaredRule → List Declaration → List Word → Type 0
AfterMax r ds ws = Keyed (codes "step") (λ us. AfterStep r ds us) ws

abbrev AfterMin : DeclaredRule → List Declaration → List Word → Type 0
AfterMin r ds ws = Maybe (clause_words {text = codes "max_size"} {read = number_of}) (λ m us. AfterMax r ds us) ws

abbrev AfterKind : DeclaredRule → List Declaration → List Word → Type 0
AfterKind r ds ws = Maybe (clause_words {text = codes "min_size"} {read = number_of}) (λ m us. AfterMin r ds us) ws

abbrev AfterChoose : DeclaredRule → Bool → Bool → ℤ → List Declaration → List Word → Type 0
AfterChoose r leaf h n ds ws = Keyed (codes "type") (λ us. Said name_of (λ w x vs. AfterSteps (with_step r (steps.Choose h leaf n x)) ds vs) us) ws

-- the words that may follow a state, and the declarations that are whole with them
abbrev After : State → List Declaration → List Word → Type 0
After (Between early) ds ws = From early ws ds
After (TunableWord l) ds ws = Said tunable_of (λ w t us. Said number_of (λ v n vs. Onward true (tunable_at l t n) vs ds) us) ws
After (TunableKey l t) ds ws = Said number_of (λ v n vs. Onward true (tunable_at l t n) vs ds) ws
After (DeviceWord l) ds ws = Said number_of (λ v n us. Said name_of (λ w x vs. AfterName l n x ds vs) us) ws
After (DeviceNumber l n) ds ws = Said name_of (λ w x vs. AfterName l n x ds vs) ws
After (DeviceName l n x) ds ws = AfterName l n x ds ws
After (ClassWord l n x) ds ws = Said name_of (λ w c us. Onward true (device_at l n x) us ds) ws
After (TypeWord l) ds ws = Said number_of (λ v n us. Said name_of (λ w x vs. Onward true (type_at l n x) vs ds) us) ws
After (TypeNumber l n) ds ws = Said name_of (λ w x vs. Onward true (type_at l n x) vs ds) ws
After (BucketType l t) ds ws = Said name_of (λ w x us. Keyed (codes "{") (λ vs. AfterLines (record { line = l; type_name = t; name = x }) None ds vs) us) ws
After (BucketName h) ds ws = Keyed (codes "{") (λ vs. AfterLines h None ds vs) ws
After (IdLines h o) ds ws = AfterLines h o ds ws
After (IdWord h o) ds ws = Said integer_of (λ w i us. AfterIdNumber h o i ds us) ws
After (IdNumber h o i) ds ws = AfterIdNumber h o i ds ws
After (IdClass h o) ds ws = Said name_of (λ w x us. AfterLines h o ds us) ws
After (AlgWord h i) ds ws = AfterAlg h i ds ws
After (Hashes b) ds ws = AfterHashes b ds ws
After (HashWord b) ds ws = Said hash_of (λ w v us. AfterHashes b ds us) ws
After (Items b) ds ws = AfterItems b ds ws
After (ItemWord b) ds ws = Said name_of (λ w x us. AfterItem b (named x) ds us) ws
After (ItemName b e) ds ws = AfterItem b e ds ws
After (WeightWord b e) ds ws = Said weight_of (λ w n us. AfterWeight b (record e { weight = Some n }) ds us) ws
After (ItemWeight b e) ds ws = AfterWeight b e ds ws
After (PosWord b e) ds ws = Said number_of (λ w n us. AfterItems (with_item b (record e { place = Some (placed w n) })) ds us) ws
After (RuleWord l) ds ws = Said name_of (λ w x us. Keyed (codes "{") (λ vs. Said rule_id_of (λ v u zs. Said number_of (λ y n qs. Keyed (codes "type") (λ ps. Said erasure_of (λ z k os. AfterKind (record { line = l; name = x; id = n; erasure = k; steps = [] }) ds os) ps) qs) zs) vs) us) ws
After (RuleName l x) ds ws = Keyed (codes "{") (λ vs. Said rule_id_of (λ v u zs. Said number_of (λ y n qs. Keyed (codes "type") (λ ps. Said erasure_of (λ z k os. AfterKind (record { line = l; name = x; id = n; erasure = k; steps = [] }) ds os) ps) qs) zs) vs) ws
After (RuleOpen l x) ds ws = Said rule_id_of (λ v u zs. Said number_of (λ y n qs. Keyed (codes "type") (λ ps. Said erasure_of (λ z k os. AfterKind (record { line = l; name = x; id = n; erasure = k; steps = [] }) ds os) ps) qs) zs) ws
After (RuleId l x) ds ws = Said number_of (λ y n qs. Keyed (codes "type") (λ ps. Said erasure_of (λ z k os. AfterKind (record { line = l; name = x; id = n; erasure = k; steps = [] }) ds os) ps) qs) ws
After (RuleNumber l x n) ds ws = Keyed (codes "type") (λ ps. Said erasure_of (λ z k os. AfterKind (record { line = l; name = x; id = n; erasure = k; steps = [] }) ds os) ps) ws
After (RuleType l x n) ds ws = Said erasure_of (λ z k os. AfterKind (record { line = l; name = x; id = n; erasure = k; steps = [] }) ds os) ws
After (RuleKind r) ds ws = AfterKind r ds ws
After (MinWord r) ds ws = Said number_of (λ w n us. AfterMin r ds us) ws
After (RuleMin r) ds ws = AfterMin r ds ws
After (MaxWord r) ds ws = Said number_of (λ w n us. AfterMax r ds us) ws
After (RuleMax r) ds ws = AfterMax r ds ws
After (StepWord r) ds ws = AfterStep r ds ws
After (TakeWord r) ds ws = Said name_of (λ w x us. AfterSteps (with_step r (steps.Take x)) ds us) ws
After (Taken r) ds ws = AfterSteps r ds ws
After (SetWord r s) ds ws = Said number_of (λ w n us. AfterSteps (with_step r (steps.Set s n)) ds us) ws
After (ChooseWord r leaf) ds ws = Said firstn_of (λ w h us. Said integer_of (λ v n vs. AfterChoose r leaf h n ds vs) us) ws
After (ChooseHow r leaf h) ds ws = Said integer_of (λ v n vs. AfterChoose r leaf h n ds vs) ws
After (ChooseNumber r leaf h n) ds ws = AfterChoose r leaf h n ds ws
After (ChooseType r leaf h n) ds ws = Said name_of (λ w x vs. AfterSteps (with_step r (steps.Choose h leaf n x)) ds vs) ws
After (Steps r) ds ws = AfterSteps r ds ws
After (Dead f) ds ws = ⊥

-- a step takes what may follow the next state to what may follow the state before it
abbrev Joins : State → Word → Move → Type 0
Joins p w s = (ws : List Word) (r : Reading) → After s.state r.decls ws → After p (give s.done r).decls (w ∷ ws)

two : (p : State) (w : Word) (k : Bool) (s t : Move) → (k ≡ true → Joins p w s) → (k ≡ false → Joins p w t) → Joins p w (if k then s else t)
two p w true s t one other = one refl
two p w false s t one other = other refl

bad : (p : State) (w : Word) (c : TextCode) → Joins p w (to (wrong c w))
bad p w c ws r h = absurd h

value : {V : Type 0} (p : State) (w : Word) (c : TextCode) (read : List ℕ → Option V) (next : V → Move) (o : Option V) → read w.text ≡ o → ((x : Saying read) → x.word ≡ w → Joins p w (next x.value)) → Joins p w (on c w o next)
value p w c read next (Some n) e more = more (record { word = w; value = n; is = e }) refl
value p w c read next None e more = λ ws r h. absurd h

algorithm : (p : State) (w : Word) (c : TextCode) (next : Kind → Move) (o : Option Kind) → alg_of w ≡ o → ((x : Algorithm) → x.word ≡ w → Joins p w (next x.value)) → Joins p w (on c w o next)
algorithm p w c next (Some k) e more = more (record { word = w; value = k; is = e }) refl
algorithm p w c next None e more = λ ws r h. absurd h

is_text : (text : List ℕ) (w : Word) → is text w ≡ true → w.text ≡ text
is_text text w e = (bytes_eq-Decides w.text text).0 e

abbrev is_key : (text : List ℕ) (w : Word) → is text w ≡ true → Keyword text
is_key text w e = record { word = w; is = is_text text w e }

-- a fixed word
fixed : (p : State) (text : List ℕ) (w : Word) (s : Move) → ((k : Keyword text) → k.word ≡ w → Joins p w s) → Joins p w (if is text w then s else to (wrong X1 w))
fixed p text w s h = two p w (is text w) s (to (wrong X1 w)) (λ e. h (is_key text w e) refl) (λ e. bad p w X1)

entry_by : (x : Name) (w : Option Weight) (p : Option Pos) → pos_in (weight_in (named x.value) w) p ≡ record { name = x.value; weight = option_map (λ w. w.value.value) w; place = option_map (λ p. placed p.value.word p.value.value) p }
entry_by x None None = refl
entry_by x None (Some p) = refl
entry_by x (Some w) None = refl
entry_by x (Some w) (Some p) = refl

entry_is : (i : Item) → pos_in (weight_in (named i.name.value) i.weight) i.pos ≡ item_declares i
entry_is i = entry_by i.name i.weight i.pos

more_items : (b : DeclaredBucket) (w : Word) → is (codes "item") w ≡ true → Joins (Items b) w (to (ItemWord b))
more_items b w e ws r (x, v1, a1, (wt, v2, a2, (p, v3, a3, (is, v4, a4, (k, v5, a5, (es, h, g)))))) =
    let i : Item = record { item = is_key (codes "item") w e; name = x; weight = wt; pos = p } in
    let same = entry_is i in
    let s1 = append_assoc (optional clause_words wt) (optional clause_words p) (flat_map item_words is ++ v4) in
    let s2 = append_assoc (optional clause_words wt ++ optional clause_words p) (flat_map item_words is) v4 in
    let s3 = append_assoc b.items (item_declares i ∷ []) (map item_declares is) in
    (i ∷ is, v4, cc, (k, v5, a5, (es, h, rw (same, s3) at g)))

last_item : (b : DeclaredBucket) (w : Word) → is (codes "}") w ≡ true → Joins (Items b) w (record { done = Some (declarations.Bucket b); state = Between false })
last_item b w e ws r h = ([], w ∷ ws, refl, (is_key (codes "}") w e, ws, refl, (r.decls, h, rw (append-nil b.items) refl)))

in_items_join : (b : DeclaredBucket) (w : Word) → Joins (Items b) w (in_items b w)
in_items_join b w = two (Items b) w (is (codes "item") w) _ _ (more_items b w) (λ e. two (Items b) w (is (codes "}") w) _ _ (last_item b w) (λ f. bad (Items b) w X1))

in_pos_join : (b : DeclaredBucket) (e : DeclaredItem) (w : Word) → Joins (ItemWeight b e) w (in_pos b e w)
in_pos_join b e w = two (ItemWeight b e) w (is (codes "pos") w) _ _
    (λ k ws r (n, us, a, h). (Some (record { key = is_key (codes "pos") w k; value = n }), us, cc, h))
    (λ k ws r h. (None, w ∷ ws, refl, in_items_join (with_item b e) w ws r h))

early_whole : (f : Early) (ws us : List Word) (ds es : List Declaration) → ws ≡ early_words f ++ us → Declares us es → ds ≡ early_declares f ∷ es → Declares ws ds
early_whole f ws us ds es a (t, b, c) d =
    let split = append_assoc (early_words f) (flat_map early_words t.early) (flat_map late_words t.late) in
    (record { early = f ∷ t.early; late = t.late }, cc, cc)

late_whole : (s : Late) (ws us : List Word) (ds es : List Declaration) → ws ≡ late_words s ++ us → AreLate us es → ds ≡ late_declares s ∷ es → AreLate ws ds
late_whole s ws us ds es a (ss, b, c) d = (s ∷ ss, cc, cc)

tunable_whole : (w : Word) (ws : List Word) (ds : List Declaration) → is (codes "tunable") w ≡ true → After (TunableWord w.line) ds ws → Declares (w ∷ ws) ds
tunable_whole w ws ds e (t, v1, a1, (n, v2, a2, (es, h, g))) =
    early_whole (ATunable (record { tunable = is_key (codes "tunable") w e; name = t; value = n })) (w ∷ ws) v2 ds es (cc) h g

device_whole : (w : Word) (ws : List Word) (ds : List Declaration) → is (codes "device") w ≡ true → After (DeviceWord w.line) ds ws → Declares (w ∷ ws) ds
device_whole w ws ds e (n, v1, a1, (x, v2, a2, (c, v3, a3, (es, h, g)))) =
    early_whole (ADevice (record { device = is_key (codes "device") w e; id = n; name = x; class = c })) (w ∷ ws) v3 ds es (cc) h g

type_whole : (w : Word) (ws : List Word) (ds : List Declaration) → is (codes "type") w ≡ true → After (TypeWord w.line) ds ws → Declares (w ∷ ws) ds
type_whole w ws ds e (n, v1, a1, (x, v2, a2, (es, h, g))) =
    early_whole (AType (record { type = is_key (codes "type") w e; number = n; name = x })) (w ∷ ws) v2 ds es (cc) h g

rule_whole : (w : Word) (ws : List Word) (ds : List Declaration) → is (codes "rule") w ≡ true → After (RuleWord w.line) ds ws → AreLate (w ∷ ws) ds
rule_whole w ws ds e (x, v1, a1, (o, v2, a2, (u, v3, a3, (n, v4, a4, (t, v5, a5, (k, v6, a6, (mi, v7, a7, (ma, v8, a8, (st, v9, a9, (s, v10, a10, (ls, v11, a11, (cl, v12, a12, (es, h, g))))))))))))) =
    let rule : Rule = record { rule = is_key (codes "rule") w e; name = x; opening = o; id = u; number = n; type = t; erasure = k; min_size = mi; max_size = ma; first = record { step = st; action = s }; others = ls; closing = cl } in
    let tail = rule_tail rule v12 in
    late_whole (ARule rule) (w ∷ ws) v12 ds es (cc) h g

bucket_whole : (w : Word) (t : Saying type_of) (ws : List Word) (ds : List Declaration) → t.word ≡ w → After (BucketType w.line t.value) ds ws → AreLate (w ∷ ws) ds
bucket_whole w t ws ds e (x, v1, a1, (o, v2, a2, (bs, v3, a3, (k, v4, a4, (i, v5, a5, (after, v6, a6, (al, v7, a7, (ag, v8, a8, (hs, v9, a9, (is, v10, a10, (cl, v11, a11, (es, h, g)))))))))))) =
    let b : Bucket = record { type_name = t; name = x; opening = o; before = bs; id = k; number = i; after = after; alg = al; algorithm = ag; hashes = hs; items = is; closing = cl } in
    let tail = bucket_tail b v11 in
    late_whole (ABucket b) (w ∷ ws) v11 ds es (cc) h (rw (← e) at g)

any_late : (early : Bool) (ws : List Word) (ds : List Declaration) → AreLate ws ds → From early ws ds
any_late true ws ds (ss, a, b) = (record { early = []; late = ss }, a, b)
any_late false ws ds h = h

begins_bucket : (early : Bool) (w : Word) (ws : List Word) (ds : List Declaration) (o : Option (List ℕ)) → type_of w.text ≡ o → After (begun_bucket w o) ds ws → From early (w ∷ ws) ds
begins_bucket early w ws ds (Some t) e h = any_late early (w ∷ ws) ds (bucket_whole w (record { word = w; value = t; is = e }) ws ds refl h)
begins_bucket early w ws ds None e h = absurd h

split : (early : Bool) (w : Word) (ws : List Word) (ds : List Declaration) (k : Bool) (s t : State) → (k ≡ true → After s ds ws → From early (w ∷ ws) ds) → (k ≡ false → After t ds ws → From early (w ∷ ws) ds) → After (if k then s else t) ds ws → From early (w ∷ ws) ds
split early w ws ds true s t one other h = one refl h
split early w ws ds false s t one other h = other refl h

early_only : (early : Bool) (w : Word) (ws : List Word) (ds : List Declaration) (s : State) → (After s ds ws → Declares (w ∷ ws) ds) → After (first early w s) ds ws → From early (w ∷ ws) ds
early_only true w ws ds s f h = f h
early_only false w ws ds s f h = absurd h

begins : (early : Bool) (w : Word) (ws : List Word) (ds : List Declaration) → After (begun early w) ds ws → From early (w ∷ ws) ds
begins early w ws ds h =
    split early w ws ds (is (codes "tunable") w) _ _ (λ e. early_only early w ws ds _ (tunable_whole w ws ds e)) (λ e1.
    split early w ws ds (is (codes "device") w) _ _ (λ e. early_only early w ws ds _ (device_whole w ws ds e)) (λ e2.
    split early w ws ds (is (codes "type") w) _ _ (λ e. early_only early w ws ds _ (type_whole w ws ds e)) (λ e3.
    split early w ws ds (is (codes "rule") w) _ _ (λ e g. any_late early (w ∷ ws) ds (rule_whole w ws ds e g)) (λ e4 g. begins_bucket early w ws ds (type_of w.text) refl g)))) h

id_first : (h : BucketHead) (k : Keyword (codes "id")) (w : Word) (ws : List Word) (ds : List Declaration) → k.word ≡ w → After (IdWord h None) ds ws → AfterLines h None ds (w ∷ ws)
id_first h k w ws ds e (n, v1, a1, inl (c, v2, a2, (cs, v3, a3, g))) = (record { id = k; number = n; class = c } ∷ cs, v3, cc, g)
id_first h k w ws ds e (n, v1, a1, inr g) = ([], w ∷ ws, refl, (k, ws, cc, (n, v1, a1, g)))

id_later : (h : BucketHead) (i : ℤ) (k : Keyword (codes "id")) (w : Word) (ws : List Word) (ds : List Declaration) → k.word ≡ w → After (IdWord h (Some i)) ds ws → AfterIds h i ds (w ∷ ws)
id_later h i k w ws ds e (n, v1, a1, inl (c, v2, a2, (cs, v3, a3, g))) = (record { id = k; number = n; class = c } ∷ cs, v3, cc, g)
id_later h i k w ws ds e (n, v1, a1, inr g) = absurd g

in_lines_join : (h : BucketHead) (o : Option ℤ) (w : Word) → Joins (IdLines h o) w (in_lines h o w)
in_lines_join h None w = fixed (IdLines h None) (codes "id") w _ (λ k e ws r a. id_first h k w ws r.decls e a)
in_lines_join h (Some i) w = two (IdLines h (Some i)) w (is (codes "id") w) _ _ (λ e ws r a. id_later h i (is_key (codes "id") w e) w ws r.decls refl a)
    (λ e. fixed (IdLines h (Some i)) (codes "alg") w _ (λ k f ws r a. ([], w ∷ ws, refl, (k, ws, cc, a))))

plain_join : (h : BucketHead) (o : Option ℤ) (i : ℤ) (w : Word) (ws : List Word) (r : Reading) → After (plain h o i w).state r.decls ws → AfterPlain h o i (give (plain h o i w).done r).decls (w ∷ ws)
plain_join h None i w ws r a = in_lines_join h (Some i) w ws r a
plain_join h (Some j) i w ws r a = absurd a

more_steps : (x : DeclaredRule) (w : Word) → is (codes "step") w ≡ true → Joins (Steps x) w (to (StepWord x))
more_steps x w e ws r (s, us, a, (ls, vs, b, (k, zs, c, (es, h, g)))) =
    let split1 = append_assoc (action_words s) (flat_map step_words ls) vs in
    (record { step = is_key (codes "step") w e; action = s } ∷ ls, vs, cc, (k, zs, c, (es, h, rw (append_assoc x.steps (action_declares s ∷ []) (acts ls)) at g)))

last_step : (x : DeclaredRule) (w : Word) → is (codes "}") w ≡ true → Joins (Steps x) w (record { done = Some (declarations.Rule x); state = Between false })
last_step x w e ws r h = ([], w ∷ ws, refl, (is_key (codes "}") w e, ws, refl, (r.decls, h, rw (append-nil x.steps) refl)))

in_steps_join : (x : DeclaredRule) (w : Word) → Joins (Steps x) w (in_steps x w)
in_steps_join x w = two (Steps x) w (is (codes "step") w) _ _ (more_steps x w) (λ e. two (Steps x) w (is (codes "}") w) _ _ (last_step x w) (λ f. bad (Steps x) w X1))

at_step_join : (x : DeclaredRule) (w : Word) → Joins (RuleMax x) w (at_step x w)
at_step_join x w = fixed (RuleMax x) (codes "step") w _ (λ k e ws r h. (k, ws, cc, h))

at_max_join : (x : DeclaredRule) (w : Word) → Joins (RuleMin x) w (at_max x w)
at_max_join x w = two (RuleMin x) w (is (codes "max_size") w) _ _
    (λ k ws r (n, us, a, h). (Some (record { key = is_key (codes "max_size") w k; value = n }), us, cc, h))
    (λ k ws r h. (None, w ∷ ws, refl, at_step_join x w ws r h))

action_join : (x : DeclaredRule) (w : Word) → Joins (StepWord x) w (action x w)
action_join y w =
    two (StepWord y) w (is (codes "take") w) _ _ (λ e ws r (x, us, a, g). (ATake (record { key = is_key (codes "take") w e; value = x }), us, cc, g)) (λ e1.
    two (StepWord y) w (is (codes "emit") w) _ _ (λ e ws r g. (AnEmit (is_key (codes "emit") w e), ws, refl, g)) (λ e2.
    two (StepWord y) w (is (codes "choose") w) _ _ (λ e ws r (h, v1, a1, (n, v2, a2, (k, v3, a3, (x, v4, a4, g)))).
    (AChoose (record { choose = is_key (codes "choose") w e; firstn = h; number = n; type = k; type_name = x }), v4, cc, g)) (λ e3.
    two (StepWord y) w (is (codes "chooseleaf") w) _ _ (λ e ws r (h, v1, a1, (n, v2, a2, (k, v3, a3, (x, v4, a4, g)))).
    (AChooseLeaf (record { choose = is_key (codes "chooseleaf") w e; firstn = h; number = n; type = k; type_name = x }), v4, cc, g)) (λ e4.
    value (StepWord y) w X1 setting_of _ (setting_of w.text) refl (λ s e ws r (n, us, a, g). (ASet (record { setting = s; value = n }), us, cc, g))))))

join : (p : State) (w : Word) → Joins p w (step p w)
unfolding step
join (Between early) w = λ ws r h. begins early w ws r.decls h
join (TunableWord l) w = value (TunableWord l) w X1 tunable_of _ (tunable_of w.text) refl (λ x e ws r h. (x, ws, cc, h))
join (TunableKey l t) w = value (TunableKey l t) w X1 number_of _ (number_of w.text) refl (λ x e ws r h. (x, ws, cc, (r.decls, h, refl)))
join (DeviceWord l) w = value (DeviceWord l) w X1 number_of _ (number_of w.text) refl (λ x e ws r h. (x, ws, cc, h))
join (DeviceNumber l n) w = value (DeviceNumber l n) w X1 name_of _ (name_of w.text) refl (λ x e ws r h. (x, ws, cc, h))
join (DeviceName l n x) w = two (DeviceName l n x) w (is (codes "class") w) _ _
    (λ e ws r (c, us, a, h). (Some (record { key = is_key (codes "class") w e; value = c }), us, cc, h))
    (λ e ws r h. (None, w ∷ ws, refl, (r.decls, begins true w ws r.decls h, refl)))
join (ClassWord l n x) w = value (ClassWord l n x) w X1 name_of _ (name_of w.text) refl (λ x e ws r h. (x, ws, cc, (r.decls, h, refl)))
join (TypeWord l) w = value (TypeWord l) w X1 number_of _ (number_of w.text) refl (λ x e ws r h. (x, ws, cc, h))
join (TypeNumber l n) w = value (TypeNumber l n) w X1 name_of _ (name_of w.text) refl (λ x e ws r h. (x, ws, cc, (r.decls, h, refl)))
join (BucketType l t) w = value (BucketType l t) w X1 name_of _ (name_of w.text) refl (λ x e ws r h. (x, ws, cc, h))
join (BucketName h) w = fixed (BucketName h) (codes "{") w _ (λ k e ws r a. (k, ws, cc, a))
join (IdLines h o) w = in_lines_join h o w
join (IdWord h o) w = value (IdWord h o) w X1 integer_of _ (integer_of w.text) refl (λ x e ws r a. (x, ws, cc, a))
join (IdNumber h o i) w = two (IdNumber h o i) w (is (codes "class") w) _ _
    (λ e ws r (c, us, a, g). inl (record { key = is_key (codes "class") w e; value = c }, us, cc, g))
    (λ e ws r a. inr (plain_join h o i w ws r a))
join (IdClass h o) w = value (IdClass h o) w X1 name_of _ (name_of w.text) refl (λ x e ws r a. (x, ws, cc, a))
join (AlgWord h i) w = algorithm (AlgWord h i) w _ _ (alg_of w) refl (λ x e ws r a. (x, ws, cc, a))
join (Hashes b) w = two (Hashes b) w (is (codes "hash") w) _ _
    (λ e ws r (v, us, a, (hs, vs, f, g)). (record { key = is_key (codes "hash") w e; value = v } ∷ hs, vs, cc, g))
    (λ e ws r h. ([], w ∷ ws, refl, in_items_join b w ws r h))
join (HashWord b) w = value (HashWord b) w X1 hash_of _ (hash_of w.text) refl (λ x e ws r a. (x, ws, cc, a))
join (Items b) w = in_items_join b w
join (ItemWord b) w = value (ItemWord b) w X1 name_of _ (name_of w.text) refl (λ x e ws r a. (x, ws, cc, a))
join (ItemName b e) w = two (ItemName b e) w (is (codes "weight") w) _ _
    (λ k ws r (n, us, a, h). (Some (record { key = is_key (codes "weight") w k; value = n }), us, cc, h))
    (λ k ws r h. (None, w ∷ ws, refl, in_pos_join b e w ws r h))
join (WeightWord b e) w = value (WeightWord b e) w _ weight_of _ (weight_of w.text) refl (λ x e ws r a. (x, ws, cc, a))
join (ItemWeight b e) w = in_pos_join b e w
join (PosWord b e) w = value (PosWord b e) w X1 number_of _ (number_of w.text) refl (λ x q ws r a. (x, ws, cc, rw q a))
join (RuleWord l) w = value (RuleWord l) w X1 name_of _ (name_of w.text) refl (λ x e ws r a. (x, ws, cc, a))
join (RuleName l x) w = fixed (RuleName l x) (codes "{") w _ (λ k e ws r a. (k, ws, cc, a))
join (RuleOpen l x) w = value (RuleOpen l x) w X1 rule_id_of _ (rule_id_of w.text) refl (λ x e ws r a. (x, ws, cc, a))
join (RuleId l x) w = value (RuleId l x) w X1 number_of _ (number_of w.text) refl (λ x e ws r a. (x, ws, cc, a))
join (RuleNumber l x n) w = fixed (RuleNumber l x n) (codes "type") w _ (λ k e ws r a. (k, ws, cc, a))
join (RuleType l x n) w = value (RuleType l x n) w X1 erasure_of _ (erasure_of w.text) refl (λ x e ws r a. (x, ws, cc, a))
join (RuleKind x) w = two (RuleKind x) w (is (codes "min_size") w) _ _
    (λ k ws r (n, us, a, h). (Some (record { key = is_key (codes "min_size") w k; value = n }), us, cc, h))
    (λ k ws r h. (None, w ∷ ws, refl, at_max_join x w ws r h))
join (MinWord x) w = value (MinWord x) w X1 number_of _ (number_of w.text) refl (λ x e ws r a. (x, ws, cc, a))
join (RuleMin x) w = at_max_join x w
join (MaxWord x) w = value (MaxWord x) w X1 number_of _ (number_of w.text) refl (λ x e ws r a. (x, ws, cc, a))
join (RuleMax x) w = at_step_join x w
join (StepWord x) w = action_join x w
join (TakeWord y) w = value (TakeWord y) w X1 name_of _ (name_of w.text) refl (λ x e ws r a. (x, ws, cc, a))
join (Taken x) w = two (Taken x) w (is (codes "class") w) _ _ (λ e. bad (Taken x) w X3) (λ e ws r h. in_steps_join x w ws r h)
join (SetWord y s) w = value (SetWord y s) w X1 number_of _ (number_of w.text) refl (λ x e ws r a. (x, ws, cc, a))
join (ChooseWord y leaf) w = value (ChooseWord y leaf) w X1 firstn_of _ (firstn_of w.text) refl (λ x e ws r a. (x, ws, cc, a))
join (ChooseHow y leaf h) w = value (ChooseHow y leaf h) w X1 integer_of _ (integer_of w.text) refl (λ x e ws r a. (x, ws, cc, a))
join (ChooseNumber y leaf h n) w = fixed (ChooseNumber y leaf h n) (codes "type") w _ (λ k e ws r a. (k, ws, cc, a))
join (ChooseType y leaf h n) w = value (ChooseType y leaf h n) w X1 name_of _ (name_of w.text) refl (λ x e ws r a. (x, ws, cc, a))
join (Steps x) w = in_steps_join x w
join (Dead f) w = bad (Dead f) w X1

abbrev Ends : State → ℕ → List Word → Type 0
Ends p line ws = (reading p line ws).fault ≡ None

given : (o : Option Declaration) (r : Reading) → (give o r).fault ≡ None → r.fault ≡ None
given None r h = h
given (Some d) r h = h

stop : (p : State) (line : ℕ) → (at_end p line).fault ≡ None → After p (at_end p line).decls []
stop (Between true) line h = (record { early = []; late = [] }, refl, refl)
stop (Between false) line h = ([], refl, refl)
stop (DeviceName l n x) line h = (None, [], refl, ([], (record { early = []; late = [] }, refl, refl), refl))
stop other line h = absurd (cc)

follows : (p : State) (line : ℕ) (ws : List Word) → Ends p line ws → After p (reading p line ws).decls ws
follows p line [] h = stop p line h
follows p line (w ∷ ws) h = join p w ws (reading (step p w).state w.line ws) (follows (step p w).state w.line ws (given (step p w).done (reading (step p w).state w.line ws) h))

pub is_written : (ws : List Word) → (text ws).fault ≡ None → Declares ws (text ws).decls
is_written ws h = follows (Between true) 1 ws h

-- the same where buckets and rules alone may come
pub declares_from : (early : Bool) (line : ℕ) (ws : List Word) → (reading (Between early) line ws).fault ≡ None → Declares ws (reading (Between early) line ws).decls
declares_from true line ws h = follows (Between true) line ws h
declares_from false line ws h = any_late true ws (reading (Between false) line ws).decls (follows (Between false) line ws h)
