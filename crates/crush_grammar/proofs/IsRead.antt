-- What is of the form is read.
use Rattle.std.proofs.Common.{ℤ, ◌≡◌, ◌∙◌, ℕ, List, [], ◌∷◌, ◌++◌, map, Option, Some, None, Bool, true, false, refl, ap, append_assoc, codes, bytes_eq}
use Rattle.std.specs.List.{flat_map}
use Rattle.std.specs.Prelude.{option_map}
use Rattle.std.proofs.lemmas.List.{append-nil}
use Rattle.std.proofs.lemmas.Slice.Eq.{bytes_eq-Decides}
use Rattle.crush_map.specs.crush_types.specs.declared.Weight.{Weight as MapWeight}
use Rattle.crush_grammar.specs.Words.{Word}
use Rattle.crush_grammar.specs.Numbers.{number_of, integer_of}
use Rattle.crush_grammar.specs.Sayings.{type_of, setting_of}
use Rattle.crush_grammar.specs.Syntax.{Keyword, Saying, Algorithm, optional, Class, Clause, clause_words, Early, early_words, early_declares, ClassId, class_id_words, Hash, Weight, Pos, Item, item_words, item_declares, Bucket, bucket_words, Action, action_words, action_declares, Step, step_words, Rule, rule_words, Late, late_words, late_declares, Declares}
use Rattle.crush_grammar.specs.Syntax.Early.{ATunable, ADevice, AType}
use Rattle.crush_grammar.specs.Syntax.Late.{ABucket, ARule}
use Rattle.crush_grammar.specs.Syntax.Action.{ATake, ASet, AChoose, AChooseLeaf, AnEmit}
use Rattle.crush_grammar.specs.Fronts.{is}
use Rattle.crush_grammar.specs.Automaton.{State, Reading, reading, step, text, give, with_item, with_step, named, device_at}
use Rattle.crush_grammar.specs.Automaton.State.{Between, DeviceName, IdLines, IdNumber, Hashes, Items, ItemName, ItemWeight, RuleKind, RuleMin, RuleMax, StepWord, Steps}
use Rattle.crush_grammar.specs.declared.declaration.Place.{Place}
use Rattle.crush_grammar.specs.declared.declaration.DeclaredItem.{DeclaredItem}
use Rattle.crush_grammar.specs.declared.declaration.BucketHead.{BucketHead}
use Rattle.crush_grammar.specs.declared.declaration.DeclaredBucket.{DeclaredBucket}
use Rattle.crush_grammar.specs.declared.declaration.DeclaredStep.{DeclaredStep}
use Rattle.crush_grammar.specs.declared.declaration.DeclaredRule.{DeclaredRule}
use Rattle.crush_grammar.specs.declared.declaration.Declaration.{Declaration}
use Rattle.crush_grammar.specs.declared.declaration.Declaration.TheVariants as declarations

-- whatever the line, this is read from a state on
abbrev Reads : State → List Word → Reading → Type 0
Reads s ws r = (line : ℕ) → reading s line ws ≡ r

-- the first word has not this text
abbrev Lacks : List ℕ → List Word → Type 0
Lacks text [] = Unit {0}
Lacks text (w ∷ ws) = is text w ≡ false

-- a word that says a value is no word that says none
not_by : {V : Type 0} (read : List ℕ → Option V) (text : List ℕ) (w : Word) (v : V) (k : Bool) → is text w ≡ k → read text ≡ None → read w.text ≡ Some v → is text w ≡ false
not_by read text w v true e n s = let same = ap read ((bytes_eq-Decides w.text text).0 e) in absurd (cc)
not_by read text w v false e n s = e

not_key : {V : Type 0} (read : List ℕ → Option V) (text : List ℕ) (w : Word) (v : V) → read text ≡ None → read w.text ≡ Some v → is text w ≡ false
not_key read text w v n s = not_by read text w v (is text w) refl n s

whole_word : (l n : ℕ) (x : List ℕ) (line : ℕ) (w : Word) (ws : List Word) → is (codes "class") w ≡ false → reading (DeviceName l n x) line (w ∷ ws) ≡ give (Some (device_at l n x)) (reading (Between true) line (w ∷ ws))
unfolding step
whole_word l n x line w ws e = rw e refl

device_end : (l n : ℕ) (x : List ℕ) (c : Option Class) (ys : List Word) (r : Reading) → Lacks (codes "class") ys → Reads (Between true) ys r → Reads (DeviceName l n x) (optional clause_words c ++ ys) (give (Some (device_at l n x)) r)
unfolding step
device_end l n x None [] r free h line = ap (give (Some (device_at l n x))) (h line)
device_end l n x None (y ∷ ys) r free h line = whole_word l n x line y ys free ∙ ap (give (Some (device_at l n x))) (h line)
device_end l n x (Some c) ys r free h line = rw (c.key.is, c.value.is) (ap (give (Some (device_at l n x))) (h c.value.word.line))

early_reads : (f : Early) (ys : List Word) (r : Reading) → Lacks (codes "class") ys → Reads (Between true) ys r → Reads (Between true) (early_words f ++ ys) (give (Some (early_declares f)) r)
unfolding step
early_reads (ATunable t) ys r free h line = rw (t.tunable.is, t.name.is, t.value.is) (ap (give (Some (early_declares (ATunable t)))) (h t.value.word.line))
early_reads (ADevice d) ys r free h line = rw (d.device.is, d.id.is, d.name.is) (device_end d.device.word.line d.id.value d.name.value d.class ys r free h d.name.word.line)
early_reads (AType t) ys r free h line = rw (t.type.is, t.number.is, t.name.is) (ap (give (Some (early_declares (AType t)))) (h t.name.word.line))

class_id : (h : BucketHead) (o : Option ℤ) (c : ClassId) (ys : List Word) (r : Reading) → Reads (IdLines h o) ys r → Reads (IdLines h o) (class_id_words c ++ ys) r
unfolding step
class_id h None c ys r k line = rw (c.id.is, c.number.is, c.class.key.is, c.class.value.is) (k c.class.value.word.line)
class_id h (Some i) c ys r k line = rw (c.id.is, c.number.is, c.class.key.is, c.class.value.is) (k c.class.value.word.line)

class_ids : (h : BucketHead) (o : Option ℤ) (cs : List ClassId) (ys : List Word) (r : Reading) → Reads (IdLines h o) ys r → Reads (IdLines h o) (flat_map class_id_words cs ++ ys) r
class_ids h o [] ys r k line = k line
class_ids h o (c ∷ cs) ys r k line = class_id h o c (flat_map class_id_words cs ++ ys) r (class_ids h o cs ys r k) line

plain_end : (h : BucketHead) (i : ℤ) (ys : List Word) (r : Reading) → Lacks (codes "class") ys → Reads (IdLines h (Some i)) ys r → Reads (IdNumber h None i) ys r
unfolding step
plain_end h i [] r free k line = k line
plain_end h i (y ∷ ys) r free k line = rw free (k line)

plain_id : (h : BucketHead) (id : Keyword (codes "id")) (n : Saying integer_of) (ys : List Word) (r : Reading) → Lacks (codes "class") ys → Reads (IdLines h (Some n.value)) ys r → Reads (IdLines h None) (id.word ∷ n.word ∷ ys) r
unfolding step
plain_id h id n ys r free k line = rw (id.is, n.is) (plain_end h n.value ys r free k n.word.line)

ids_lack : (cs : List ClassId) (ys : List Word) → Lacks (codes "class") ys → Lacks (codes "class") (flat_map class_id_words cs ++ ys)
ids_lack [] ys h = h
ids_lack (c ∷ cs) ys h = rw c.id.is refl

alg_reads : (h : BucketHead) (i : ℤ) (k : Keyword (codes "alg")) (a : Algorithm) (ys : List Word) (r : Reading) → Reads (Hashes (record { head = h; id = i; alg = a.value; items = [] })) ys r → Reads (IdLines h (Some i)) (k.word ∷ a.word ∷ ys) r
unfolding step
alg_reads h i k a ys r g line = rw (k.is, a.is) (g a.word.line)

hash_reads : (b : DeclaredBucket) (x : Hash) (ys : List Word) (r : Reading) → Reads (Hashes b) ys r → Reads (Hashes b) (clause_words x ++ ys) r
unfolding step
hash_reads b x ys r h line = rw (x.key.is, x.value.is) (h x.value.word.line)

hash_end : (b : DeclaredBucket) (ys : List Word) (r : Reading) → Lacks (codes "hash") ys → Reads (Items b) ys r → Reads (Hashes b) ys r
unfolding step
hash_end b [] r free h line = h line
hash_end b (y ∷ ys) r free h line = rw free (h line)

hashes_read : (b : DeclaredBucket) (xs : List Hash) (ys : List Word) (r : Reading) → Lacks (codes "hash") ys → Reads (Items b) ys r → Reads (Hashes b) (flat_map clause_words xs ++ ys) r
hashes_read b [] ys r free h line = hash_end b ys r free h line
hashes_read b (x ∷ xs) ys r free h line = hash_reads b x (flat_map clause_words xs ++ ys) r (hashes_read b xs ys r free h) line

abbrev placed : Pos → Place
placed p = record { line = p.value.word.line; number = p.value.value }

pos_reads : (b : DeclaredBucket) (name : List ℕ) (w : Option MapWeight) (p : Option Pos) (ys : List Word) (r : Reading) → Lacks (codes "pos") ys →
    Reads (Items (with_item b (record { name = name; weight = w; place = option_map placed p }))) ys r →
    Reads (ItemWeight b (record { name = name; weight = w; place = None })) (optional clause_words p ++ ys) r
unfolding step
pos_reads b name w None [] r free h line = h line
pos_reads b name w None (y ∷ ys) r free h line = rw free (h line)
pos_reads b name w (Some p) ys r free h line = rw (p.key.is, p.value.is) (h p.value.word.line)

no_weight : (p : Option Pos) (ys : List Word) → Lacks (codes "weight") ys → Lacks (codes "weight") (optional clause_words p ++ ys)
no_weight None ys h = h
no_weight (Some p) ys h = rw p.key.is refl

skip_weight : (b : DeclaredBucket) (e : DeclaredItem) (line : ℕ) (zs : List Word) → Lacks (codes "weight") zs → reading (ItemName b e) line zs ≡ reading (ItemWeight b e) line zs
unfolding step
skip_weight b e line [] h = refl
skip_weight b e line (z ∷ zs) h = rw h refl

weight_reads : (b : DeclaredBucket) (name : List ℕ) (w : Option Weight) (p : Option Pos) (ys : List Word) (r : Reading) → Lacks (codes "weight") ys → Lacks (codes "pos") ys →
    Reads (Items (with_item b (record { name = name; weight = option_map (λ w. w.value.value) w; place = option_map placed p }))) ys r →
    Reads (ItemName b (named name)) ((optional clause_words w ++ optional clause_words p) ++ ys) r
unfolding step
weight_reads b name None p ys r free free2 h line = skip_weight b (named name) line (optional clause_words p ++ ys) (no_weight p ys free) ∙ pos_reads b name None p ys r free2 h line
weight_reads b name (Some w) p ys r free free2 h line = rw (w.key.is, w.value.is) (pos_reads b name (Some w.value.value) p ys r free2 h w.value.word.line)

items_lack : (is : List Item) (text : List ℕ) (ys : List Word) → bytes_eq (codes "item") text ≡ false → Lacks text ys → Lacks text (flat_map item_words is ++ ys)
items_lack [] text ys e h = h
items_lack (i ∷ is) text ys e h = rw i.item.is e

items_read : (is : List Item) (b : DeclaredBucket) (ys : List Word) (r : Reading) → Lacks (codes "weight") ys → Lacks (codes "pos") ys →
    Reads (Items (record b { items = b.items ++ map item_declares is })) ys r → Reads (Items b) (flat_map item_words is ++ ys) r
unfolding step
items_read [] b ys r w p h line = rw (append-nil b.items) at (h line)
items_read (i ∷ is) b ys r w p h line =
    let k : Reads (Items (with_item b (item_declares i))) (flat_map item_words is ++ ys) r =
    items_read is (with_item b (item_declares i)) ys r w p (λ l. rw (append_assoc b.items (item_declares i ∷ []) (map item_declares is)) (h l)) in
    rw (i.item.is, i.name.is, append_assoc (optional clause_words i.weight ++ optional clause_words i.pos) (flat_map item_words is) ys)
    (weight_reads b i.name.value i.weight i.pos (flat_map item_words is ++ ys) r (items_lack is (codes "weight") ys refl w) (items_lack is (codes "pos") ys refl p) k i.name.word.line)

close_reads : (b : DeclaredBucket) (c : Keyword (codes "}")) (ys : List Word) (r : Reading) → Reads (Between false) ys r → Reads (Items b) (c.word ∷ ys) (give (Some (declarations.Bucket b)) r)
unfolding step
close_reads b c ys r h line = rw c.is (ap (give (Some (declarations.Bucket b))) (h c.word.line))

-- the words of a bucket behind its brace, before others
pub bucket_tail : (b : Bucket) (ys : List Word) →
    (flat_map class_id_words b.before ++ (b.id.word ∷ b.number.word ∷ (flat_map class_id_words b.after
    ++ (b.alg.word ∷ b.algorithm.word ∷ (flat_map clause_words b.hashes ++ (flat_map item_words b.items ++ b.closing.word ∷ [])))))) ++ ys ≡
    flat_map class_id_words b.before ++ (b.id.word ∷ b.number.word ∷ (flat_map class_id_words b.after
    ++ (b.alg.word ∷ b.algorithm.word ∷ (flat_map clause_words b.hashes ++ (flat_map item_words b.items ++ (b.closing.word ∷ ys))))))
bucket_tail b ys = simp append_assoc

-- the type of a bucket begins no other declaration
no_other : (t : Saying type_of) → (is (codes "tunable") t.word ≡ false) × (is (codes "device") t.word ≡ false) × (is (codes "type") t.word ≡ false) × (is (codes "rule") t.word ≡ false)
unfolding type_of
no_other t = (
  not_key type_of (codes "tunable") t.word t.value refl t.is,
  not_key type_of (codes "device") t.word t.value refl t.is,
  not_key type_of (codes "type") t.word t.value refl t.is,
  not_key type_of (codes "rule") t.word t.value refl t.is,
)

bucket_reads : (early : Bool) (b : Bucket) (ys : List Word) (r : Reading) → Reads (Between false) ys r → Reads (Between early) (bucket_words b ++ ys) (give (Some (late_declares (ABucket b))) r)
unfolding step
bucket_reads early b ys r h line =
    let t = b.type_name in
    let head : BucketHead = record { line = t.word.line; type_name = t.value; name = b.name.value } in
    let part : DeclaredBucket = record { head = head; id = b.number.value; alg = b.algorithm.value; items = [] } in
    let whole : DeclaredBucket = record part { items = map item_declares b.items } in
    let z6 = b.closing.word ∷ ys in
    let z5 = flat_map item_words b.items ++ z6 in
    let z4 = flat_map clause_words b.hashes ++ z5 in
    let z3 = b.alg.word ∷ b.algorithm.word ∷ z4 in
    let z2 = flat_map class_id_words b.after ++ z3 in
    let all = give (Some (late_declares (ABucket b))) r in
    let h6 : Reads (Items whole) z6 all = close_reads whole b.closing ys r h in
    let h5 : Reads (Items part) z5 all = items_read b.items part z6 all (rw b.closing.is refl) (rw b.closing.is refl) h6 in
    let h4 : Reads (Hashes part) z4 all = hashes_read part b.hashes z5 all (items_lack b.items (codes "hash") z6 refl (rw b.closing.is refl)) h5 in
    let h3 : Reads (IdLines head (Some b.number.value)) z3 all = alg_reads head b.number.value b.alg b.algorithm z4 all h4 in
    let h2 : Reads (IdLines head (Some b.number.value)) z2 all = class_ids head (Some b.number.value) b.after z3 all h3 in
    let h1 : Reads (IdLines head None) (b.id.word ∷ b.number.word ∷ z2) all = plain_id head b.id b.number z2 all (ids_lack b.after z3 (rw b.alg.is refl)) h2 in
    let other = no_other t in
    rw (other.0, other.1, other.2, other.3, t.is, b.name.is, b.opening.is, bucket_tail b ys)
    (class_ids head None b.before (b.id.word ∷ b.number.word ∷ z2) all h1 b.opening.word.line)

what_reads : (s : Action) (p : DeclaredRule) (ys : List Word) (r : Reading) → Lacks (codes "class") ys → Reads (Steps (with_step p (action_declares s))) ys r → Reads (StepWord p) (action_words s ++ ys) r
unfolding step setting_of
what_reads (ATake t) p [] r free h line = rw (t.key.is, t.value.is) (h t.value.word.line)
what_reads (ATake t) p (y ∷ ys) r free h line = rw (t.key.is, t.value.is, free) (h t.value.word.line)
what_reads (ASet s) p ys r free h line =
    let w = s.setting.word in let v = s.setting.value in let e = s.setting.is in
    rw (not_key setting_of (codes "take") w v refl e, not_key setting_of (codes "emit") w v refl e, not_key setting_of (codes "choose") w v refl e, not_key setting_of (codes "chooseleaf") w v refl e, e, s.value.is) (h s.value.word.line)
what_reads (AChoose c) p ys r free h line = rw (c.choose.is, c.firstn.is, c.number.is, c.type.is, c.type_name.is) (h c.type_name.word.line)
what_reads (AChooseLeaf c) p ys r free h line = rw (c.choose.is, c.firstn.is, c.number.is, c.type.is, c.type_name.is) (h c.type_name.word.line)
what_reads (AnEmit e) p ys r free h line = rw e.is (h e.word.line)

line_reads : (l : Step) (p : DeclaredRule) (ys : List Word) (r : Reading) → Lacks (codes "class") ys → Reads (Steps (with_step p (action_declares l.action))) ys r → Reads (Steps p) (step_words l ++ ys) r
unfolding step
line_reads l p ys r free h line = rw l.step.is (what_reads l.action p ys r free h l.step.word.line)

lines_lack : (ls : List Step) (ys : List Word) → Lacks (codes "class") ys → Lacks (codes "class") (flat_map step_words ls ++ ys)
lines_lack [] ys h = h
lines_lack (l ∷ ls) ys h = rw l.step.is refl

abbrev acts : List Step → List DeclaredStep
acts ls = map (λ l. action_declares l.action) ls

lines_read : (ls : List Step) (p : DeclaredRule) (ys : List Word) (r : Reading) → Lacks (codes "class") ys → Reads (Steps (record p { steps = p.steps ++ acts ls })) ys r → Reads (Steps p) (flat_map step_words ls ++ ys) r
lines_read [] p ys r free h line = rw (append-nil p.steps) at (h line)
lines_read (l ∷ ls) p ys r free h line =
    let k : Reads (Steps (with_step p (action_declares l.action))) (flat_map step_words ls ++ ys) r =
    lines_read ls (with_step p (action_declares l.action)) ys r free (λ n. rw (append_assoc p.steps (action_declares l.action ∷ []) (acts ls)) (h n)) in
    rw (append_assoc (action_words l.action) (flat_map step_words ls) ys) (line_reads l p (flat_map step_words ls ++ ys) r (lines_lack ls ys free) k line)

rule_end : (p : DeclaredRule) (c : Keyword (codes "}")) (ys : List Word) (r : Reading) → Reads (Between false) ys r → Reads (Steps p) (c.word ∷ ys) (give (Some (declarations.Rule p)) r)
unfolding step
rule_end p c ys r h line = rw c.is (ap (give (Some (declarations.Rule p))) (h c.word.line))

-- the first step
first_step : (l : Step) (p : DeclaredRule) (ys : List Word) (r : Reading) → Reads (Steps p) (step_words l ++ ys) r → Reads (RuleMax p) (step_words l ++ ys) r
unfolding step
first_step l p ys r h line = rw l.step.is (rw l.step.is at (h line))

max_reads : (m : Option (Clause (codes "max_size") number_of)) (p : DeclaredRule) (ys : List Word) (r : Reading) → Lacks (codes "max_size") ys → Reads (RuleMax p) ys r → Reads (RuleMin p) (optional clause_words m ++ ys) r
unfolding step
max_reads None p [] r free h line = h line
max_reads None p (y ∷ ys) r free h line = rw free (h line)
max_reads (Some m) p ys r free h line = rw (m.key.is, m.value.is) (h m.value.word.line)

min_reads : (m : Option (Clause (codes "min_size") number_of)) (p : DeclaredRule) (ys : List Word) (r : Reading) → Lacks (codes "min_size") ys → Reads (RuleMin p) ys r → Reads (RuleKind p) (optional clause_words m ++ ys) r
unfolding step
min_reads None p [] r free h line = h line
min_reads None p (y ∷ ys) r free h line = rw free (h line)
min_reads (Some m) p ys r free h line = rw (m.key.is, m.value.is) (h m.value.word.line)

no_min : (m : Option (Clause (codes "max_size") number_of)) (ys : List Word) → Lacks (codes "min_size") ys → Lacks (codes "min_size") (optional clause_words m ++ ys)
no_min None ys h = h
no_min (Some m) ys h = rw m.key.is refl

pub rule_tail : (x : Rule) (ys : List Word) →
    (optional clause_words x.min_size ++ (optional clause_words x.max_size ++ (step_words x.first ++ (flat_map step_words x.others ++ x.closing.word ∷ [])))) ++ ys ≡
    optional clause_words x.min_size ++ (optional clause_words x.max_size ++ (step_words x.first ++ (flat_map step_words x.others ++ (x.closing.word ∷ ys))))
rule_tail x ys = simp append_assoc

rule_reads : (early : Bool) (x : Rule) (ys : List Word) (r : Reading) → Reads (Between false) ys r → Reads (Between early) (rule_words x ++ ys) (give (Some (late_declares (ARule x))) r)
unfolding step
rule_reads early x ys r h line =
    let part : DeclaredRule = record { line = x.rule.word.line; name = x.name.value; id = x.number.value; erasure = x.erasure.value; steps = [] } in
    let one : DeclaredRule = record part { steps = action_declares x.first.action ∷ [] } in
    let whole : DeclaredRule = record part { steps = acts (x.first ∷ x.others) } in
    let z4 = x.closing.word ∷ ys in
    let z3 = flat_map step_words x.others ++ z4 in
    let z2 = step_words x.first ++ z3 in
    let z1 = optional clause_words x.max_size ++ z2 in
    let all = give (Some (late_declares (ARule x))) r in
    let free : Lacks (codes "class") z4 = rw x.closing.is refl in
    let h4 : Reads (Steps whole) z4 all = rule_end whole x.closing ys r h in
    let h3 : Reads (Steps one) z3 all = lines_read x.others one z4 all free h4 in
    let h2 : Reads (RuleMax part) z2 all = first_step x.first part z3 all (line_reads x.first part z3 all (lines_lack x.others z4 free) h3) in
    let h1 : Reads (RuleMin part) z1 all = max_reads x.max_size part z2 all (rw x.first.step.is refl) h2 in
    let h0 = min_reads x.min_size part z1 all (no_min x.max_size z2 (rw x.first.step.is refl)) h1 in
    rw (x.rule.is, x.name.is, x.opening.is, x.id.is, x.number.is, x.type.is, x.erasure.is, rule_tail x ys) (h0 x.erasure.word.line)

late_reads : (early : Bool) (s : Late) (ys : List Word) (r : Reading) → Reads (Between false) ys r → Reads (Between early) (late_words s ++ ys) (give (Some (late_declares s)) r)
late_reads early (ABucket b) ys r h line = bucket_reads early b ys r h line
late_reads early (ARule x) ys r h line = rule_reads early x ys r h line

lates_read : (early : Bool) (ss : List Late) → Reads (Between early) (flat_map late_words ss) (record { decls = map late_declares ss; fault = None })
lates_read early [] line = refl
lates_read early (s ∷ ss) line = late_reads early s (flat_map late_words ss) (record { decls = map late_declares ss; fault = None }) (lates_read false ss) line

no_class : (fs : List Early) (ss : List Late) → Lacks (codes "class") (flat_map early_words fs ++ flat_map late_words ss)
unfolding type_of
no_class [] [] = tt
no_class [] (ABucket b ∷ ss) = not_key type_of (codes "class") b.type_name.word b.type_name.value refl b.type_name.is
no_class [] (ARule x ∷ ss) = rw x.rule.is refl
no_class (ATunable t ∷ fs) ss = rw t.tunable.is refl
no_class (ADevice d ∷ fs) ss = rw d.device.is refl
no_class (AType t ∷ fs) ss = rw t.type.is refl

earlies_read : (fs : List Early) (ss : List Late) → Reads (Between true) (flat_map early_words fs ++ flat_map late_words ss) (record { decls = map early_declares fs ++ map late_declares ss; fault = None })
earlies_read [] ss line = lates_read true ss line
earlies_read (f ∷ fs) ss line =
    let e = append_assoc (early_words f) (flat_map early_words fs) (flat_map late_words ss) in
    ap (λ zs. reading (Between true) line zs) e ∙
    early_reads f (flat_map early_words fs ++ flat_map late_words ss) (record { decls = map early_declares fs ++ map late_declares ss; fault = None }) (no_class fs ss) (earlies_read fs ss) line

pub is_read : (ws : List Word) (ds : List Declaration) → Declares ws ds → text ws ≡ record { decls = ds; fault = None }
is_read ws ds h = rw (h.1, h.2) (earlies_read h.0.early h.0.late 1)
