-- Reading a text word by word: a means, by which texts are read in one pass, and no part of what
-- they are.
--
-- The law `words_are_read_as_they_say` joins it to the grammar both ways, so that no reader has to
-- believe it.
use Rattle.std.specs.Prelude.{ℕ, ℤ, ◌||◌, Bool, true, false, List, [], ◌∷◌, ◌++◌, Option, Some, None, if◌then◌else◌, codes}
use Rattle.crush_map.specs.WeightText.{weight_of}
use Rattle.crush_grammar.specs.Words.{Word}
use Rattle.crush_grammar.specs.Numbers.{number_of, integer_of}
use Rattle.crush_grammar.specs.Sayings.{name_of, type_of, tunable_of, alg_of, hash_of, rule_id_of, erasure_of, firstn_of, setting_of}
use Rattle.crush_grammar.specs.Fronts.{is, is_token}
use Rattle.crush_grammar.specs.declared.code.TextCode.{TextCode}
use Rattle.crush_grammar.specs.declared.code.TextCode.TheVariants.{X1, X2, X3, X4, X6}
use Rattle.crush_grammar.specs.declared.code.TextFault.{TextFault}
use Rattle.crush_grammar.specs.declared.declaration.TunableName.{TunableName}
use Rattle.crush_grammar.specs.declared.declaration.Setting.{Setting}
use Rattle.crush_grammar.specs.declared.declaration.BucketHead.{BucketHead}
use Rattle.crush_grammar.specs.declared.declaration.DeclaredItem.{DeclaredItem}
use Rattle.crush_grammar.specs.declared.declaration.DeclaredBucket.{DeclaredBucket}
use Rattle.crush_grammar.specs.declared.declaration.DeclaredStep.{DeclaredStep}
use Rattle.crush_grammar.specs.declared.declaration.DeclaredStep.TheVariants as steps
use Rattle.crush_grammar.specs.declared.declaration.DeclaredRule.{DeclaredRule}
use Rattle.crush_grammar.specs.declared.declaration.Declaration.{Declaration}
use Rattle.crush_grammar.specs.declared.declaration.Declaration.TheVariants as declarations

-- what is read of a text
pub data State : Type 0 where
  Between : Bool → State
  TunableWord : ℕ → State
  TunableKey : ℕ → TunableName → State
  DeviceWord : ℕ → State
  DeviceNumber : ℕ → ℕ → State
  DeviceName : ℕ → ℕ → List ℕ → State
  ClassWord : ℕ → ℕ → List ℕ → State
  TypeWord : ℕ → State
  TypeNumber : ℕ → ℕ → State
  BucketType : ℕ → List ℕ → State
  BucketName : BucketHead → State
  -- whole id lines, and the one id that has no class
  IdLines : BucketHead → Option ℤ → State
  IdWord : BucketHead → Option ℤ → State
  IdNumber : BucketHead → Option ℤ → ℤ → State
  IdClass : BucketHead → Option ℤ → State
  AlgWord : BucketHead → ℤ → State
  Hashes : DeclaredBucket → State
  HashWord : DeclaredBucket → State
  Items : DeclaredBucket → State
  ItemWord : DeclaredBucket → State
  ItemName : DeclaredBucket → DeclaredItem → State
  WeightWord : DeclaredBucket → DeclaredItem → State
  ItemWeight : DeclaredBucket → DeclaredItem → State
  PosWord : DeclaredBucket → DeclaredItem → State
  RuleWord : ℕ → State
  RuleName : ℕ → List ℕ → State
  RuleOpen : ℕ → List ℕ → State
  RuleId : ℕ → List ℕ → State
  RuleNumber : ℕ → List ℕ → ℕ → State
  RuleType : ℕ → List ℕ → ℕ → State
  RuleKind : DeclaredRule → State
  MinWord : DeclaredRule → State
  RuleMin : DeclaredRule → State
  MaxWord : DeclaredRule → State
  RuleMax : DeclaredRule → State
  StepWord : DeclaredRule → State
  TakeWord : DeclaredRule → State
  Taken : DeclaredRule → State
  SetWord : DeclaredRule → Setting → State
  ChooseWord : DeclaredRule → Bool → State
  ChooseHow : DeclaredRule → Bool → Bool → State
  ChooseNumber : DeclaredRule → Bool → Bool → ℤ → State
  ChooseType : DeclaredRule → Bool → Bool → ℤ → State
  Steps : DeclaredRule → State
  Dead : TextFault → State

abbrev pub tunable_at : ℕ → TunableName → ℕ → Declaration
tunable_at l t n = declarations.Tunable (record { line = l; name = t; value = n })

abbrev pub device_at : ℕ → ℕ → List ℕ → Declaration
device_at l n x = declarations.Device (record { line = l; id = n; name = x })

abbrev pub type_at : ℕ → ℕ → List ℕ → Declaration
type_at l n x = declarations.TypeName (record { line = l; number = n; name = x })

abbrev pub wrong : TextCode → Word → State
wrong code w = Dead (record { line = w.line; code = code })

pub record Move : Type 0 where
  pub done : Option Declaration
  pub state : State

abbrev pub to : State → Move
to s = record { done = None; state = s }

-- after a word that says a value
abbrev pub on : {V : Type 0} → TextCode → Word → Option V → (V → Move) → Move
on c w (Some v) next = next v
on c w None next = to (wrong c w)

abbrev pub with_item : DeclaredBucket → DeclaredItem → DeclaredBucket
with_item b e = record b { items = b.items ++ e ∷ [] }

abbrev pub with_step : DeclaredRule → DeclaredStep → DeclaredRule
with_step r s = record r { steps = r.steps ++ s ∷ [] }

abbrev pub named : List ℕ → DeclaredItem
named name = record { name = name; weight = None; place = None }

abbrev pub first : Bool → Word → State → State
first early w s = if early then s else wrong X1 w

abbrev pub begun_bucket : Word → Option (List ℕ) → State
begun_bucket w (Some t) = BucketType w.line t
begun_bucket w None = wrong (if is (codes "choose_args") w then X4 else X1) w

-- a word where a bucket or a rule begins
abbrev pub begun_late : Word → State
begun_late w = if is (codes "rule") w then RuleWord w.line else begun_bucket w (type_of w.text)

-- a word where a declaration begins
abbrev pub begun : Bool → Word → State
begun early w =
    if is (codes "tunable") w then first early w (TunableWord w.line)
    else (if is (codes "device") w then first early w (DeviceWord w.line)
    else (if is (codes "type") w then first early w (TypeWord w.line)
    else begun_late w))

abbrev pub in_lines : BucketHead → Option ℤ → Word → Move
in_lines h (Some i) w = if is (codes "id") w then to (IdWord h (Some i)) else (if is (codes "alg") w then to (AlgWord h i) else to (wrong X1 w))
in_lines h None w = if is (codes "id") w then to (IdWord h None) else to (wrong X1 w)

-- after an id that has no class
abbrev pub plain : BucketHead → Option ℤ → ℤ → Word → Move
plain h None i w = in_lines h (Some i) w
plain h (Some j) i w = to (wrong X1 w)

abbrev pub in_items : DeclaredBucket → Word → Move
in_items b w =
    if is (codes "item") w then to (ItemWord b)
    else (if is (codes "}") w then record { done = Some (declarations.Bucket b); state = Between false } else to (wrong X1 w))

abbrev pub in_pos : DeclaredBucket → DeclaredItem → Word → Move
in_pos b e w = if is (codes "pos") w then to (PosWord b e) else in_items (with_item b e) w

abbrev pub in_steps : DeclaredRule → Word → Move
in_steps r w =
    if is (codes "step") w then to (StepWord r)
    else (if is (codes "}") w then record { done = Some (declarations.Rule r); state = Between false } else to (wrong X1 w))

abbrev pub at_step : DeclaredRule → Word → Move
at_step r w = if is (codes "step") w then to (StepWord r) else to (wrong X1 w)

abbrev pub at_max : DeclaredRule → Word → Move
at_max r w = if is (codes "max_size") w then to (MaxWord r) else at_step r w

abbrev pub action : DeclaredRule → Word → Move
action r w =
    if is (codes "take") w then to (TakeWord r)
    else (if is (codes "emit") w then to (Steps (with_step r steps.Emit))
    else (if is (codes "choose") w then to (ChooseWord r false)
    else (if is (codes "chooseleaf") w then to (ChooseWord r true)
    else on X1 w (setting_of w.text) (λ s. to (SetWord r s)))))

abbrev pub key : List ℕ → Word → Move → Move
key text w s = if is text w then s else to (wrong X1 w)

unfoldable pub step : State → Word → Move
step (Between early) w = to (begun early w)
step (TunableWord l) w = on X1 w (tunable_of w.text) (λ t. to (TunableKey l t))
step (TunableKey l t) w = on X1 w (number_of w.text) (λ n. record { done = Some (tunable_at l t n); state = Between true })
step (DeviceWord l) w = on X1 w (number_of w.text) (λ n. to (DeviceNumber l n))
step (DeviceNumber l n) w = on X1 w (name_of w.text) (λ x. to (DeviceName l n x))
step (DeviceName l n x) w = if is (codes "class") w then to (ClassWord l n x) else record { done = Some (device_at l n x); state = begun true w }
step (ClassWord l n x) w = on X1 w (name_of w.text) (λ c. record { done = Some (device_at l n x); state = Between true })
step (TypeWord l) w = on X1 w (number_of w.text) (λ n. to (TypeNumber l n))
step (TypeNumber l n) w = on X1 w (name_of w.text) (λ x. record { done = Some (type_at l n x); state = Between true })
step (BucketType l t) w = on X1 w (name_of w.text) (λ x. to (BucketName (record { line = l; type_name = t; name = x })))
step (BucketName h) w = key (codes "{") w (to (IdLines h None))
step (IdLines h o) w = in_lines h o w
step (IdWord h o) w = on X1 w (integer_of w.text) (λ i. to (IdNumber h o i))
step (IdNumber h o i) w = if is (codes "class") w then to (IdClass h o) else plain h o i w
step (IdClass h o) w = on X1 w (name_of w.text) (λ x. to (IdLines h o))
step (AlgWord h i) w = on (if is (codes "straw") w || is (codes "straw2") w then X2 else X1) w (alg_of w) (λ a. to (Hashes (record { head = h; id = i; alg = a; items = [] })))
step (Hashes b) w = if is (codes "hash") w then to (HashWord b) else in_items b w
step (HashWord b) w = on X1 w (hash_of w.text) (λ h. to (Hashes b))
step (Items b) w = in_items b w
step (ItemWord b) w = on X1 w (name_of w.text) (λ x. to (ItemName b (named x)))
step (ItemName b e) w = if is (codes "weight") w then to (WeightWord b e) else in_pos b e w
step (WeightWord b e) w = on (if is_token w then X6 else X1) w (weight_of w.text) (λ n. to (ItemWeight b (record e { weight = Some n })))
step (ItemWeight b e) w = in_pos b e w
step (PosWord b e) w = on X1 w (number_of w.text) (λ n. to (Items (with_item b (record e { place = Some (record { line = w.line; number = n }) }))))
step (RuleWord l) w = on X1 w (name_of w.text) (λ x. to (RuleName l x))
step (RuleName l x) w = key (codes "{") w (to (RuleOpen l x))
step (RuleOpen l x) w = on X1 w (rule_id_of w.text) (λ u. to (RuleId l x))
step (RuleId l x) w = on X1 w (number_of w.text) (λ n. to (RuleNumber l x n))
step (RuleNumber l x n) w = key (codes "type") w (to (RuleType l x n))
step (RuleType l x n) w = on X1 w (erasure_of w.text) (λ k. to (RuleKind (record { line = l; name = x; id = n; erasure = k; steps = [] })))
step (RuleKind r) w = if is (codes "min_size") w then to (MinWord r) else at_max r w
step (MinWord r) w = on X1 w (number_of w.text) (λ n. to (RuleMin r))
step (RuleMin r) w = at_max r w
step (MaxWord r) w = on X1 w (number_of w.text) (λ n. to (RuleMax r))
step (RuleMax r) w = at_step r w
step (StepWord r) w = action r w
step (TakeWord r) w = on X1 w (name_of w.text) (λ x. to (Taken (with_step r (steps.Take x))))
step (Taken r) w = if is (codes "class") w then to (wrong X3 w) else in_steps r w
step (SetWord r s) w = on X1 w (number_of w.text) (λ n. to (Steps (with_step r (steps.Set s n))))
step (ChooseWord r leaf) w = on X1 w (firstn_of w.text) (λ h. to (ChooseHow r leaf h))
step (ChooseHow r leaf h) w = on X1 w (integer_of w.text) (λ n. to (ChooseNumber r leaf h n))
step (ChooseNumber r leaf h n) w = key (codes "type") w (to (ChooseType r leaf h n))
step (ChooseType r leaf h n) w = on X1 w (name_of w.text) (λ x. to (Steps (with_step r (steps.Choose h leaf n x))))
step (Steps r) w = in_steps r w
step (Dead f) w = to (Dead f)

pub record Reading : Type 0 where
  pub decls : List Declaration
  pub fault : Option TextFault

abbrev pub give : Option Declaration → Reading → Reading
give None r = r
give (Some d) r = record { decls = d ∷ r.decls; fault = r.fault }

abbrev pub failed : TextFault → Reading
failed f = record { decls = []; fault = Some f }

abbrev pub at_end : State → ℕ → Reading
at_end (Between early) line = record { decls = []; fault = None }
at_end (DeviceName l n x) line = record { decls = device_at l n x ∷ []; fault = None }
at_end (Dead f) line = failed f
at_end other line = failed (record { line = line; code = X1 })

abbrev pub reading : State → ℕ → List Word → Reading
reading s line [] = at_end s line
reading s line (w ∷ ws) = give (step s w).done (reading (step s w).state w.line ws)

abbrev pub text : List Word → Reading
text ws = reading (Between true) 1 ws
