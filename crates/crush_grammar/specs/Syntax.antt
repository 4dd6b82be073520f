-- The grammar of map texts: what can be written, word by word, and what it declares.
--
-- A text of the form is the words of a tree whose leaves are the words themselves. A record is a
-- rule of the grammar; its fields stand in the order of their words. Source: Ceph's CRUSH map
-- manual and its compiler of map texts.
use Rattle.std.specs.Prelude.{◌≡◌, ℕ, true, false, List, [], ◌∷◌, ◌++◌, map, Option, Some, None, codes, flat_map, option_map}
use Rattle.crush_map.specs.crush_types.specs.declared.Kind.{Kind}
use Rattle.crush_map.specs.WeightText.{weight_of}
use Rattle.crush_grammar.specs.Words.{Word}
use Rattle.crush_grammar.specs.Numbers.{number_of, integer_of}
use Rattle.crush_grammar.specs.Sayings.{name_of, type_of, tunable_of, alg_of, hash_of, rule_id_of, erasure_of, firstn_of, setting_of}
use Rattle.crush_grammar.specs.declared.declaration.DeclaredItem.{DeclaredItem}
use Rattle.crush_grammar.specs.declared.declaration.DeclaredStep.{DeclaredStep}
use Rattle.crush_grammar.specs.declared.declaration.DeclaredStep.TheVariants as steps
use Rattle.crush_grammar.specs.declared.declaration.Declaration.{Declaration}
use Rattle.crush_grammar.specs.declared.declaration.Declaration.TheVariants as declarations

-- ---- leaves

-- a word with this text
pub record Keyword (text : List ℕ) : Type 0 where
  pub word : Word
  pub is : word.text ≡ text

-- a word that says a value
pub record Saying {V : Type 0} (read : List ℕ → Option V) : Type 0 where
  pub word : Word
  pub value : V
  pub is : read word.text ≡ Some value

-- 1 to DIGIT_LIMIT digits
abbrev pub Number : Type 0
Number = Saying number_of

-- 1 to DIGIT_LIMIT digits, with or without a minus before them
abbrev pub Integer : Type 0
Integer = Saying integer_of

abbrev pub Name : Type 0
Name = Saying name_of

-- a keyword and the value after it
pub record Clause {V : Type 0} (text : List ℕ) (read : List ℕ → Option V) : Type 0 where
  pub key : Keyword text
  pub value : Saying read

abbrev pub clause_words : {V : Type 0} {text : List ℕ} {read : List ℕ → Option V} → Clause text read → List Word
clause_words c = c.key.word ∷ c.value.word ∷ []

-- what may stand there or not
abbrev pub optional : {X : Type 0} → (X → List Word) → Option X → List Word
optional words None = []
optional words (Some x) = words x

-- class NAME
abbrev pub Class : Type 0
Class = Clause (codes "class") name_of

-- ---- tunables, devices and types

-- tunable TUNABLE NUMBER
pub record Tunable : Type 0 where
  pub tunable : Keyword (codes "tunable")
  pub name : Saying tunable_of
  pub value : Number

-- device NUMBER NAME [class NAME]
pub record Device : Type 0 where
  pub device : Keyword (codes "device")
  pub id : Number
  pub name : Name
  pub class : Option Class

-- type NUMBER NAME
pub record TypeLine : Type 0 where
  pub type : Keyword (codes "type")
  pub number : Number
  pub name : Name

pub data Early : Type 0 where
  ATunable : Tunable → Early
  ADevice : Device → Early
  AType : TypeLine → Early

abbrev pub early_words : Early → List Word
early_words (ATunable t) = t.tunable.word ∷ t.name.word ∷ t.value.word ∷ []
early_words (ADevice d) = d.device.word ∷ d.id.word ∷ d.name.word ∷ optional clause_words d.class
early_words (AType t) = t.type.word ∷ t.number.word ∷ t.name.word ∷ []

-- the class of a device is dropped
abbrev pub early_declares : Early → Declaration
early_declares (ATunable t) = declarations.Tunable (record { line = t.tunable.word.line; name = t.name.value; value = t.value.value })
early_declares (ADevice d) = declarations.Device (record { line = d.device.word.line; id = d.id.value; name = d.name.value })
early_declares (AType t) = declarations.TypeName (record { line = t.type.word.line; number = t.number.value; name = t.name.value })

-- ---- buckets

-- a word that is the kind of a bucket
pub record Algorithm : Type 0 where
  pub word : Word
  pub value : Kind
  pub is : alg_of word ≡ Some value

-- id INTEGER class NAME, which is dropped
pub record ClassId : Type 0 where
  pub id : Keyword (codes "id")
  pub number : Integer
  pub class : Class

abbrev pub class_id_words : ClassId → List Word
class_id_words i = i.id.word ∷ i.number.word ∷ clause_words i.class

-- hash HASH
abbrev pub Hash : Type 0
Hash = Clause (codes "hash") hash_of

-- weight WEIGHT
abbrev pub Weight : Type 0
Weight = Clause (codes "weight") weight_of

-- pos NUMBER
abbrev pub Pos : Type 0
Pos = Clause (codes "pos") number_of

-- item NAME [weight WEIGHT] [pos NUMBER]
pub record Item : Type 0 where
  pub item : Keyword (codes "item")
  pub name : Name
  pub weight : Option Weight
  pub pos : Option Pos

abbrev pub item_words : Item → List Word
item_words i = i.item.word ∷ i.name.word ∷ (optional clause_words i.weight ++ optional clause_words i.pos)

abbrev pub item_declares : Item → DeclaredItem
item_declares i = record { name = i.name.value; weight = option_map (λ w. w.value.value) i.weight; place = option_map (λ p. record { line = p.value.word.line; number = p.value.value }) i.pos }

-- TYPE NAME {, one or more id lines of which just one has no class, alg ALG, hash lines, items, }
pub record Bucket : Type 0 where
  pub type_name : Saying type_of
  pub name : Name
  pub opening : Keyword (codes "{")
  pub before : List ClassId
  pub id : Keyword (codes "id")
  pub number : Integer
  pub after : List ClassId
  pub alg : Keyword (codes "alg")
  pub algorithm : Algorithm
  pub hashes : List Hash
  pub items : List Item
  pub closing : Keyword (codes "}")

abbrev pub bucket_words : Bucket → List Word
bucket_words b =
    b.type_name.word ∷ b.name.word ∷ b.opening.word ∷ (flat_map class_id_words b.before ++ (b.id.word ∷ b.number.word ∷ (flat_map class_id_words b.after
    ++ (b.alg.word ∷ b.algorithm.word ∷ (flat_map clause_words b.hashes ++ (flat_map item_words b.items ++ b.closing.word ∷ []))))))

-- ---- rules

-- SETTING NUMBER
pub record SetStep : Type 0 where
  pub setting : Saying setting_of
  pub value : Number

-- choose or chooseleaf, then firstn or indep, then INTEGER type TYPE
pub record ChooseStep (word : List ℕ) : Type 0 where
  pub choose : Keyword word
  pub firstn : Saying firstn_of
  pub number : Integer
  pub type : Keyword (codes "type")
  pub type_name : Name

abbrev pub choose_words : {word : List ℕ} → ChooseStep word → List Word
choose_words c = c.choose.word ∷ c.firstn.word ∷ c.number.word ∷ c.type.word ∷ c.type_name.word ∷ []

pub data Action : Type 0 where
  ATake : Clause (codes "take") name_of → Action
  ASet : SetStep → Action
  AChoose : ChooseStep (codes "choose") → Action
  AChooseLeaf : ChooseStep (codes "chooseleaf") → Action
  AnEmit : Keyword (codes "emit") → Action

abbrev pub action_words : Action → List Word
action_words (ATake t) = clause_words t
action_words (ASet s) = s.setting.word ∷ s.value.word ∷ []
action_words (AChoose c) = choose_words c
action_words (AChooseLeaf c) = choose_words c
action_words (AnEmit e) = e.word ∷ []

abbrev pub action_declares : Action → DeclaredStep
action_declares (ATake t) = steps.Take t.value.value
action_declares (ASet s) = steps.Set s.setting.value s.value.value
action_declares (AChoose c) = steps.Choose c.firstn.value false c.number.value c.type_name.value
action_declares (AChooseLeaf c) = steps.Choose c.firstn.value true c.number.value c.type_name.value
action_declares (AnEmit e) = steps.Emit

-- step ACTION
pub record Step : Type 0 where
  pub step : Keyword (codes "step")
  pub action : Action

abbrev pub step_words : Step → List Word
step_words s = s.step.word ∷ action_words s.action

-- rule NAME {, id or ruleset NUMBER, type replicated or erasure, [min_size NUMBER], [max_size
-- NUMBER], one or more steps, }
pub record Rule : Type 0 where
  pub rule : Keyword (codes "rule")
  pub name : Name
  pub opening : Keyword (codes "{")
  pub id : Saying rule_id_of
  pub number : Number
  pub type : Keyword (codes "type")
  pub erasure : Saying erasure_of
  pub min_size : Option (Clause (codes "min_size") number_of)
  pub max_size : Option (Clause (codes "max_size") number_of)
  pub first : Step
  pub others : List Step
  pub closing : Keyword (codes "}")

abbrev pub rule_words : Rule → List Word
rule_words r =
    r.rule.word ∷ r.name.word ∷ r.opening.word ∷ r.id.word ∷ r.number.word ∷ r.type.word ∷ r.erasure.word
    ∷ (optional clause_words r.min_size ++ (optional clause_words r.max_size ++ (step_words r.first ++ (flat_map step_words r.others ++ r.closing.word ∷ []))))

pub data Late : Type 0 where
  ABucket : Bucket → Late
  ARule : Rule → Late

abbrev pub late_words : Late → List Word
late_words (ABucket b) = bucket_words b
late_words (ARule r) = rule_words r

-- the line of a declaration is that of its first word
abbrev pub late_declares : Late → Declaration
late_declares (ABucket b) = declarations.Bucket (record {
  head = record { line = b.type_name.word.line; type_name = b.type_name.value; name = b.name.value };
  id = b.number.value;
  alg = b.algorithm.value;
  items = map item_declares b.items;
})
late_declares (ARule r) = declarations.Rule (record {
  line = r.rule.word.line;
  name = r.name.value;
  id = r.number.value;
  erasure = r.erasure.value;
  steps = map (λ s. action_declares s.action) (r.first ∷ r.others);
})

-- ---- texts

-- first tunables, devices and types, then buckets and rules, each in any order
pub record Text : Type 0 where
  pub early : List Early
  pub late : List Late

abbrev pub text_words : Text → List Word
text_words t = flat_map early_words t.early ++ flat_map late_words t.late

abbrev pub text_declares : Text → List Declaration
text_declares t = map early_declares t.early ++ map late_declares t.late

-- the words are a text of the grammar, and declare this
abbrev pub Declares : List Word → List Declaration → Type 0
Declares ws ds = (t : Text) × (ws ≡ text_words t) × (ds ≡ text_declares t)
