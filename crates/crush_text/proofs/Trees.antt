-- The canonical text of each element is the words of a tree, which declares it.
use Rattle.std.proofs.Common.{◌≡◌, ◌∙◌, ℕ, ℤ, ◌+◌, ◌<◌, ◌≤◌, ◌^◌, ◌&&◌, nat_lt, nat_le, List, [], ◌∷◌, ◌++◌, length, map, sum_by, Bool, true, false, refl, ap, arith, append_assoc, codes, Option, Some, None}
use Rattle.std.proofs.lemmas.Bool.Decides.{nat_tests}
use Rattle.std.proofs.lemmas.List.{append-nil}
use Rattle.std.proofs.lemmas.List.Sums.{sum_by-cons}
use Rattle.std.specs.List.{flat_map, list_all, AllByRecursion}
use Rattle.std.specs.Fmt.{decimal, signed_decimal}
use Rattle.crush_map.specs.declared.limits.TheConstants.{COUNT_LIMIT, NAME_LIMIT, NUMBER_LIMIT, RULE_ID_LIMIT, TRIES_LIMIT}
use Rattle.crush_map.specs.crush_types.specs.declared.limits.TheConstants.{ID_COUNT}
use Rattle.crush_map.specs.declared.draft.TypeName.{TypeName}
use Rattle.crush_map.specs.declared.draft.Device.{Device}
use Rattle.crush_map.specs.declared.draft.Bucket.{Bucket}
use Rattle.crush_map.specs.declared.draft.Rule.{Rule}
use Rattle.crush_map.specs.declared.draft.Step.{Step}
use Rattle.crush_map.specs.declared.draft.Step.TheVariants.{Take, SetChooseTries, SetLeafTries, SetVaryR, SetStable, Choose, Emit}
use Rattle.crush_map.specs.declared.draft.Tunables.{Tunables}
use Rattle.crush_map.specs.crush_types.specs.declared.ItemId.{ItemId}
use Rattle.crush_map.specs.crush_types.specs.declared.Weight.{Weight}
use Rattle.crush_map.specs.crush_types.specs.declared.Kind.{Kind}
use Rattle.crush_map.specs.crush_types.specs.declared.Kind.TheVariants.{Uniform, List as ListKind, Tree, Straw2}
use Rattle.crush_map.specs.crush_types.specs.Kinds.{is_straw2, kind_name}
use Rattle.crush_map.specs.Faults.{is_name, is_name_byte, is_reserved}
use Rattle.crush_map.specs.Map.{Map}
use Rattle.crush_map.specs.WeightText.{text_of, weight_of}
use Rattle.crush_grammar.specs.Numbers.{number_of, integer_of}
use Rattle.crush_grammar.specs.Sayings.{name_of, type_of, tunable_of, alg_of, hash_of, rule_id_of, erasure_of, firstn_of, setting_of}
use Rattle.crush_grammar.specs.Syntax.{Keyword, Saying, Clause, early_words, early_declares, item_words, item_declares, Action, action_declares, step_words, late_words, late_declares}
use Rattle.crush_grammar.specs.Syntax as syntax
use Rattle.crush_grammar.specs.Syntax.Early.{ATunable, ADevice, AType}
use Rattle.crush_grammar.specs.Syntax.Late.{ABucket, ARule}
use Rattle.crush_grammar.specs.Syntax.Action.{ATake, ASet, AChoose, AChooseLeaf, AnEmit}
use Rattle.crush_grammar.specs.declared.declaration.TunableName.{TunableName}
use Rattle.crush_grammar.specs.declared.declaration.TunableName.TheVariants.{LocalTries, LocalFallbackTries, TotalTries, DescendOnce, VaryR, Stable}
use Rattle.crush_grammar.specs.declared.declaration.Setting.{Setting}
use Rattle.crush_grammar.specs.declared.declaration.Setting.TheVariants as settings
use Rattle.crush_grammar.specs.declared.declaration.DeclaredItem.{DeclaredItem}
use Rattle.crush_grammar.specs.declared.declaration.DeclaredStep.{DeclaredStep}
use Rattle.crush_grammar.specs.declared.declaration.DeclaredStep.TheVariants as steps
use Rattle.crush_grammar.specs.declared.declaration.Declaration.{Declaration}
use Rattle.crush_grammar.specs.declared.declaration.Declaration.TheVariants as declarations
use Rattle.crush_writing.specs.Canonical.{type_name, item_name, tunable_line, tunable_lines, device_line, type_line, item_line, bucket_lines, choose_text, firstn_text, step_line, erasure_text, rule_lines, inner_line}
use Rattle.crush_text.proofs.Spelt.{word_at, IsToken, both, keyword, name_is_token, Reads, joined, ends, line_reads, inner_line_reads, Spells, numbered, numbered-map, all_spell}
use Rattle.crush_text.proofs.Numerals.{IsWithin, number_comes_back, integer_comes_back, decimal_is_token, signed_is_token}

-- ---- leaves

pub name_says : (t : List ℕ) → is_name t ≡ true → name_of t ≡ Some t
unfolding name_of
name_says t h =
    let parts = both (nat_le 1 (length t) && nat_le (length t) NAME_LIMIT) (list_all is_name_byte t) h in
    let low = (both (nat_le 1 (length t)) (nat_le (length t) NAME_LIMIT) parts.0).0 in
    let some : nat_lt 0 (length t) ≡ true = grind (arith, nat_tests) in
    rw (some, parts.1) refl

pub type_says : (t : List ℕ) → is_name t ≡ true → is_reserved t ≡ false → type_of t ≡ Some t
unfolding type_of
type_says t form free = rw free (name_says t form)

name_token : (t : List ℕ) → is_name t ≡ true → IsToken t
name_token t h = name_is_token t t (name_says t h)

opening : IsToken (codes "{")
opening n rest free = refl

closing : IsToken (codes "}")
closing n rest free = refl

abbrev key : Bool → ℕ → (t : List ℕ) → Keyword t
key marked n t = record { word = word_at marked n t; is = refl }

abbrev said : {V : Type 0} (marked : Bool) (read : List ℕ → Option V) (n : ℕ) (t : List ℕ) (v : V) → read t ≡ Some v → Saying read
said marked read n t v e = record { word = word_at marked n t; value = v; is = e }

-- ---- tunables

abbrev pub tunable_text : TunableName → List ℕ
tunable_text LocalTries = codes "choose_local_tries"
tunable_text LocalFallbackTries = codes "choose_local_fallback_tries"
tunable_text TotalTries = codes "choose_total_tries"
tunable_text DescendOnce = codes "chooseleaf_descend_once"
tunable_text VaryR = codes "chooseleaf_vary_r"
tunable_text Stable = codes "chooseleaf_stable"
tunable_text other = []

-- the tunables of a map, in the order of its text
abbrev pub tunables_of : Tunables → List (TunableName × ℕ)
tunables_of t = (LocalTries, 0) ∷ (LocalFallbackTries, 0) ∷ (TotalTries, t.total_tries) ∷ (DescendOnce, t.descend_once) ∷ (VaryR, t.vary_r) ∷ (Stable, t.stable) ∷ []

abbrev pub tunable_declared : ℕ → TunableName × ℕ → Declaration
tunable_declared n x = declarations.Tunable (record { line = n; name = x.0; value = x.1 })

abbrev line_of_tunable : TunableName × ℕ → List ℕ
line_of_tunable x = tunable_line (tunable_text x.0) x.1

tunable_spells : (marked : Bool) (x : TunableName × ℕ) → tunable_of (tunable_text x.0) ≡ Some x.0 → IsToken (tunable_text x.0) → x.1 < 10 ^ 10 → (n : ℕ) →
    Spells early_words early_declares marked n (line_of_tunable x) (n + 1) (tunable_declared n x)
unfolding tunable_line
tunable_spells marked x e token small n = (
  ATunable (record { tunable = key marked n (codes "tunable"); name = said marked tunable_of n (tunable_text x.0) x.0 e; value = said marked number_of n (decimal x.1) x.1 (number_comes_back x.1 small) }),
  refl,
  line_reads marked n (codes "tunable" ∷ tunable_text x.0 ∷ decimal x.1 ∷ []) (omega arith) (keyword (codes "tunable") refl, (token, (decimal_is_token x.1 small, tt))),
)

right : (a b c d e f : List ℕ) → a ++ (b ++ (c ++ (d ++ (e ++ (f ++ []))))) ≡ a ++ b ++ c ++ d ++ e ++ f
right a b c d e f = simp (append_assoc, append-nil)

all_lines : (t : Tunables) → flat_map line_of_tunable (tunables_of t) ≡ tunable_lines t
unfolding tunable_lines
all_lines t = right
    (tunable_line (codes "choose_local_tries") 0) (tunable_line (codes "choose_local_fallback_tries") 0) (tunable_line (codes "choose_total_tries") t.total_tries)
    (tunable_line (codes "chooseleaf_descend_once") t.descend_once) (tunable_line (codes "chooseleaf_vary_r") t.vary_r) (tunable_line (codes "chooseleaf_stable") t.stable)

pub tunables_spell : (marked : Bool) (t : Tunables) → t.total_tries < 10 ^ 10 → t.descend_once < 10 ^ 10 → t.vary_r < 10 ^ 10 → t.stable < 10 ^ 10 → (n : ℕ) →
    Spells (flat_map early_words) (map early_declares) marked n (tunable_lines t) (n + sum_by (λ x. 1) (tunables_of t)) (numbered tunable_declared (λ x. 1) n (tunables_of t))
unfolding tunable_of
tunables_spell marked t a b c d n =
    rw (← all_lines t) (all_spell marked early_words early_declares line_of_tunable tunable_declared (λ x. 1) (tunables_of t) (
      tunable_spells marked (LocalTries, 0) refl (keyword (codes "choose_local_tries") refl) (omega arith),
      (
        tunable_spells marked (LocalFallbackTries, 0) refl (keyword (codes "choose_local_fallback_tries") refl) (omega arith),
        (
          tunable_spells marked (TotalTries, t.total_tries) refl (keyword (codes "choose_total_tries") refl) a,
          (
            tunable_spells marked (DescendOnce, t.descend_once) refl (keyword (codes "chooseleaf_descend_once") refl) b,
            (
              tunable_spells marked (VaryR, t.vary_r) refl (keyword (codes "chooseleaf_vary_r") refl) c,
              (
                tunable_spells marked (Stable, t.stable) refl (keyword (codes "chooseleaf_stable") refl) d,
                tt,
              ),
            ),
          ),
        ),
      ),
    ) n)

-- ---- devices and types

abbrev pub device_declared : ℕ → Device → Declaration
device_declared n d = declarations.Device (record { line = n; id = d.id; name = d.name })

pub device_spells : (marked : Bool) (d : Device) → d.id ≤ NUMBER_LIMIT → is_name d.name ≡ true → (n : ℕ) → Spells early_words early_declares marked n (device_line d) (n + 1) (device_declared n d)
unfolding device_line
device_spells marked d small form n = (
  ADevice (record { device = key marked n (codes "device"); id = said marked number_of n (decimal d.id) d.id (number_comes_back d.id (omega arith)); name = said marked name_of n d.name d.name (name_says d.name form); class = None }),
  refl,
  line_reads marked n (codes "device" ∷ decimal d.id ∷ d.name ∷ []) (omega arith) (keyword (codes "device") refl, (decimal_is_token d.id (omega arith), (name_token d.name form, tt))),
)

abbrev pub type_declared : ℕ → TypeName → Declaration
type_declared n t = declarations.TypeName (record { line = n; number = t.number; name = t.name })

pub type_spells : (marked : Bool) (t : TypeName) → t.number ≤ NUMBER_LIMIT → is_name t.name ≡ true → (n : ℕ) → Spells early_words early_declares marked n (type_line t) (n + 1) (type_declared n t)
unfolding type_line
type_spells marked t small form n = (
  AType (record { type = key marked n (codes "type"); number = said marked number_of n (decimal t.number) t.number (number_comes_back t.number (omega arith)); name = said marked name_of n t.name t.name (name_says t.name form) }),
  refl,
  line_reads marked n (codes "type" ∷ decimal t.number ∷ t.name ∷ []) (omega arith) (keyword (codes "type") refl, (decimal_is_token t.number (omega arith), (name_token t.name form, tt))),
)

-- ---- buckets

abbrev pub item_declared : Map → ItemId × Weight → DeclaredItem
item_declared m x = record { name = item_name m x.0.0; weight = Some x.1; place = None }

-- an item has a name of the form, and a weight that is read as it is written
pub record HasForm (m : Map) (x : ItemId × Weight) : Type 0 where
  pub name : is_name (item_name m x.0.0) ≡ true
  pub word : is_name (text_of x.1) ≡ true
  pub back : weight_of (text_of x.1) ≡ Some x.1

pub item_spells : (marked : Bool) (m : Map) (x : ItemId × Weight) → HasForm m x → (n : ℕ) → Spells item_words item_declares marked n (item_line m x) (n + 1) (item_declared m x)
unfolding item_line
item_spells marked m x form n = (
  record {
    item = key marked n (codes "item");
    name = said marked name_of n (item_name m x.0.0) (item_name m x.0.0) (name_says (item_name m x.0.0) form.name);
    weight = Some (record { key = key marked n (codes "weight"); value = said marked weight_of n (text_of x.1) x.1 form.back });
    pos = None;
  },
  refl,
  inner_line_reads marked n (codes "item" ∷ item_name m x.0.0 ∷ codes "weight" ∷ text_of x.1 ∷ []) (omega arith)
      (keyword (codes "item") refl, (name_token (item_name m x.0.0) form.name, (keyword (codes "weight") refl, (name_token (text_of x.1) form.word, tt)))),
)

-- a word that is the name of a kind says that kind, if its text asks for straw2 where it is straw2
alg_says : (marked : Bool) (n : ℕ) (a : Kind) → (is_straw2 a ≡ true → marked ≡ true) → alg_of (word_at marked n (kind_name a)) ≡ Some a
unfolding alg_of
alg_says true n Uniform h = refl
alg_says true n ListKind h = refl
alg_says true n Tree h = refl
alg_says true n Straw2 h = refl
alg_says false n Uniform h = refl
alg_says false n ListKind h = refl
alg_says false n Tree h = refl
alg_says false n Straw2 h = let none : false ≡ true = h refl in cc

alg_token : (a : Kind) → IsToken (kind_name a)
alg_token Uniform = keyword (codes "uniform") refl
alg_token ListKind = keyword (codes "list") refl
alg_token Tree = keyword (codes "tree") refl
alg_token Straw2 = keyword (codes "straw2") refl

zero_says : hash_of (codes "0") ≡ Some 0
unfolding hash_of
zero_says = refl

abbrev pub bucket_declared : Map → ℕ → Bucket → Declaration
bucket_declared m n b = declarations.Bucket (record {
  head = record { line = n; type_name = type_name m.types b.kind_of; name = b.name };
  id = b.id.0;
  alg = b.alg;
  items = map (item_declared m) b.items;
})

abbrev pub bucket_height : Bucket → ℕ
bucket_height b = 5 + sum_by (λ x. 1) b.items

-- what of a bucket is written has the form
pub record IsWritten (m : Map) (b : Bucket) : Type 0 where
  pub type_form : is_name (type_name m.types b.kind_of) ≡ true
  pub type_free : is_reserved (type_name m.types b.kind_of) ≡ false
  pub name : is_name b.name ≡ true
  pub id : IsWithin ID_COUNT b.id.0
  pub items : AllByRecursion (HasForm m) b.items

pub all_mapped : {X : Type 0} (P Q : X → Type 0) (xs : List X) → ((x : X) → P x → Q x) → AllByRecursion P xs → AllByRecursion Q xs
all_mapped P Q [] h all = tt
all_mapped P Q (x ∷ xs) h all = (h x all.0, all_mapped P Q xs h all.1)

pub bucket_spells : (marked : Bool) (m : Map) (b : Bucket) → IsWritten m b → (is_straw2 b.alg ≡ true → marked ≡ true) → (n : ℕ) → Spells late_words late_declares marked n (bucket_lines m b) (n + bucket_height b) (bucket_declared m n b)
unfolding bucket_lines
bucket_spells marked m b form mark n =
    let kind = type_name m.types b.kind_of in
    let (items, ds, rs) = all_spell marked item_words item_declares (item_line m) (λ k x. item_declared m x) (λ x. 1) b.items
    (all_mapped (HasForm m) (λ x. (k : ℕ) → Spells item_words item_declares marked k (item_line m x) (k + 1) (item_declared m x)) b.items (item_spells marked m) form.items) (n + 1 + 1 + 1 + 1) in
    let last = n + 1 + 1 + 1 + 1 + sum_by (λ x. 1) b.items in
    let tree : syntax.Bucket = record {
      type_name = said marked type_of n kind kind (type_says kind form.type_form form.type_free);
      name = said marked name_of n b.name b.name (name_says b.name form.name);
      opening = key marked n (codes "{");
      before = [];
      id = key marked (n + 1) (codes "id");
      number = said marked integer_of (n + 1) (signed_decimal b.id.0) b.id.0 (integer_comes_back ID_COUNT b.id.0 form.id (omega arith));
      after = [];
      alg = key marked (n + 1 + 1) (codes "alg");
      algorithm = record { word = word_at marked (n + 1 + 1) (kind_name b.alg); value = b.alg; is = alg_says marked (n + 1 + 1) b.alg mark };
      hashes = record { key = key marked (n + 1 + 1 + 1) (codes "hash"); value = said marked hash_of (n + 1 + 1 + 1) (codes "0") 0 zero_says } ∷ [];
      items = items;
      closing = key marked last (codes "}");
    } in (
      ABucket tree,
      ap (λ is. declarations.Bucket (record { head = record { line = n; type_name = kind; name = b.name }; id = b.id.0; alg = b.alg; items = is }))
          (ds ∙ numbered-map (item_declared m) (λ x. 1) (n + 1 + 1 + 1 + 1) b.items),
      ends (n + bucket_height b) (late_words (ABucket tree))
          (joined (joined (joined (joined (joined
          (line_reads marked n (kind ∷ b.name ∷ codes "{" ∷ []) (omega arith) (name_token kind form.type_form, (name_token b.name form.name, (opening, tt))))
          (inner_line_reads marked (n + 1) (codes "id" ∷ signed_decimal b.id.0 ∷ []) (omega arith) (keyword (codes "id") refl, (signed_is_token ID_COUNT b.id.0 form.id (omega arith), tt))))
          (inner_line_reads marked (n + 1 + 1) (codes "alg" ∷ kind_name b.alg ∷ []) (omega arith) (keyword (codes "alg") refl, (alg_token b.alg, tt))))
          (inner_line_reads marked (n + 1 + 1 + 1) (codes "hash" ∷ codes "0" ∷ []) (omega arith) (keyword (codes "hash") refl, (keyword (codes "0") refl, tt))))
          rs)
          (line_reads marked last (codes "}" ∷ []) (omega arith) (closing, tt))) (omega arith) refl,
    )

-- ---- rules

abbrev pub step_declared : Map → Step → DeclaredStep
step_declared m (Take id) = steps.Take (item_name m id.0)
step_declared m (SetChooseTries tries) = steps.Set settings.ChooseTries tries
step_declared m (SetLeafTries tries) = steps.Set settings.LeafTries tries
step_declared m (SetVaryR value) = steps.Set settings.VaryR value
step_declared m (SetStable value) = steps.Set settings.Stable value
step_declared m (Choose firstn leaf n wanted) = steps.Choose firstn leaf n (type_name m.types wanted)
step_declared m Emit = steps.Emit

-- what of a step is written has the form
abbrev pub StepForm : Map → Step → Type 0
StepForm m (Take id) = is_name (item_name m id.0) ≡ true
StepForm m (SetChooseTries tries) = tries ≤ TRIES_LIMIT
StepForm m (SetLeafTries tries) = tries ≤ TRIES_LIMIT
StepForm m (SetVaryR value) = value ≤ TRIES_LIMIT
StepForm m (SetStable value) = value ≤ TRIES_LIMIT
StepForm m (Choose firstn leaf n wanted) = IsWithin COUNT_LIMIT n × (is_name (type_name m.types wanted) ≡ true)
StepForm m Emit = Unit {0}

abbrev of_step : syntax.Step → DeclaredStep
of_step s = action_declares s.action

set_spells : (marked : Bool) (text : List ℕ) (s : Setting) (value : ℕ) → setting_of text ≡ Some s → IsToken text → value ≤ TRIES_LIMIT → (n : ℕ) →
    Spells step_words of_step marked n (inner_line (codes "step" ∷ text ∷ decimal value ∷ [])) (n + 1) (steps.Set s value)
set_spells marked text s value e token small n = (
  record { step = key marked n (codes "step"); action = ASet (record { setting = said marked setting_of n text s e; value = said marked number_of n (decimal value) value (number_comes_back value (omega arith)) }) },
  refl,
  inner_line_reads marked n (codes "step" ∷ text ∷ decimal value ∷ []) (omega arith) (keyword (codes "step") refl, (token, (decimal_is_token value (omega arith), tt))),
)

firstn_says : (firstn : Bool) → firstn_of (firstn_text firstn) ≡ Some firstn
unfolding firstn_of
firstn_says true = refl
firstn_says false = refl

firstn_token : (firstn : Bool) → IsToken (firstn_text firstn)
firstn_token true = keyword (codes "firstn") refl
firstn_token false = keyword (codes "indep") refl

choose_token : (leaf : Bool) → IsToken (choose_text leaf)
choose_token true = keyword (codes "chooseleaf") refl
choose_token false = keyword (codes "choose") refl

choose_reads : (marked : Bool) (leaf firstn : Bool) (z : ℤ) (type : List ℕ) → IsWithin COUNT_LIMIT z → is_name type ≡ true → (n : ℕ) →
    Reads marked n (inner_line (codes "step" ∷ choose_text leaf ∷ firstn_text firstn ∷ signed_decimal z ∷ codes "type" ∷ type ∷ [])) (n + 1) (map (word_at marked n) (codes "step" ∷ choose_text leaf ∷ firstn_text firstn ∷ signed_decimal z ∷ codes "type" ∷ type ∷ []))
choose_reads marked leaf firstn z type small form n =
    inner_line_reads marked n (codes "step" ∷ choose_text leaf ∷ firstn_text firstn ∷ signed_decimal z ∷ codes "type" ∷ type ∷ []) (omega arith)
    (keyword (codes "step") refl, (choose_token leaf, (firstn_token firstn, (signed_is_token COUNT_LIMIT z small (omega arith), (keyword (codes "type") refl, (name_token type form, tt))))))

choose_spells : (marked : Bool) (leaf firstn : Bool) (z : ℤ) (type : List ℕ) → IsWithin COUNT_LIMIT z → is_name type ≡ true → (n : ℕ) →
    Spells step_words of_step marked n (inner_line (codes "step" ∷ choose_text leaf ∷ firstn_text firstn ∷ signed_decimal z ∷ codes "type" ∷ type ∷ [])) (n + 1) (steps.Choose firstn leaf z type)
choose_spells marked true firstn z type small form n = (
  record {
    step = key marked n (codes "step");
    action = AChooseLeaf (record {
      choose = key marked n (codes "chooseleaf");
      firstn = said marked firstn_of n (firstn_text firstn) firstn (firstn_says firstn);
      number = said marked integer_of n (signed_decimal z) z (integer_comes_back COUNT_LIMIT z small (omega arith));
      type = key marked n (codes "type");
      type_name = said marked name_of n type type (name_says type form);
    });
  },
  refl,
  choose_reads marked true firstn z type small form n,
)
choose_spells marked false firstn z type small form n = (
  record {
    step = key marked n (codes "step");
    action = AChoose (record {
      choose = key marked n (codes "choose");
      firstn = said marked firstn_of n (firstn_text firstn) firstn (firstn_says firstn);
      number = said marked integer_of n (signed_decimal z) z (integer_comes_back COUNT_LIMIT z small (omega arith));
      type = key marked n (codes "type");
      type_name = said marked name_of n type type (name_says type form);
    });
  },
  refl,
  choose_reads marked false firstn z type small form n,
)

pub step_spells : (marked : Bool) (m : Map) (s : Step) → StepForm m s → (n : ℕ) → Spells step_words of_step marked n (step_line m s) (n + 1) (step_declared m s)
unfolding step_line setting_of
step_spells marked m (Take id) form n = (
  record { step = key marked n (codes "step"); action = ATake (record { key = key marked n (codes "take"); value = said marked name_of n (item_name m id.0) (item_name m id.0) (name_says (item_name m id.0) form) }) },
  refl,
  inner_line_reads marked n (codes "step" ∷ codes "take" ∷ item_name m id.0 ∷ []) (omega arith) (keyword (codes "step") refl, (keyword (codes "take") refl, (name_token (item_name m id.0) form, tt))),
)
step_spells marked m (SetChooseTries tries) form n = set_spells marked (codes "set_choose_tries") settings.ChooseTries tries refl (keyword (codes "set_choose_tries") refl) form n
step_spells marked m (SetLeafTries tries) form n = set_spells marked (codes "set_chooseleaf_tries") settings.LeafTries tries refl (keyword (codes "set_chooseleaf_tries") refl) form n
step_spells marked m (SetVaryR value) form n = set_spells marked (codes "set_chooseleaf_vary_r") settings.VaryR value refl (keyword (codes "set_chooseleaf_vary_r") refl) form n
step_spells marked m (SetStable value) form n = set_spells marked (codes "set_chooseleaf_stable") settings.Stable value refl (keyword (codes "set_chooseleaf_stable") refl) form n
step_spells marked m (Choose firstn leaf z wanted) form n = choose_spells marked leaf firstn z (type_name m.types wanted) form.0 form.1 n
step_spells marked m Emit form n = (
  record { step = key marked n (codes "step"); action = AnEmit (key marked n (codes "emit")) },
  refl,
  inner_line_reads marked n (codes "step" ∷ codes "emit" ∷ []) (omega arith) (keyword (codes "step") refl, (keyword (codes "emit") refl, tt)),
)

erasure_says : (erasure : Bool) → erasure_of (erasure_text erasure) ≡ Some erasure
unfolding erasure_of
erasure_says true = refl
erasure_says false = refl

erasure_token : (erasure : Bool) → IsToken (erasure_text erasure)
erasure_token true = keyword (codes "erasure") refl
erasure_token false = keyword (codes "replicated") refl

id_says : rule_id_of (codes "id") ≡ Some 0
unfolding rule_id_of
id_says = refl

abbrev pub rule_declared : Map → ℕ → Rule → Declaration
rule_declared m n r = declarations.Rule (record { line = n; name = r.name; id = r.id; erasure = r.erasure; steps = map (step_declared m) r.steps })

abbrev pub rule_height : Rule → ℕ
rule_height r = 4 + sum_by (λ x. 1) r.steps

pub record IsWrittenRule (m : Map) (r : Rule) : Type 0 where
  pub id : r.id ≤ RULE_ID_LIMIT
  pub name : is_name r.name ≡ true
  pub steps : AllByRecursion (StepForm m) r.steps

-- a rule whose steps are a first one and others
steps_spell : (marked : Bool) (m : Map) (r : Rule) (s : Step) (ss : List Step) → r.id ≤ RULE_ID_LIMIT → is_name r.name ≡ true → StepForm m s → AllByRecursion (StepForm m) ss → (n : ℕ) →
    Spells late_words late_declares marked n (rule_lines m (record r { steps = s ∷ ss })) (n + rule_height (record r { steps = s ∷ ss })) (rule_declared m n (record r { steps = s ∷ ss }))
unfolding rule_lines
steps_spell marked m r s ss id name one more n =
    let at = n + 1 + 1 + 1 in
    let (first, d, g) = step_spells marked m s one at in
    let (others, ds, gs) = all_spell marked step_words of_step (step_line m) (λ k x. step_declared m x) (λ x. 1) ss
    (all_mapped (StepForm m) (λ x. (k : ℕ) → Spells step_words of_step marked k (step_line m x) (k + 1) (step_declared m x)) ss (step_spells marked m) more) (at + 1) in
    let last = at + 1 + sum_by (λ x. 1) ss in
    let tree : syntax.Rule = record {
      rule = key marked n (codes "rule");
      name = said marked name_of n r.name r.name (name_says r.name name);
      opening = key marked n (codes "{");
      id = said marked rule_id_of (n + 1) (codes "id") 0 id_says;
      number = said marked number_of (n + 1) (decimal r.id) r.id (number_comes_back r.id (omega arith));
      type = key marked (n + 1 + 1) (codes "type");
      erasure = said marked erasure_of (n + 1 + 1) (erasure_text r.erasure) r.erasure (erasure_says r.erasure);
      min_size = None;
      max_size = None;
      first = first;
      others = others;
      closing = key marked last (codes "}");
    } in
    let height = sum_by-cons (λ (x : Step). 1) s ss in (
      ARule tree,
      ap (λ xs. declarations.Rule (record { line = n; name = r.name; id = r.id; erasure = r.erasure; steps = xs }))
          (ap (λ x. x ∷ map of_step others) d ∙ ap (λ xs. step_declared m s ∷ xs) (ds ∙ numbered-map (step_declared m) (λ x. 1) (at + 1) ss)),
      ends (n + rule_height (record r { steps = s ∷ ss })) (late_words (ARule tree))
          (joined (joined (joined (joined
          (line_reads marked n (codes "rule" ∷ r.name ∷ codes "{" ∷ []) (omega arith) (keyword (codes "rule") refl, (name_token r.name name, (opening, tt))))
          (inner_line_reads marked (n + 1) (codes "id" ∷ decimal r.id ∷ []) (omega arith) (keyword (codes "id") refl, (decimal_is_token r.id (omega arith), tt))))
          (inner_line_reads marked (n + 1 + 1) (codes "type" ∷ erasure_text r.erasure ∷ []) (omega arith) (keyword (codes "type") refl, (erasure_token r.erasure, tt))))
          (joined g gs))
          (line_reads marked last (codes "}" ∷ []) (omega arith) (closing, tt))) (omega arith)
          (ap (λ ws. word_at marked n (codes "rule") ∷ word_at marked n r.name ∷ word_at marked n (codes "{") ∷ word_at marked (n + 1) (codes "id") ∷ word_at marked (n + 1) (decimal r.id) ∷ word_at marked (n + 1 + 1) (codes "type") ∷ word_at marked (n + 1 + 1) (erasure_text r.erasure) ∷ ws)
          (append_assoc (step_words first) (flat_map step_words others) (word_at marked last (codes "}") ∷ []))),
    )

by_steps : (marked : Bool) (m : Map) (r : Rule) (ss : List Step) → 1 ≤ length ss → r.id ≤ RULE_ID_LIMIT → is_name r.name ≡ true → AllByRecursion (StepForm m) ss → (n : ℕ) →
    Spells late_words late_declares marked n (rule_lines m (record r { steps = ss })) (n + rule_height (record r { steps = ss })) (rule_declared m n (record r { steps = ss }))
by_steps marked m r [] some id name all n = absurd (omega arith)
by_steps marked m r (s ∷ ss) some id name all n = steps_spell marked m r s ss id name all.0 all.1 n

pub rule_spells : (marked : Bool) (m : Map) (r : Rule) → 1 ≤ length r.steps → IsWrittenRule m r → (n : ℕ) → Spells late_words late_declares marked n (rule_lines m r) (n + rule_height r) (rule_declared m n r)
rule_spells marked m r some form n = by_steps marked m r r.steps some form.id form.name form.steps n
