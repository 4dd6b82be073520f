-- Canonical texts are ASCII.
use Rattle.std.proofs.Common.{◌≡◌, ℕ, ℤ, pos, negsuc, suc, ◌<◌, ◌≤◌, ◌&&◌, nat_le, List, [], ◌∷◌, ◌++◌, length, Bool, true, false, refl, arith, codes, Option, Some, None, IfSome, slice_get, if◌then◌else◌}
use Rattle.std.proofs.lemmas.Bool.Decides.{nat_tests}
use Rattle.std.proofs.lemmas.Fmt.{IsAscii-decimal}
use Rattle.std.proofs.lemmas.Str.{IsAscii-append, IsUtf8-from_ascii}
use Rattle.std.proofs.lemmas.Str.Ascii.{IsAscii-nil, IsAscii-cons}
use Rattle.std.specs.Char.{is_ascii}
use Rattle.std.specs.Fmt.{decimal, signed_decimal}
use Rattle.std.specs.List.{flat_map, list_all, AllByRecursion}
use Rattle.std.specs.Str.{IsAscii, IsUtf8}
use Rattle.crush_map.specs.declared.limits.TheConstants.{NAME_LIMIT, NUMBER_LIMIT}
use Rattle.crush_map.specs.crush_types.specs.declared.limits.TheConstants.{ID_COUNT}
use Rattle.crush_map.specs.declared.draft.TypeName.{TypeName}
use Rattle.crush_map.specs.declared.draft.Device.{Device}
use Rattle.crush_map.specs.declared.draft.Bucket.{Bucket}
use Rattle.crush_map.specs.declared.draft.Rule.{Rule}
use Rattle.crush_map.specs.declared.draft.Step.{Step}
use Rattle.crush_map.specs.declared.draft.Step.TheVariants.{Take, SetChooseTries, SetLeafTries, SetVaryR, SetStable, Choose, Emit}
use Rattle.crush_map.specs.declared.draft.Tunables.{Tunables}
use Rattle.crush_map.specs.crush_types.specs.declared.ItemId.{ItemId}
use Rattle.crush_map.specs.crush_types.specs.declared.Weight.{Weight}
use Rattle.crush_map.specs.crush_types.specs.declared.Kind.{Kind}
use Rattle.crush_map.specs.crush_types.specs.declared.Kind.TheVariants.{Uniform, List as ListKind, Tree, Straw2}
use Rattle.crush_map.specs.crush_types.specs.Kinds.{kind_name}
use Rattle.crush_map.specs.Mark.{straw2_mark}
use Rattle.crush_map.specs.Faults.{is_name, is_name_byte}
use Rattle.crush_map.specs.Map.{Map}
use Rattle.crush_map.specs.Sound.{IsTypeAt, IsDeviceAt, IsBucketAt, IsRuleAt}
use Rattle.crush_map.specs.WeightText.{text_of}
use Rattle.crush_writing.specs.Canonical.{line, inner_line, type_name, item_name, tunable_line, tunable_lines, device_line, type_line, item_line, bucket_lines, choose_text, firstn_text, step_line, erasure_text, rule_lines, has_straw2, mark_line, canonical}
use Rattle.crush_text.proofs.Spelt.{both}
use Rattle.crush_text.proofs.Numerals.{IsWithin}
use Rattle.crush_text.proofs.Trees.{HasForm, IsWritten, StepForm, IsWrittenRule, all_mapped}
use Rattle.crush_text.proofs.SoundMap.{Sound, all_by, bucket_is_written, rule_is_written}
use Rattle.crush_text.proofs.Back.{wider}
use Rattle.crush_text.proofs.Judged.{ranges}

-- ---- words

is_small : (b : ℕ) → is_ascii b ≡ true → b < 128
is_small b h = grind (arith, nat_tests)

-- bytes that compute
fixed : (bytes : List ℕ) → list_all is_ascii bytes ≡ true → IsAscii bytes
fixed [] h = IsAscii-nil
fixed (b ∷ bytes) h = let e = both (is_ascii b) (list_all is_ascii bytes) h in IsAscii-cons b bytes (is_small b e.0) (fixed bytes e.1)

in_name_small : (b : ℕ) → is_name_byte b ≡ true → b < 128
in_name_small b h = grind (arith, nat_tests)

in_name : (bytes : List ℕ) → list_all is_name_byte bytes ≡ true → IsAscii bytes
in_name [] h = IsAscii-nil
in_name (b ∷ bytes) h = let e = both (is_name_byte b) (list_all is_name_byte bytes) h in IsAscii-cons b bytes (in_name_small b e.0) (in_name bytes e.1)

name : (t : List ℕ) → is_name t ≡ true → IsAscii t
name t h = in_name t (both (nat_le 1 (length t) && nat_le (length t) NAME_LIMIT) (list_all is_name_byte t) h).1

number : (n : ℕ) → n ≤ ID_COUNT → IsAscii (decimal n)
number n h = IsAscii-decimal n (omega arith)

integer : (z : ℤ) → IsWithin ID_COUNT z → IsAscii (signed_decimal z)
integer (pos n) h = number n h
integer (negsuc n) h = IsAscii-cons 45 (decimal (suc n)) (omega arith) (number (suc n) h)

-- ---- lines

each : {X : Type 0} (f : X → List ℕ) (xs : List X) → AllByRecursion (λ x. IsAscii (f x)) xs → IsAscii (flat_map f xs)
each f [] all = IsAscii-nil
each f (x ∷ xs) all = IsAscii-append (f x) (flat_map f xs) all.0 (each f xs all.1)

abbrev spaces : List (List ℕ) → List ℕ
spaces ts = flat_map (λ other. 32 ∷ other) ts

others : (ts : List (List ℕ)) → AllByRecursion IsAscii ts → IsAscii (spaces ts)
others ts all = each (λ other. 32 ∷ other) ts (all_mapped IsAscii (λ t. IsAscii (32 ∷ t)) ts (λ t h. IsAscii-cons 32 t (omega arith) h) all)

of_line : (ts : List (List ℕ)) → AllByRecursion IsAscii ts → IsAscii (line ts)
of_line [] all = fixed (10 ∷ []) refl
of_line (t ∷ ts) all = IsAscii-append (t ++ spaces ts) (10 ∷ []) (IsAscii-append t (spaces ts) all.0 (others ts all.1)) (fixed (10 ∷ []) refl)

of_inner_line : (ts : List (List ℕ)) → AllByRecursion IsAscii ts → IsAscii (inner_line ts)
of_inner_line ts all = IsAscii-cons 9 (line ts) (omega arith) (of_line ts all)

-- ---- elements

of_tunable : (text : List ℕ) (value : ℕ) → list_all is_ascii text ≡ true → value ≤ ID_COUNT → IsAscii (tunable_line text value)
unfolding tunable_line
of_tunable text value h k = of_line (codes "tunable" ∷ text ∷ decimal value ∷ []) (fixed (codes "tunable") refl, (fixed text h, (number value k, tt)))

of_tunables : (t : Tunables) → t.total_tries ≤ ID_COUNT → t.descend_once ≤ ID_COUNT → t.vary_r ≤ ID_COUNT → t.stable ≤ ID_COUNT → IsAscii (tunable_lines t)
unfolding tunable_lines
of_tunables t a b c d =
    let one = of_tunable (codes "choose_local_tries") 0 refl (omega arith) in
    let two = of_tunable (codes "choose_local_fallback_tries") 0 refl (omega arith) in
    let three = of_tunable (codes "choose_total_tries") t.total_tries refl a in
    let four = of_tunable (codes "chooseleaf_descend_once") t.descend_once refl b in
    let five = of_tunable (codes "chooseleaf_vary_r") t.vary_r refl c in
    let six = of_tunable (codes "chooseleaf_stable") t.stable refl d in
    IsAscii-append _ _ (IsAscii-append _ _ (IsAscii-append _ _ (IsAscii-append _ _ (IsAscii-append _ _ one two) three) four) five) six

of_device : (d : Device) → d.id ≤ NUMBER_LIMIT → is_name d.name ≡ true → IsAscii (device_line d)
unfolding device_line
of_device d small form = of_line (codes "device" ∷ decimal d.id ∷ d.name ∷ []) (fixed (codes "device") refl, (number d.id (omega arith), (name d.name form, tt)))

of_type : (t : TypeName) → t.number ≤ NUMBER_LIMIT → is_name t.name ≡ true → IsAscii (type_line t)
unfolding type_line
of_type t small form = of_line (codes "type" ∷ decimal t.number ∷ t.name ∷ []) (fixed (codes "type") refl, (number t.number (omega arith), (name t.name form, tt)))

of_item : (m : Map) (x : ItemId × Weight) → HasForm m x → IsAscii (item_line m x)
unfolding item_line
of_item m x form =
    of_inner_line (codes "item" ∷ item_name m x.0.0 ∷ codes "weight" ∷ text_of x.1 ∷ [])
    (fixed (codes "item") refl, (name (item_name m x.0.0) form.name, (fixed (codes "weight") refl, (name (text_of x.1) form.word, tt))))

of_alg : (a : Kind) → IsAscii (kind_name a)
of_alg Uniform = fixed (codes "uniform") refl
of_alg ListKind = fixed (codes "list") refl
of_alg Tree = fixed (codes "tree") refl
of_alg Straw2 = fixed (codes "straw2") refl

of_bucket : (m : Map) (b : Bucket) → IsWritten m b → IsAscii (bucket_lines m b)
unfolding bucket_lines
of_bucket m b form =
    let kind = type_name m.types b.kind_of in
    let head = of_line (kind ∷ b.name ∷ codes "{" ∷ []) (name kind form.type_form, (name b.name form.name, (fixed (codes "{") refl, tt))) in
    let id = of_inner_line (codes "id" ∷ signed_decimal b.id.0 ∷ []) (fixed (codes "id") refl, (integer b.id.0 form.id, tt)) in
    let alg = of_inner_line (codes "alg" ∷ kind_name b.alg ∷ []) (fixed (codes "alg") refl, (of_alg b.alg, tt)) in
    let hash = of_inner_line (codes "hash" ∷ codes "0" ∷ []) (fixed (codes "hash") refl, (fixed (codes "0") refl, tt)) in
    let items = each (item_line m) b.items (all_mapped (HasForm m) (λ x. IsAscii (item_line m x)) b.items (of_item m) form.items) in
    let closing = of_line (codes "}" ∷ []) (fixed (codes "}") refl, tt) in
    IsAscii-append _ _ (IsAscii-append _ _ (IsAscii-append _ _ (IsAscii-append _ _ (IsAscii-append _ _ head id) alg) hash) items) closing

of_firstn : (firstn : Bool) → IsAscii (firstn_text firstn)
of_firstn true = fixed (codes "firstn") refl
of_firstn false = fixed (codes "indep") refl

of_choose : (leaf : Bool) → IsAscii (choose_text leaf)
of_choose true = fixed (codes "chooseleaf") refl
of_choose false = fixed (codes "choose") refl

of_step : (m : Map) (s : Step) → StepForm m s → IsAscii (step_line m s)
unfolding step_line
of_step m (Take id) form = of_inner_line (codes "step" ∷ codes "take" ∷ item_name m id.0 ∷ []) (fixed (codes "step") refl, (fixed (codes "take") refl, (name (item_name m id.0) form, tt)))
of_step m (SetChooseTries tries) form = of_inner_line (codes "step" ∷ codes "set_choose_tries" ∷ decimal tries ∷ []) (fixed (codes "step") refl, (fixed (codes "set_choose_tries") refl, (number tries (omega arith), tt)))
of_step m (SetLeafTries tries) form = of_inner_line (codes "step" ∷ codes "set_chooseleaf_tries" ∷ decimal tries ∷ []) (fixed (codes "step") refl, (fixed (codes "set_chooseleaf_tries") refl, (number tries (omega arith), tt)))
of_step m (SetVaryR value) form = of_inner_line (codes "step" ∷ codes "set_chooseleaf_vary_r" ∷ decimal value ∷ []) (fixed (codes "step") refl, (fixed (codes "set_chooseleaf_vary_r") refl, (number value (omega arith), tt)))
of_step m (SetStable value) form = of_inner_line (codes "step" ∷ codes "set_chooseleaf_stable" ∷ decimal value ∷ []) (fixed (codes "step") refl, (fixed (codes "set_chooseleaf_stable") refl, (number value (omega arith), tt)))
of_step m (Choose firstn leaf n wanted) form =
    of_inner_line (codes "step" ∷ choose_text leaf ∷ firstn_text firstn ∷ signed_decimal n ∷ codes "type" ∷ type_name m.types wanted ∷ [])
    (fixed (codes "step") refl, (of_choose leaf, (of_firstn firstn, (integer n (wider n form.0), (fixed (codes "type") refl, (name (type_name m.types wanted) form.1, tt))))))
of_step m Emit form = of_inner_line (codes "step" ∷ codes "emit" ∷ []) (fixed (codes "step") refl, (fixed (codes "emit") refl, tt))

of_erasure : (erasure : Bool) → IsAscii (erasure_text erasure)
of_erasure true = fixed (codes "erasure") refl
of_erasure false = fixed (codes "replicated") refl

five : (a b c d e : List ℕ) → IsAscii a → IsAscii b → IsAscii c → IsAscii d → IsAscii e → IsAscii (a ++ b ++ c ++ d ++ e)
five a b c d e h i j k l = IsAscii-append (a ++ b ++ c ++ d) e (IsAscii-append (a ++ b ++ c) d (IsAscii-append (a ++ b) c (IsAscii-append a b h i) j) k) l

of_rule : (m : Map) (r : Rule) → IsWrittenRule m r → IsAscii (rule_lines m r)
unfolding rule_lines
of_rule m r form =
    let low = form.id in
    five (line (codes "rule" ∷ r.name ∷ codes "{" ∷ [])) (inner_line (codes "id" ∷ decimal r.id ∷ [])) (inner_line (codes "type" ∷ erasure_text r.erasure ∷ [])) (flat_map (step_line m) r.steps) (line (codes "}" ∷ []))
    (of_line (codes "rule" ∷ r.name ∷ codes "{" ∷ []) (fixed (codes "rule") refl, (name r.name form.name, (fixed (codes "{") refl, tt))))
    (of_inner_line (codes "id" ∷ decimal r.id ∷ []) (fixed (codes "id") refl, (number r.id (omega arith), tt)))
    (of_inner_line (codes "type" ∷ erasure_text r.erasure ∷ []) (fixed (codes "type") refl, (of_erasure r.erasure, tt)))
    (each (step_line m) r.steps (all_mapped (StepForm m) (λ s. IsAscii (step_line m s)) r.steps (of_step m) form.steps))
    (of_line (codes "}" ∷ []) (fixed (codes "}") refl, tt))

-- ---- the whole text

if_mapped : {X : Type 0} (P Q : X → Type 0) (o : Option X) → ((x : X) → P x → Q x) → IfSome o P → IfSome o Q
if_mapped P Q None h p = tt
if_mapped P Q (Some x) h p = h x p

of_each : {X : Type 0} (P : ℕ → X → Type 0) (f : X → List ℕ) (xs : List X) → ((i : ℕ) (x : X) → P i x → IsAscii (f x)) → ((i : ℕ) → IfSome (slice_get xs i) (P i)) → IsAscii (flat_map f xs)
of_each P f xs h at = each f xs (all_by (λ x. IsAscii (f x)) xs (λ i. if_mapped (P i) (λ x. IsAscii (f x)) (slice_get xs i) (h i) (at i)))

eleven : (a b c d e f g h i j k : List ℕ) → IsAscii a → IsAscii b → IsAscii c → IsAscii d → IsAscii e → IsAscii f → IsAscii g → IsAscii h → IsAscii i → IsAscii j → IsAscii k →
    IsAscii (a ++ b ++ c ++ d ++ e ++ f ++ g ++ h ++ i ++ j ++ k)
eleven a b c d e f g h i j k p q r s t u v w x y z =
    let front = five a b c d e p q r s t in
    let more = IsAscii-append (a ++ b ++ c ++ d ++ e ++ f) g (IsAscii-append (a ++ b ++ c ++ d ++ e) f front u) v in
    let most = IsAscii-append (a ++ b ++ c ++ d ++ e ++ f ++ g ++ h) i (IsAscii-append (a ++ b ++ c ++ d ++ e ++ f ++ g) h more w) x in
    IsAscii-append (a ++ b ++ c ++ d ++ e ++ f ++ g ++ h ++ i ++ j) k (IsAscii-append (a ++ b ++ c ++ d ++ e ++ f ++ g ++ h ++ i) j most y) z

of_mark_by : (marked : Bool) → IsAscii (if marked then line (straw2_mark ∷ []) else [])
of_mark_by true = of_line (straw2_mark ∷ []) (fixed straw2_mark refl, tt)
of_mark_by false = IsAscii-nil

of_mark : (m : Map) → IsAscii (mark_line m)
unfolding mark_line
of_mark m = of_mark_by (has_straw2 m)

pub ascii : (m : Map) → Sound m → IsAscii (canonical m)
unfolding canonical
ascii m s =
    let r = ranges m.tunables s.tunables in
    eleven (mark_line m ++ codes "# begin crush map\n") (tunable_lines m.tunables) (codes "\n# devices\n") (flat_map device_line m.devices) (codes "\n# types\n") (flat_map type_line m.types)
    (codes "\n# buckets\n") (flat_map (bucket_lines m) m.buckets) (codes "\n# rules\n") (flat_map (rule_lines m) m.rules) (codes "\n# end crush map\n")
    (IsAscii-append (mark_line m) (codes "# begin crush map\n") (of_mark m) (fixed (codes "# begin crush map\n") refl))
    (of_tunables m.tunables (let low = r.total_tries in omega arith) (let low = r.descend_once in omega arith) (let low = r.vary_r in omega arith) (let low = r.stable in omega arith))
    (fixed (codes "\n# devices\n") refl)
    (of_each IsDeviceAt device_line m.devices (λ i d is. of_device d is.id is.name) s.devices)
    (fixed (codes "\n# types\n") refl)
    (of_each IsTypeAt type_line m.types (λ i t is. of_type t is.number is.name) s.types)
    (fixed (codes "\n# buckets\n") refl)
    (of_each (IsBucketAt m) (bucket_lines m) m.buckets (λ i b is. of_bucket m b (bucket_is_written m s i b is)) s.buckets)
    (fixed (codes "\n# rules\n") refl)
    (of_each (IsRuleAt m) (rule_lines m) m.rules (λ i x is. of_rule m x (rule_is_written m s i x is)) s.rules)
    (fixed (codes "\n# end crush map\n") refl)

pub utf8 : (m : Map) → Sound m → IsUtf8 (canonical m)
utf8 m s = IsUtf8-from_ascii (canonical m) (ascii m s)
