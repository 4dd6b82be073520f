-- What is known of a map, as its text needs it.
use Rattle.std.proofs.Common.{◌≡◌, ◌∙◌, ℕ, ℤ, pos, negsuc, zero, suc, ◌<◌, ◌^◌, ◌==◌, ◌||◌, List, [], ◌∷◌, ◌++◌, map, take, Bool, true, false, refl, sym, ap, subst, arith, Option, Some, None, IfSome, slice_get}
use Rattle.std.proofs.lemmas.List.{append-nil}
use Rattle.std.proofs.lemmas.List.Sums.{sum_by-cons}
use Rattle.std.specs.Ordering.{int_eq}
use Rattle.std.specs.List.{list_any, AllByRecursion}
use Rattle.crush_map.specs.declared.draft.TypeName.{TypeName}
use Rattle.crush_map.specs.declared.draft.Device.{Device}
use Rattle.crush_map.specs.declared.draft.Bucket.{Bucket}
use Rattle.crush_map.specs.declared.draft.Rule.{Rule}
use Rattle.crush_map.specs.declared.draft.Step.{Step}
use Rattle.crush_map.specs.declared.draft.Step.TheVariants.{Take, SetChooseTries, SetLeafTries, SetVaryR, SetStable, Choose, Emit}
use Rattle.crush_map.specs.crush_types.specs.declared.ItemId.{ItemId}
use Rattle.crush_map.specs.crush_types.specs.declared.Weight.{Weight}
use Rattle.crush_map.specs.Faults.{is_name, is_reserved, are_in_range}
use Rattle.crush_map.specs.Map.{Map, draft_of}
use Rattle.crush_map.specs.Laws.{HasNoFault}
use Rattle.crush_map.specs.Sound.{IsEachOnce, IsTypeAt, IsDeviceAt, IsBucketAt, IsRuleAt, IsItemAt, IsStep, has_type, has_device, has_bucket, has_item, same_id}
use Rattle.crush_map.specs.crush_types.specs.Weights.{total_weight}
use Rattle.crush_map.specs.WeightText.{text_of, weight_of}
use Rattle.crush_writing.specs.Canonical.{type_name, device_name, bucket_name, item_name}
use Rattle.crush_text.proofs.Found.{any_named, first_name, holds_there}
use Rattle.crush_text.proofs.Names.{type_first, device_first, bucket_first, same_eq, any_also}
use Rattle.crush_text.proofs.Trees.{HasForm, IsWritten, IsWrittenRule, StepForm, all_mapped}
use Rattle.crush_text.proofs.Back.{bucket_id_within, count_within}

-- ---- what is known of a map

pub record Sound (m : Map) : Type 0 where
  pub types : (i : ℕ) → IfSome (slice_get m.types i) (IsTypeAt i)
  pub devices : (i : ℕ) → IfSome (slice_get m.devices i) (IsDeviceAt i)
  pub buckets : (i : ℕ) → IfSome (slice_get m.buckets i) (IsBucketAt m i)
  pub rules : (i : ℕ) → IfSome (slice_get m.rules i) (IsRuleAt m i)
  pub tunables : are_in_range m.tunables ≡ true
  pub type_names : IsEachOnce (map (λ t. t.name) m.types)
  pub item_names : IsEachOnce (map (λ d. d.name) m.devices ++ map (λ b. b.name) m.buckets)
  pub faultless : HasNoFault (draft_of m)
  pub weight_word : (w : Weight) → w.0 < 2 ^ 32 → is_name (text_of w) ≡ true
  pub weight_back : (w : Weight) → w.0 < 2 ^ 32 → weight_of (text_of w) ≡ Some w

-- ---- the names that are written have the form

-- the name of a type, and a fact on it that holds of all types
named_type : (P : List ℕ → Type 0) (m : Map) → ((i : ℕ) (t : TypeName) → slice_get m.types i ≡ Some t → P t.name) → (n : ℕ) → has_type m.types n ≡ true → P (type_name m.types n)
named_type P m each n has =
    let w = any_named (λ t. t.number == n) (λ t. t.name) m.types [] has in
    let name : type_name m.types n ≡ w.element.name = type_first m.types n ∙ (ap (first_name (λ t. t.number == n) (λ t. t.name)) (sym (append-nil m.types)) ∙ w.is) in
    subst P (sym name) (each w.place w.element w.at)

pub type_form : (m : Map) → Sound m → (n : ℕ) → has_type m.types n ≡ true → is_name (type_name m.types n) ≡ true
type_form m s n has = named_type (λ name. is_name name ≡ true) m (λ i t at. (holds_there (IsTypeAt i) (slice_get m.types i) t at (s.types i)).name) n has

pub type_free : (m : Map) → Sound m → (n : ℕ) → has_type m.types n ≡ true → is_reserved (type_name m.types n) ≡ false
type_free m s n has = named_type (λ name. is_reserved name ≡ false) m (λ i t at. (holds_there (IsTypeAt i) (slice_get m.types i) t at (s.types i)).not_reserved) n has

device_form : (m : Map) → Sound m → (id : ℕ) → has_device m.devices id ≡ true → is_name (device_name m.devices id) ≡ true
device_form m s id has =
    let w = any_named (λ d. d.id == id) (λ d. d.name) m.devices [] has in
    let name : device_name m.devices id ≡ w.element.name = device_first m.devices id ∙ (ap (first_name (λ d. d.id == id) (λ d. d.name)) (sym (append-nil m.devices)) ∙ w.is) in
    ap is_name name ∙ (holds_there (IsDeviceAt w.place) (slice_get m.devices w.place) w.element w.at (s.devices w.place)).name

bucket_form : (m : Map) → Sound m → (id : ℤ) → has_bucket m.buckets id ≡ true → is_name (bucket_name m.buckets id) ≡ true
bucket_form m s id has =
    let test = λ (b : Bucket). int_eq b.id.0 id in
    let w = any_named test (λ b. b.name) m.buckets [] (any_also (λ b. same_id b.id.0 id) test m.buckets (λ b. same_eq b.id.0 id) has) in
    let name : bucket_name m.buckets id ≡ w.element.name = bucket_first m.buckets id ∙ (ap (first_name test (λ b. b.name)) (sym (append-nil m.buckets)) ∙ w.is) in
    ap is_name name ∙ (holds_there (IsBucketAt m w.place) (slice_get m.buckets w.place) w.element w.at (s.buckets w.place)).name

pub item_form : (m : Map) → Sound m → (id : ℤ) → has_item m.devices m.buckets id ≡ true → is_name (item_name m id) ≡ true
item_form m s (pos n) has = device_form m s n has
item_form m s (negsuc n) has = bucket_form m s (negsuc n) has

-- ---- each of a list

pub all_by : {X : Type 0} (P : X → Type 0) (xs : List X) → ((j : ℕ) → IfSome (slice_get xs j) P) → AllByRecursion P xs
all_by P [] h = tt
all_by P (x ∷ xs) h = (h 0, all_by P xs (λ j. h (suc j)))

pub all_both : {X : Type 0} (P Q R : X → Type 0) (xs : List X) → ((x : X) → P x → Q x → R x) → AllByRecursion P xs → AllByRecursion Q xs → AllByRecursion R xs
all_both P Q R [] h ps qs = tt
all_both P Q R (x ∷ xs) h ps qs = (h x ps.0 qs.0, all_both P Q R xs h ps.1 qs.1)

light : (xs : List (ItemId × Weight)) → total_weight xs < 2 ^ 32 → AllByRecursion (λ x. x.1.0 < 2 ^ 32) xs
light [] h = tt
light (x ∷ xs) h =
    let sum = sum_by-cons (λ (y : ItemId × Weight). y.1.0) x xs in
    (omega (arith, sum), light xs (omega (arith, sum)))

declared_if : (m : Map) (i j : ℕ) (items : List (ItemId × Weight)) (o : Option (ItemId × Weight)) → IfSome o (λ x. IsItemAt m i j items x.0.0) → IfSome o (λ x. has_item m.devices (take i m.buckets) x.0.0 ≡ true)
declared_if m i j items None h = tt
declared_if m i j items (Some x) h = h.declared

-- the items of a bucket, behind the buckets before it
pub items_declared : (m : Map) (i : ℕ) (b : Bucket) → IsBucketAt m i b → AllByRecursion (λ x. has_item m.devices (take i m.buckets) x.0.0 ≡ true) b.items
items_declared m i b is = all_by (λ x. has_item m.devices (take i m.buckets) x.0.0 ≡ true) b.items (λ j. declared_if m i j b.items (slice_get b.items j) (is.items j))

first_or : (a b c : Bool) → (b ≡ true → c ≡ true) → (a || b) ≡ true → (a || c) ≡ true
first_or true b c h k = refl
first_or false b c h k = h k

any_taken : {X : Type 0} (p : X → Bool) (i : ℕ) (xs : List X) → list_any p (take i xs) ≡ true → list_any p xs ≡ true
any_taken p zero xs h = cc
any_taken p (suc i) [] h = cc
any_taken p (suc i) (x ∷ xs) h = first_or (p x) (list_any p (take i xs)) (list_any p xs) (any_taken p i xs) h

has_more : (devices : List Device) (buckets : List Bucket) (i : ℕ) (id : ℤ) → has_item devices (take i buckets) id ≡ true → has_item devices buckets id ≡ true
has_more devices buckets i (pos n) h = h
has_more devices buckets i (negsuc n) h = any_taken (λ b. same_id b.id.0 (negsuc n)) i buckets h

item_has_form : (m : Map) → Sound m → (i : ℕ) (x : ItemId × Weight) → has_item m.devices (take i m.buckets) x.0.0 ≡ true → x.1.0 < 2 ^ 32 → HasForm m x
item_has_form m s i x has small = record {
  name = item_form m s x.0.0 (has_more m.devices m.buckets i x.0.0 has);
  word = s.weight_word x.1 small;
  back = s.weight_back x.1 small;
}

pub bucket_is_written : (m : Map) → Sound m → (i : ℕ) (b : Bucket) → IsBucketAt m i b → IsWritten m b
bucket_is_written m s i b is = record {
  type_form = type_form m s b.kind_of is.typed;
  type_free = type_free m s b.kind_of is.typed;
  name = is.name;
  id = bucket_id_within b.id.0 is.id;
  items = all_both (λ x. has_item m.devices (take i m.buckets) x.0.0 ≡ true) (λ x. x.1.0 < 2 ^ 32) (HasForm m) b.items (item_has_form m s i) (items_declared m i b is) (light b.items is.light);
}

step_form : (m : Map) → Sound m → (x : Step) → IsStep m x → StepForm m x
step_form m s (Take id) is = item_form m s id.0 is
step_form m s (SetChooseTries n) is = is
step_form m s (SetLeafTries n) is = is
step_form m s (SetVaryR n) is = omega arith
step_form m s (SetStable n) is = omega arith
step_form m s (Choose firstn leaf n wanted) is = (count_within n is.count, type_form m s wanted is.typed)
step_form m s Emit is = tt

pub rule_is_written : (m : Map) → Sound m → (i : ℕ) (r : Rule) → IsRuleAt m i r → IsWrittenRule m r
rule_is_written m s i r is = record { id = is.id; name = is.name; steps = all_mapped (IsStep m) (StepForm m) r.steps (step_form m s) (all_by (IsStep m) r.steps is.steps) }
