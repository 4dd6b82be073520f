-- A draft without a fault declares a map.
use Rattle.std.proofs.Common.{arith, ◌≡◌, ◌∙◌, ◌<◌, None, List, [], ◌∷◌, ◌++◌, ℕ, refl, sym, length, map, fold, nat_eq, Bool, not}
use Rattle.std.specs.List.{IsDistinct}
use Rattle.std.specs.Str.{bytes_eq}
use Rattle.std.specs.List.Sorted.{IsPermutation, IsNonDecreasingBy, IsNonDecreasing, IsStrictlyIncreasing}
use Rattle.std.proofs.lemmas.List.{append-nil, append_assoc, length-map, get_or-map}
use Rattle.std.proofs.lemmas.List.Sorted.{IsPermutation-map, IsPermutation-refl, IsPermutation-append_right, IsPermutation-trans}
use Rattle.std.proofs.lemmas.Map.Keys.{IsStrictlyIncreasing-from_distinct}
use Rattle.crush_map.specs.declared.fault.Element.TheVariants.{Types, Devices, Buckets, Rules, End}
use Rattle.crush_map.specs.declared.draft.TypeName.{TypeName}
use Rattle.crush_map.specs.declared.draft.Device.{Device}
use Rattle.crush_map.specs.declared.draft.Bucket.{Bucket}
use Rattle.crush_map.specs.declared.draft.Rule.{Rule}
use Rattle.crush_map.specs.declared.draft.MapDraft.{MapDraft}
use Rattle.crush_map.specs.Faults.{SymbolTable, nothing, first_in, type_fault, device_fault, bucket_fault, rule_fault, end_fault, with_type, with_device, with_bucket, with_rule, known_types, known_devices, known_buckets, known_rules, element_fault, first_fault, ◌when◌, has_number, are_in_range, end_checks}
use Rattle.crush_map.specs.declared.draft.Tunables.{Tunables}
use Rattle.crush_map.specs.declared.fault.FaultCode.TheVariants.{M4, M12}
use Rattle.crush_map.specs.Map.{Map, draft_of, IsMap, IsMapOf}
use Rattle.crush_map.proofs.Passing.{first_none, second_none, passes, fails}
use Rattle.crush_map.proofs.Alike.{Alike, alike_refl, device_alike, bucket_alike, rule_alike, end_alike, with_device_alike, with_bucket_alike, with_rule_alike, list_alike, fold_alike}
use Rattle.crush_map.proofs.Reordered.{not_placed, good, reordered}
use Rattle.crush_map.proofs.Numbered.{OwnType, OwnDevice, OwnRule, type_kind, device_kind, rule_kind}

-- ---- what is declared after whole lists

pub types_behind : (k : SymbolTable) (xs : List TypeName) → fold with_type k xs ≡ record k { types = k.types ++ map (λ t. t.number) xs; type_names = k.type_names ++ map (λ t. t.name) xs }
types_behind k [] = rw (append-nil k.types, append-nil k.type_names) refl
types_behind k (x ∷ xs) = types_behind (with_type k x) xs ∙ rw (append_assoc k.types (x.number ∷ []) (map (λ t. t.number) xs), append_assoc k.type_names (x.name ∷ []) (map (λ t. t.name) xs)) refl

abbrev pub with_devices : SymbolTable → List Device → SymbolTable
with_devices k xs = record k { items = record { devices = k.items.devices ++ map (λ d. d.id) xs; buckets = k.items.buckets }; item_names = k.item_names ++ map (λ d. d.name) xs }

pub devices_behind : (k : SymbolTable) (xs : List Device) → fold with_device k xs ≡ with_devices k xs
devices_behind k [] = rw (append-nil k.items.devices, append-nil k.item_names) refl
devices_behind k (x ∷ xs) = devices_behind (with_device k x) xs ∙ rw (append_assoc k.items.devices (x.id ∷ []) (map (λ d. d.id) xs), append_assoc k.item_names (x.name ∷ []) (map (λ d. d.name) xs)) refl

abbrev pub with_rules : SymbolTable → List Rule → SymbolTable
with_rules k xs = record k { rules = k.rules ++ map (λ r. r.id) xs; rule_names = k.rule_names ++ map (λ r. r.name) xs }

pub rules_behind : (k : SymbolTable) (xs : List Rule) → fold with_rule k xs ≡ with_rules k xs
rules_behind k [] = rw (append-nil k.rules, append-nil k.rule_names) refl
rules_behind k (x ∷ xs) = rules_behind (with_rule k x) xs ∙ rw (append_assoc k.rules (x.id ∷ []) (map (λ r. r.id) xs), append_assoc k.rule_names (x.name ∷ []) (map (λ r. r.name) xs)) refl

rules_behind_buckets : (k : SymbolTable) (xs : List Bucket) → (fold with_bucket k xs).rules ≡ k.rules
rules_behind_buckets k [] = refl
rules_behind_buckets k (x ∷ xs) = rules_behind_buckets (with_bucket k x) xs

names_behind_buckets : (k : SymbolTable) (xs : List Bucket) → (fold with_bucket k xs).rule_names ≡ k.rule_names
names_behind_buckets k [] = refl
names_behind_buckets k (x ∷ xs) = names_behind_buckets (with_bucket k x) xs

-- ---- in another order

joined : {X Y : Type 0} (zs : List Y) (f : X → Y) (xs ys : List X) → IsPermutation xs ys → IsPermutation (zs ++ map f xs) (zs ++ map f ys)
joined zs f xs ys p = IsPermutation-append_right zs (map f xs) (map f ys) (IsPermutation-map f xs ys p)

types_reordered : (k : SymbolTable) (xs ys : List TypeName) → IsPermutation xs ys → Alike (fold with_type k xs) (fold with_type k ys)
types_reordered k xs ys p = rw (types_behind k xs, types_behind k ys) (let r = alike_refl k in record {
  types = joined k.types (λ t. t.number) xs ys p;
  type_names = joined k.type_names (λ t. t.name) xs ys p;
  items = r.items;
  item_names = r.item_names;
  rules = r.rules;
  rule_names = r.rule_names;
})

devices_reordered : (k : SymbolTable) (xs ys : List Device) → IsPermutation xs ys → Alike (fold with_device k xs) (fold with_device k ys)
devices_reordered k xs ys p = rw (devices_behind k xs, devices_behind k ys) (let r = alike_refl k in record {
  items = record { devices = joined k.items.devices (λ d. d.id) xs ys p; buckets = IsPermutation-refl k.items.buckets };
  item_names = joined k.item_names (λ d. d.name) xs ys p;
  types = r.types;
  type_names = r.type_names;
  rules = r.rules;
  rule_names = r.rule_names;
})

rules_reordered : (k : SymbolTable) (xs ys : List Rule) → IsPermutation xs ys → Alike (fold with_rule k xs) (fold with_rule k ys)
rules_reordered k xs ys p = rw (rules_behind k xs, rules_behind k ys) (let r = alike_refl k in record {
  rules = joined k.rules (λ r. r.id) xs ys p;
  rule_names = joined k.rule_names (λ r. r.name) xs ys p;
  types = r.types;
  type_names = r.type_names;
  items = r.items;
  item_names = r.item_names;
})

alike_trans : (j k l : SymbolTable) → Alike j k → Alike k l → Alike j l
alike_trans j k l a b = record {
  types = IsPermutation-trans j.types k.types l.types a.types b.types;
  type_names = IsPermutation-trans j.type_names k.type_names l.type_names a.type_names b.type_names;
  items = record {
    devices = IsPermutation-trans j.items.devices k.items.devices l.items.devices a.items.devices b.items.devices;
    buckets = IsPermutation-trans j.items.buckets k.items.buckets l.items.buckets a.items.buckets b.items.buckets;
  };
  item_names = IsPermutation-trans j.item_names k.item_names l.item_names a.item_names b.item_names;
  rules = IsPermutation-trans j.rules k.rules l.rules a.rules b.rules;
  rule_names = IsPermutation-trans j.rule_names k.rule_names l.rule_names a.rule_names b.rule_names;
}

-- ---- order

pub none_distinct : {K : Type 0} (e : K → K → Bool) → IsDistinct e []
unfolding IsDistinct
none_distinct e = tt

mapped_order : {X : Type 0} (f : X → ℕ) (xs : List X) → IsNonDecreasingBy f xs → IsNonDecreasing (map f xs)
mapped_order f [] h = λ i j d le short. absurd (omega arith)
mapped_order f (x ∷ xs) h = λ i j d le short.
    let here : j < length (x ∷ xs) = simp length-map at short in
    rw (get_or-map f (x ∷ xs) i x d (omega arith), get_or-map f (x ∷ xs) j x d here) (h i j x le here)

-- ---- a whole draft

-- each part of a draft without a fault has none
pub record Faultless (d : MapDraft) : Type 0 where
  pub types : first_in Types type_fault with_type 0 nothing d.types ≡ None
  pub devices : first_in Devices device_fault with_device 0 (known_types d) d.devices ≡ None
  pub buckets : first_in Buckets bucket_fault with_bucket 0 (known_devices d) d.buckets ≡ None
  pub rules : first_in Rules rule_fault with_rule 0 (known_buckets d) d.rules ≡ None
  pub end : end_fault (known_rules d) d.tunables d.local_tries d.local_fallback_tries ≡ None

pub parts : (d : MapDraft) → first_fault d ≡ None → Faultless d
unfolding first_fault element_fault
parts d h =
    let elements = first_none _ _ h in
    let behind_types = second_none _ _ elements in
    let behind_devices = second_none _ _ behind_types in
    record {
      types = first_none _ _ elements;
      devices = first_none _ _ behind_types;
      buckets = first_none _ _ behind_devices;
      rules = second_none _ _ behind_devices;
      end = not_placed End 0 _ (second_none _ _ h);
    }

pub whole : (d : MapDraft) → Faultless d → first_fault d ≡ None
unfolding first_fault element_fault
whole d f = rw (f.types, f.devices, f.buckets, f.rules, f.end) refl

pub rules_before : (d : MapDraft) → (known_buckets d).rules ≡ []
rules_before d = rules_behind_buckets (known_devices d) d.buckets ∙ rw (devices_behind (known_types d) d.devices, types_behind nothing d.types) refl

pub rule_names_before : (d : MapDraft) → (known_buckets d).rule_names ≡ []
rule_names_before d = names_behind_buckets (known_devices d) d.buckets ∙ rw (devices_behind (known_types d) d.devices, types_behind nothing d.types) refl

pub ids_before : (d : MapDraft) → (known_types d).items.devices ≡ []
ids_before d = rw (types_behind nothing d.types) refl

pub names_before : (d : MapDraft) → (known_types d).item_names ≡ []
names_before d = rw (types_behind nothing d.types) refl

-- what is declared after the lists of a draft and of its map
record Behind (d e : MapDraft) : Type 0 where
  pub types : Alike (known_types d) (known_types e)
  pub devices : Alike (known_devices d) (known_devices e)
  pub buckets : Alike (known_buckets d) (known_buckets e)
  pub rules : Alike (known_rules d) (known_rules e)

behind : (d : MapDraft) (m : Map) → IsMapOf d m → Behind d (draft_of m)
behind d m is =
    let e = draft_of m in
    let types : Alike (known_types d) (known_types e) = types_reordered nothing d.types m.types is.types in
    let devices : Alike (known_devices d) (known_devices e) =
    alike_trans (known_devices d) (fold with_device (known_types d) m.devices) (known_devices e)
    (devices_reordered (known_types d) d.devices m.devices is.devices)
    (fold_alike with_device with_device_alike (known_types d) (known_types e) types m.devices) in
    let buckets : Alike (known_buckets d) (known_buckets e) =
    rw is.buckets (fold_alike with_bucket with_bucket_alike (known_devices d) (known_devices e) devices d.buckets) in
    record {
      types = types;
      devices = devices;
      buckets = buckets;
      rules = alike_trans (known_rules d) (fold with_rule (known_buckets d) m.rules) (known_rules e)
          (rules_reordered (known_buckets d) d.rules m.rules is.rules)
          (fold_alike with_rule with_rule_alike (known_buckets d) (known_buckets e) buckets m.rules);
    }

-- local tries of 0 aren't a fault
end_without : (k : SymbolTable) (t : Tunables) (m n : ℕ) → end_fault k t m n ≡ None → end_fault k t 0 0 ≡ None
unfolding end_fault
end_without k t m n h =
    rw (
      fails M4 _ (passes (end_checks k t m n) 0 (M4 when not (has_number k.types 0)) refl h),
      fails M12 _ (passes (end_checks k t m n) 1 (M12 when not (are_in_range t)) refl h),
    ) refl

stays : (d : MapDraft) (m : Map) → IsMapOf d m → Faultless d → Faultless (draft_of m)
stays d m is f =
    let e = draft_of m in
    let b = behind d m is in
    record {
      types = reordered type_fault with_type OwnType type_kind Types nothing d.types m.types is.types (none_distinct nat_eq) (none_distinct bytes_eq) f.types;
      devices =
          sym (list_alike Devices device_fault with_device device_alike with_device_alike 0 (known_types d) (known_types e) b.types m.devices)
          ∙ reordered device_fault with_device OwnDevice device_kind Devices (known_types d) d.devices m.devices is.devices
          (rw (ids_before d) (none_distinct nat_eq)) (rw (names_before d) (none_distinct bytes_eq)) f.devices;
      buckets =
          sym (list_alike Buckets bucket_fault with_bucket bucket_alike with_bucket_alike 0 (known_devices d) (known_devices e) b.devices m.buckets)
          ∙ rw is.buckets f.buckets;
      rules =
          sym (list_alike Rules rule_fault with_rule rule_alike with_rule_alike 0 (known_buckets d) (known_buckets e) b.buckets m.rules)
          ∙ reordered rule_fault with_rule OwnRule rule_kind Rules (known_buckets d) d.rules m.rules is.rules
          (rw (rules_before d) (none_distinct nat_eq)) (rw (rule_names_before d) (none_distinct bytes_eq)) f.rules;
      end = rw is.tunables (sym (end_alike (known_rules d) (known_rules e) b.rules d.tunables 0 0) ∙ end_without (known_rules d) d.tunables d.local_tries d.local_fallback_tries f.end);
    }

rises : (numbers : List ℕ) → IsNonDecreasing numbers → IsDistinct nat_eq numbers → IsStrictlyIncreasing numbers
rises numbers h apart = IsStrictlyIncreasing-from_distinct numbers h apart

-- a draft without a fault gives a valid map, once its types, devices and rules are sorted
pub is_map : (d : MapDraft) (m : Map) → IsMapOf d m → IsNonDecreasingBy (λ t. t.number) m.types → IsNonDecreasingBy (λ d. d.id) m.devices → IsNonDecreasingBy (λ r. r.id) m.rules →
    first_fault d ≡ None → IsMap m
is_map d m is types devices rules h =
    let e = draft_of m in
    let f = stays d m is (parts d h) in
    let t = good type_fault with_type OwnType type_kind Types 0 nothing m.types (none_distinct nat_eq) (none_distinct bytes_eq) f.types in
    let v = good device_fault with_device OwnDevice device_kind Devices 0 (known_types e) m.devices (rw (ids_before e) (none_distinct nat_eq)) (rw (names_before e) (none_distinct bytes_eq)) f.devices in
    let r = good rule_fault with_rule OwnRule rule_kind Rules 0 (known_buckets e) m.rules (rw (rules_before e) (none_distinct nat_eq)) (rw (rule_names_before e) (none_distinct bytes_eq)) f.rules in
    record {
      faultless = whole e f;
      types = rises (map (λ t. t.number) m.types) (mapped_order (λ t. t.number) m.types types) t.distinct_numbers;
      devices = rises (map (λ d. d.id) m.devices) (mapped_order (λ d. d.id) m.devices devices) (rw (ids_before e) at v.distinct_numbers);
      rules = rises (map (λ r. r.id) m.rules) (mapped_order (λ r. r.id) m.rules rules) (rw (rules_before e) at r.distinct_numbers);
    }
