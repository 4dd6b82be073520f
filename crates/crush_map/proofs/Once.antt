-- No number and no name occurs twice in a map.
use Rattle.std.proofs.Common.{◌≡◌, ◌∙◌, ◌+◌, not, Bool, true, false, Some, None, List, [], ◌∷◌, ◌++◌, ℕ, zero, suc, ℤ, pos, negsuc, refl, sym, ap, map, slice_get, option_map, nat_eq}
use Rattle.std.specs.List.{list_any, AllByRecursion, IsDistinct}
use Rattle.std.specs.Str.{bytes_eq}
use Rattle.std.proofs.lemmas.Cmp.{nat_eq_equiv, nat_list_eq_equiv}
use Rattle.std.proofs.lemmas.List.{append-nil, append_assoc}
use Rattle.std.proofs.lemmas.Map.Keys.{IsDistinct-head, IsDistinct-tail}
use Rattle.std.proofs.lemmas.Option.{slice_get-map}
use Rattle.std.proofs.lemmas.Simd.{map-map}
use Rattle.crush_map.specs.declared.fault.FaultCode.TheVariants.{M2, M3, M12}
use Rattle.crush_map.specs.declared.fault.Element.TheVariants.{Types, Devices, Buckets, Rules}
use Rattle.crush_map.specs.declared.draft.Bucket.{Bucket}
use Rattle.crush_map.specs.declared.limits.TheConstants.{TYPE_LIMIT, DEVICE_LIMIT, RULE_LIMIT}
use Rattle.crush_map.specs.Faults.{SymbolTable, Ids, nothing, ◌when◌, has_id, with_id, has_name, is_bucket_id, bucket_checks, first_in, at_place, type_fault, device_fault, bucket_fault, rule_fault, with_type, with_device, with_bucket, with_rule, known_types, known_devices, known_buckets}
use Rattle.crush_map.specs.Map.{Map, draft_of, IsMap}
use Rattle.crush_map.specs.Sound.{IsEachOnce}
use Rattle.crush_map.proofs.Apart.{distinct_push}
use Rattle.crush_map.proofs.Passing.{first_none, second_none, passes, fails}
use Rattle.crush_map.proofs.Reordered.{not_placed, good, Good}
use Rattle.crush_map.proofs.Numbered.{OwnType, OwnDevice, OwnRule, type_kind, device_kind, rule_kind}
use Rattle.crush_map.proofs.Valid.{parts, none_distinct, types_behind, devices_behind, ids_before, names_before, rules_before, rule_names_before}
use Rattle.crush_map.proofs.Sound.{is_so, no_buckets}

-- ---- lists

some_is : {X : Type 0} (x y : X) → Some x ≡ Some y → x ≡ y
some_is x y h = cc

-- an element that differs from all after it is none of them
differs : {K : Type 0} (e : K → K → Bool) (y : K) (ys : List K) → AllByRecursion (λ z. e y z ≡ false) ys → (x : K) (j : ℕ) → slice_get ys j ≡ Some x → e y x ≡ false
differs e y [] h x j at = cc
differs e y (z ∷ ys) h x zero at = ap (e y) (sym (some_is z x at)) ∙ h.0
differs e y (z ∷ ys) h x (suc j) at = differs e y ys h.1 x j at

-- the first element doesn't occur again
not_again : {K : Type 0} (e : K → K → Bool) → ((x : K) → e x x ≡ true) → (y : K) (ys : List K) → IsDistinct e (y ∷ ys) → (x : K) (j : ℕ) → Some y ≡ Some x → slice_get ys j ≡ Some x → ⊥
not_again e same y ys h x j first at =
    let other : e y x ≡ false = differs e y ys (IsDistinct-head e y ys h) x j at in
    let equal : e y x ≡ true = ap (λ z. e z x) (some_is y x first) ∙ same x in
    cc

once : {K : Type 0} (e : K → K → Bool) → ((x : K) → e x x ≡ true) → (xs : List K) → IsDistinct e xs → IsEachOnce xs
once e same [] h x i j a b = cc
once e same (y ∷ ys) h x zero zero a b = refl
once e same (y ∷ ys) h x zero (suc j) a b = absurd (not_again e same y ys h x j a b)
once e same (y ∷ ys) h x (suc i) zero a b = absurd (not_again e same y ys h x i b a)
once e same (y ∷ ys) h x (suc i) (suc j) a b = ap (λ n. suc n) (once e same ys (IsDistinct-tail e y ys h) x i j a b)

numbers_once : (xs : List ℕ) → IsDistinct nat_eq xs → IsEachOnce xs
numbers_once = once nat_eq nat_eq_equiv.refl

names_once : (xs : List (List ℕ)) → IsDistinct bytes_eq xs → IsEachOnce xs
names_once = once bytes_eq nat_list_eq_equiv.refl

-- a function of an element is at the element's place
image_at : {X Y K : Type 0} (f : Y → K) (g : X → Y) (xs : List X) (y : Y) (i : ℕ) → slice_get (map g xs) i ≡ Some y → slice_get (map (λ x. f (g x)) xs) i ≡ Some (f y)
image_at f g xs y i at = sym (ap (λ l. slice_get l i) (map-map f g xs)) ∙ (slice_get-map f (map g xs) i ∙ ap (option_map f) at)

-- elements differ if a function of them does
once_by : {X Y K : Type 0} (f : Y → K) (g : X → Y) (xs : List X) → IsEachOnce (map (λ x. f (g x)) xs) → IsEachOnce (map g xs)
once_by f g xs h y i j a b = h (f y) i j (image_at f g xs y i a) (image_at f g xs y j b)

-- ---- types, devices and rules

types_good : (m : Map) → IsMap m → Good OwnType TYPE_LIMIT (λ t. t.number) (λ t. t.name) [] [] nothing m.types
types_good m is = good type_fault with_type OwnType type_kind Types 0 nothing m.types (none_distinct nat_eq) (none_distinct bytes_eq) (parts (draft_of m) is.faultless).types

devices_good : (m : Map) → IsMap m → Good OwnDevice DEVICE_LIMIT (λ d. d.id) (λ d. d.name) (known_types (draft_of m)).items.devices (known_types (draft_of m)).item_names (known_types (draft_of m)) m.devices
devices_good m is =
    let d = draft_of m in
    good device_fault with_device OwnDevice device_kind Devices 0 (known_types d) m.devices (rw (ids_before d) (none_distinct nat_eq)) (rw (names_before d) (none_distinct bytes_eq)) (parts d is.faultless).devices

rules_good : (m : Map) → IsMap m → Good OwnRule RULE_LIMIT (λ r. r.id) (λ r. r.name) (known_buckets (draft_of m)).rules (known_buckets (draft_of m)).rule_names (known_buckets (draft_of m)) m.rules
rules_good m is =
    let d = draft_of m in
    good rule_fault with_rule OwnRule rule_kind Rules 0 (known_buckets d) m.rules (rw (rules_before d) (none_distinct nat_eq)) (rw (rule_names_before d) (none_distinct bytes_eq)) (parts d is.faultless).rules

pub type_numbers_once : (m : Map) → IsMap m → IsEachOnce (map (λ t. t.number) m.types)
type_numbers_once m is = numbers_once (map (λ t. t.number) m.types) (types_good m is).distinct_numbers

pub type_names_once : (m : Map) → IsMap m → IsEachOnce (map (λ t. t.name) m.types)
type_names_once m is = names_once (map (λ t. t.name) m.types) (types_good m is).distinct_names

pub device_ids_once : (m : Map) → IsMap m → IsEachOnce (map (λ d. d.id) m.devices)
device_ids_once m is = numbers_once (map (λ d. d.id) m.devices) (rw (ids_before (draft_of m)) at (devices_good m is).distinct_numbers)

pub rule_ids_once : (m : Map) → IsMap m → IsEachOnce (map (λ r. r.id) m.rules)
rule_ids_once m is = numbers_once (map (λ r. r.id) m.rules) (rw (rules_before (draft_of m)) at (rules_good m is).distinct_numbers)

pub rule_names_once : (m : Map) → IsMap m → IsEachOnce (map (λ r. r.name) m.rules)
rule_names_once m is = names_once (map (λ r. r.name) m.rules) (rw (rule_names_before (draft_of m)) at (rules_good m is).distinct_names)

-- ---- buckets

-- keys of declared buckets differ, if each new key is none of the earlier ones
keys_apart : {K : Type 0} (e : K → K → Bool) (keys : SymbolTable → List K) (key : Bucket → K) →
    ((k : SymbolTable) (b : Bucket) → bucket_fault k b ≡ None → keys (with_bucket k b) ≡ keys k ++ key b ∷ []) →
    ((k : SymbolTable) (b : Bucket) → bucket_fault k b ≡ None → list_any (λ x. e x (key b)) (keys k) ≡ false) →
    (n : ℕ) (k : SymbolTable) (bs : List Bucket) → IsDistinct e (keys k) → first_in Buckets bucket_fault with_bucket n k bs ≡ None → IsDistinct e (keys k ++ map key bs)
unfolding first_in
keys_apart e keys key more new n k [] apart h = rw (append-nil (keys k)) apart
keys_apart e keys key more new n k (b ∷ bs) apart h =
    let passed : bucket_fault k b ≡ None = not_placed Buckets n (bucket_fault k b) (first_none (at_place Buckets n (bucket_fault k b)) _ h) in
    let next : IsDistinct e (keys (with_bucket k b)) = rw (more k b passed) (distinct_push e (keys k) (key b) apart (new k b passed)) in
    let rest = keys_apart e keys key more new (n + 1) (with_bucket k b) bs next (second_none (at_place Buckets n (bucket_fault k b)) _ h) in
    rw (append_assoc (keys k) (key b ∷ []) (map key bs)) at (rw (more k b passed) at rest)

-- the number that is stored for a bucket's id
abbrev kept_number : ℤ → ℕ
kept_number (pos n) = 0
kept_number (negsuc n) = n

id_more : (ids : Ids) (id : ℤ) → is_bucket_id id ≡ true → (with_id ids id).buckets ≡ ids.buckets ++ kept_number id ∷ []
id_more ids (pos n) h = cc
id_more ids (negsuc n) h = refl

id_new : (ids : Ids) (id : ℤ) → is_bucket_id id ≡ true → has_id ids id ≡ false → list_any (λ x. nat_eq x (kept_number id)) ids.buckets ≡ false
id_new ids (pos n) is h = cc
id_new ids (negsuc n) is h = h

bucket_id : (k : SymbolTable) (b : Bucket) → bucket_fault k b ≡ None → is_bucket_id b.id.0 ≡ true
unfolding bucket_fault
bucket_id k b h = is_so _ (fails M12 _ (passes (bucket_checks k b) 1 (M12 when not (is_bucket_id b.id.0)) refl h))

bucket_new : (k : SymbolTable) (b : Bucket) → bucket_fault k b ≡ None → has_id k.items b.id.0 ≡ false
unfolding bucket_fault
bucket_new k b h = fails M2 _ (passes (bucket_checks k b) 2 (M2 when has_id k.items b.id.0) refl h)

bucket_name_new : (k : SymbolTable) (b : Bucket) → bucket_fault k b ≡ None → has_name k.item_names b.name ≡ false
unfolding bucket_fault
bucket_name_new k b h = fails M3 _ (passes (bucket_checks k b) 4 (M3 when has_name k.item_names b.name) refl h)

pub bucket_ids_once : (m : Map) → IsMap m → IsEachOnce (map (λ b. b.id) m.buckets)
bucket_ids_once m is =
    let k = known_devices (draft_of m) in
    let apart : IsDistinct nat_eq (k.items.buckets ++ map (λ b. kept_number b.id.0) m.buckets) =
    keys_apart nat_eq (λ k. k.items.buckets) (λ b. kept_number b.id.0)
    (λ k b h. id_more k.items b.id.0 (bucket_id k b h))
    (λ k b h. id_new k.items b.id.0 (bucket_id k b h) (bucket_new k b h))
    0 k m.buckets (rw (no_buckets m) (none_distinct nat_eq)) (parts (draft_of m) is.faultless).buckets in
    once_by (λ id. kept_number id.0) (λ b. b.id) m.buckets (numbers_once (map (λ b. kept_number b.id.0) m.buckets) (rw (no_buckets m) at apart))

device_names : (m : Map) → (known_devices (draft_of m)).item_names ≡ map (λ d. d.name) m.devices
device_names m = rw (devices_behind (known_types (draft_of m)) m.devices, types_behind nothing m.types) refl

pub item_names_once : (m : Map) → IsMap m → IsEachOnce (map (λ d. d.name) m.devices ++ map (λ b. b.name) m.buckets)
item_names_once m is =
    let k = known_devices (draft_of m) in
    let devices : IsDistinct bytes_eq (map (λ d. d.name) m.devices) = rw (names_before (draft_of m)) at (devices_good m is).distinct_names in
    let apart : IsDistinct bytes_eq (k.item_names ++ map (λ b. b.name) m.buckets) =
    keys_apart bytes_eq (λ k. k.item_names) (λ b. b.name) (λ k b h. refl) bucket_name_new
    0 k m.buckets (rw (device_names m) devices) (parts (draft_of m) is.faultless).buckets in
    names_once (map (λ d. d.name) m.devices ++ map (λ b. b.name) m.buckets) (rw (device_names m) at apart)
