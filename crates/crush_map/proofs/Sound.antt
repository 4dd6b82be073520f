-- What `Sound` says holds for each part of a map.
use Rattle.std.proofs.Common.{arith, ◌≡◌, ◌∙◌, ◌<◌, ◌≤◌, ◌+◌, ◌==◌, ◌||◌, ◌&&◌, Bool, true, false, not, Option, Some, None, List, [], ◌∷◌, ◌++◌, ℕ, zero, suc, ℤ, pos, negsuc, refl, sym, ap, length, take, map, fold, slice_get, IfSome, nat_lt, nat_le}
use Rattle.std.specs.List.{list_any}
use Rattle.std.proofs.lemmas.Bool.Decides.{nat_tests}
use Rattle.std.proofs.lemmas.List.{length-append, length-map}
use Rattle.std.proofs.lemmas.List.Folds.{list_any-append}
use Rattle.crush_map.specs.declared.fault.FaultCode.{FaultCode}
use Rattle.crush_map.specs.declared.fault.FaultCode.TheVariants.{M1, M2, M4, M5, M6, M7, M8, M9, M10, M11, M12, M14, M15}
use Rattle.crush_map.specs.declared.draft.TypeName.{TypeName}
use Rattle.crush_map.specs.declared.draft.Device.{Device}
use Rattle.crush_map.specs.declared.draft.Bucket.{Bucket}
use Rattle.crush_map.specs.declared.draft.Rule.{Rule}
use Rattle.crush_map.specs.declared.draft.Step.{Step}
use Rattle.crush_map.specs.declared.draft.Step.TheVariants.{Take, SetChooseTries, SetLeafTries, SetVaryR, SetStable, Choose, Emit}
use Rattle.crush_types.specs.declared.ItemId.{ItemId}
use Rattle.crush_types.specs.declared.Weight.{Weight}
use Rattle.crush_types.specs.declared.Kind.{Kind}
use Rattle.crush_map.specs.declared.limits.TheConstants.{BUCKET_LIMIT, ITEM_LIMIT, TOTAL_WEIGHT_LIMIT, RULE_LIMIT, STEP_LIMIT, NUMBER_LIMIT, RULE_ID_LIMIT, TRIES_LIMIT, VARY_R_LIMIT}
use Rattle.crush_map.specs.Faults.{SymbolTable, Ids, no_ids, nothing, ◌when◌, has_number, has_id, with_id, items_fault, contents_fault, bucket_checks, bucket_fault, with_bucket, with_device, with_type, known_types, known_devices, is_bucket_id, is_heavy, is_too_heavy, choose_fault, step_fault, steps_fault, rule_fault, with_rule, known_buckets, known_rules, is_count, are_in_range, end_fault, end_checks, type_fault, device_fault, is_name, is_reserved}
use Rattle.crush_types.specs.Kinds.{is_straw2, is_uniform}
use Rattle.crush_types.specs.Weights.{has_equal_weights, total_weight}
use Rattle.crush_map.specs.Map.{Map, draft_of, IsMap}
use Rattle.crush_map.specs.Laws.{Pass}
use Rattle.crush_map.specs.Sound.{same_id, has_bucket, has_type, has_item, IsItemAt, IsBucketAt, IsStep, IsRuleAt, IsTypeAt, IsDeviceAt}
use Rattle.crush_map.proofs.Passing.{left_false, right_false, passes, fails, first_none, second_none}
use Rattle.crush_map.proofs.Numbered.{above, OwnRule, rule_splits, type_splits, device_splits}
use Rattle.crush_map.proofs.Valid.{types_behind, devices_behind, rules_behind, rules_before, ids_before}
use Rattle.crush_map.proofs.First.{none_stands}

-- ---- tests

pub is_so : (b : Bool) → not b ≡ false → b ≡ true
is_so true h = refl
is_so false h = cc

any_mapped : {X : Type 0} (f : X → ℕ) (xs : List X) (n : ℕ) → has_number (map f xs) n ≡ list_any (λ x. f x == n) xs
any_mapped f [] n = refl
any_mapped f (x ∷ xs) n = ap (λ b. (f x == n) || b) (any_mapped f xs n)

number_push : (xs : List ℕ) (m n : ℕ) → has_number (xs ++ m ∷ []) n ≡ (has_number xs n || ((m == n) || false))
number_push xs m n = list_any-append (λ x. x == n) xs (m ∷ [])

or_none : (a b : Bool) → (a || (b || false)) ≡ (a || b)
or_none true b = refl
or_none false true = refl
or_none false false = refl

or_false : (a : Bool) → (a || false) ≡ a
or_false true = refl
or_false false = refl

or_assoc : (a b c : Bool) → ((a || b) || c) ≡ (a || (b || c))
or_assoc true b c = refl
or_assoc false b c = refl

id_push : (ids : Ids) (a b : ℤ) → has_id (with_id ids a) b ≡ (has_id ids b || same_id a b)
id_push ids (pos m) (pos n) = number_push ids.devices m n ∙ or_none (has_number ids.devices n) (m == n)
id_push ids (pos m) (negsuc n) = sym (or_false (has_number ids.buckets n))
id_push ids (negsuc m) (pos n) = sym (or_false (has_number ids.devices n))
id_push ids (negsuc m) (negsuc n) = number_push ids.buckets m n ∙ or_none (has_number ids.buckets n) (m == n)

-- ---- items

record ItemPasses (known : SymbolTable) (before : Ids) (earlier : List (ItemId × Weight)) (id : ℤ) : Type 0 where
  pub declared : has_id known.items id ≡ true
  pub new : has_id before id ≡ false
  pub once : list_any (λ item. same_id item.0.0 id) earlier ≡ false

behind_one : (known : SymbolTable) (before : Ids) (x : ItemId × Weight) (xs : List (ItemId × Weight)) (o : Option (ItemId × Weight)) →
    IfSome o (λ item. ItemPasses known (with_id before x.0.0) xs item.0.0) → IfSome o (λ item. ItemPasses known before (x ∷ xs) item.0.0)
behind_one known before x xs None h = tt
behind_one known before x xs (Some item) h =
    let new : (has_id before item.0.0 || same_id x.0.0 item.0.0) ≡ false = sym (id_push before x.0.0 item.0.0) ∙ h.new in
    record {
      declared = h.declared;
      new = left_false _ (same_id x.0.0 item.0.0) new;
      once = rw (right_false (has_id before item.0.0) _ new) h.once;
    }

items_pass : (known : SymbolTable) (before : Ids) (items : List (ItemId × Weight)) → items_fault known before items ≡ None →
    (j : ℕ) → IfSome (slice_get items j) (λ item. ItemPasses known before (take j items) item.0.0)
unfolding items_fault
items_pass known before [] h j = tt
items_pass known before (x ∷ xs) h zero =
    let checks : List (Option FaultCode) = (M5 when not (has_id known.items x.0.0)) ∷ (M6 when has_id before x.0.0) ∷ items_fault known (with_id before x.0.0) xs ∷ [] in
    record {
      declared = is_so _ (fails M5 _ (passes checks 0 (M5 when not (has_id known.items x.0.0)) refl h));
      new = fails M6 _ (passes checks 1 (M6 when has_id before x.0.0) refl h);
      once = refl;
    }
items_pass known before (x ∷ xs) h (suc j) =
    let checks : List (Option FaultCode) = (M5 when not (has_id known.items x.0.0)) ∷ (M6 when has_id before x.0.0) ∷ items_fault known (with_id before x.0.0) xs ∷ [] in
    behind_one known before x (take j xs) (slice_get xs j)
    (items_pass known (with_id before x.0.0) xs (passes checks 2 (items_fault known (with_id before x.0.0) xs) refl h) j)

-- ---- what is declared after buckets

types_stay : (k : SymbolTable) (xs : List Bucket) → (fold with_bucket k xs).types ≡ k.types
types_stay k [] = refl
types_stay k (x ∷ xs) = types_stay (with_bucket k x) xs

-- each id is a bucket's
AllBuckets : List Bucket → Type 0
AllBuckets xs = (j : ℕ) → IfSome (slice_get xs j) (λ b. is_bucket_id b.id.0 ≡ true)

fewer : (x : Bucket) (xs : List Bucket) → AllBuckets (x ∷ xs) → AllBuckets xs
unfolding AllBuckets
fewer x xs h j = h (suc j)

bucket_numbers : (k : SymbolTable) (xs : List Bucket) (n : ℕ) → has_number (fold with_bucket k xs).items.buckets n ≡ (has_number k.items.buckets n || has_bucket xs (negsuc n))
bucket_numbers k [] n = sym (or_false (has_number k.items.buckets n))
bucket_numbers k (x ∷ xs) n =
    bucket_numbers (with_bucket k x) xs n
    ∙ (ap (λ b. b || has_bucket xs (negsuc n)) (id_push k.items x.id.0 (negsuc n))
    ∙ or_assoc (has_number k.items.buckets n) (same_id x.id.0 (negsuc n)) (has_bucket xs (negsuc n)))

one_bucket : (ids : Ids) (id : ℤ) → is_bucket_id id ≡ true → (with_id ids id).devices ≡ ids.devices
one_bucket ids (pos n) h = cc
one_bucket ids (negsuc n) h = refl

devices_stay : (k : SymbolTable) (xs : List Bucket) → AllBuckets xs → (fold with_bucket k xs).items.devices ≡ k.items.devices
unfolding AllBuckets
devices_stay k [] h = refl
devices_stay k (x ∷ xs) h = devices_stay (with_bucket k x) xs (λ j. h (suc j)) ∙ one_bucket k.items x.id.0 (h 0)

one_more : (ids : Ids) (id : ℤ) → is_bucket_id id ≡ true → length (with_id ids id).buckets ≡ length ids.buckets + 1
one_more ids (pos n) h = cc
one_more ids (negsuc n) h = length-append ids.buckets (n ∷ [])

bucket_count : (k : SymbolTable) (xs : List Bucket) → AllBuckets xs → length (fold with_bucket k xs).items.buckets ≡ length k.items.buckets + length xs
unfolding AllBuckets
bucket_count k [] h = omega arith
bucket_count k (x ∷ xs) h =
    let more : length (fold with_bucket (with_bucket k x) xs).items.buckets ≡ length (with_bucket k x).items.buckets + length xs = bucket_count (with_bucket k x) xs (λ j. h (suc j)) in
    let one : length (with_bucket k x).items.buckets ≡ length k.items.buckets + 1 = one_more k.items x.id.0 (h 0) in
    omega (arith, more, one)

-- ---- what is declared after a map's types and devices

types_of : (m : Map) → (known_devices (draft_of m)).types ≡ map (λ t. t.number) m.types
types_of m = rw (devices_behind (known_types (draft_of m)) m.devices, types_behind nothing m.types) refl

devices_of : (m : Map) → (known_devices (draft_of m)).items.devices ≡ map (λ d. d.id) m.devices
devices_of m = rw (devices_behind (known_types (draft_of m)) m.devices, types_behind nothing m.types) refl

pub no_buckets : (m : Map) → (known_devices (draft_of m)).items.buckets ≡ []
no_buckets m = rw (devices_behind (known_types (draft_of m)) m.devices, types_behind nothing m.types) refl

-- what is declared after a map's first buckets
abbrev known_at : Map → List Bucket → SymbolTable
known_at m before = fold with_bucket (known_devices (draft_of m)) before

item_at : (m : Map) (before : List Bucket) → AllBuckets before → (id : ℤ) → has_id (known_at m before).items id ≡ has_item m.devices before id
item_at m before all (pos n) = rw (devices_stay (known_devices (draft_of m)) before all, devices_of m) (any_mapped (λ d. d.id) m.devices n)
item_at m before all (negsuc n) = bucket_numbers (known_devices (draft_of m)) before n ∙ rw (no_buckets m) refl

type_at : (m : Map) (before : List Bucket) (n : ℕ) → has_number (known_at m before).types n ≡ has_type m.types n
type_at m before n = rw (types_stay (known_devices (draft_of m)) before, types_of m) (any_mapped (λ t. t.number) m.types n)

-- ---- a bucket

not_new : (devices : List Device) (before : List Bucket) (id : ℤ) → is_bucket_id id ≡ true → has_item devices before id ≡ has_bucket before id
not_new devices before (pos n) h = cc
not_new devices before (negsuc n) h = refl

uneven : (kind even : Bool) → (kind && not even) ≡ false → kind ≡ true → even ≡ true
uneven true true h k = refl
uneven true false h k = cc
uneven false even h k = cc

not_both : (a b : Bool) → (a && b) ≡ false → a ≡ true → b ≡ false
not_both true b h k = h
not_both false b h k = cc

below : (a b : ℕ) → nat_lt a b ≡ false → b ≤ a
below a b h = grind (arith, nat_tests)

item_is : (m : Map) (i j : ℕ) (items : List (ItemId × Weight)) → AllBuckets (take i m.buckets) → (o : Option (ItemId × Weight)) →
    IfSome o (λ item. ItemPasses (known_at m (take i m.buckets)) no_ids (take j items) item.0.0) → IfSome o (λ item. IsItemAt m i j items item.0.0)
item_is m i j items all None h = tt
item_is m i j items all (Some item) h = record { declared = sym (item_at m (take i m.buckets) all item.0.0) ∙ h.declared; once = h.once }

abbrev contents_checks : SymbolTable → Kind → List (ItemId × Weight) → List (Option FaultCode)
contents_checks known alg items = items_fault known no_ids items ∷ (M8 when (is_uniform alg && not (has_equal_weights items))) ∷ (M7 when is_too_heavy alg items) ∷ []

record Contents (known : SymbolTable) (b : Bucket) : Type 0 where
  pub items : items_fault known no_ids b.items ≡ None
  pub even : (is_uniform b.alg && not (has_equal_weights b.items)) ≡ false
  pub light : is_too_heavy b.alg b.items ≡ false

contents : (known : SymbolTable) (b : Bucket) → contents_fault known b.alg b.items ≡ None → Contents known b
unfolding contents_fault
contents known b h = record {
  items = passes (contents_checks known b.alg b.items) 0 (items_fault known no_ids b.items) refl h;
  even = fails M8 _ (passes (contents_checks known b.alg b.items) 1 (M8 when (is_uniform b.alg && not (has_equal_weights b.items))) refl h);
  light = fails M7 _ (passes (contents_checks known b.alg b.items) 2 (M7 when is_too_heavy b.alg b.items) refl h);
}

bucket_passes : (m : Map) (i : ℕ) (b : Bucket) → length (take i m.buckets) ≡ i → AllBuckets (take i m.buckets) → bucket_fault (known_at m (take i m.buckets)) b ≡ None → IsBucketAt m i b
unfolding bucket_fault
bucket_passes m i b len all h =
    let k : SymbolTable = known_at m (take i m.buckets) in
    let count : length k.items.buckets ≡ length (known_devices (draft_of m)).items.buckets + length (take i m.buckets) = bucket_count (known_devices (draft_of m)) (take i m.buckets) all in
    let none : length (known_devices (draft_of m)).items.buckets ≡ 0 = ap length (no_buckets m) in
    let room : length k.items.buckets < BUCKET_LIMIT = above BUCKET_LIMIT (length k.items.buckets) (fails M1 _ (passes (bucket_checks k b) 0 (M1 when nat_le BUCKET_LIMIT (length k.items.buckets)) refl h)) in
    let id : is_bucket_id b.id.0 ≡ true = is_so _ (fails M12 _ (passes (bucket_checks k b) 1 (M12 when not (is_bucket_id b.id.0)) refl h)) in
    let held : Contents k b = contents k b (passes (bucket_checks k b) 8 (contents_fault k b.alg b.items) refl h) in
    record {
      place = omega arith;
      id = id;
      new = sym (not_new m.devices (take i m.buckets) b.id.0 id) ∙ (sym (item_at m (take i m.buckets) all b.id.0) ∙ fails M2 _ (passes (bucket_checks k b) 2 (M2 when has_id k.items b.id.0) refl h));
      name = is_so _ (fails M15 _ (passes (bucket_checks k b) 3 (M15 when not (is_name b.name)) refl h));
      typed = sym (type_at m (take i m.buckets) b.kind_of) ∙ is_so _ (fails M4 _ (passes (bucket_checks k b) 5 (M4 when not (has_number k.types b.kind_of)) refl h));
      no_device = fails M9 _ (passes (bucket_checks k b) 6 (M9 when (b.kind_of == 0)) refl h);
      few = below ITEM_LIMIT (length b.items) (fails M1 _ (passes (bucket_checks k b) 7 (M1 when nat_lt ITEM_LIMIT (length b.items)) refl h));
      items = λ j. item_is m i j b.items all (slice_get b.items j) (items_pass k no_ids b.items held.items j);
      even = uneven (is_uniform b.alg) (has_equal_weights b.items) held.even;
      light = let h : total_weight b.items ≤ TOTAL_WEIGHT_LIMIT = below TOTAL_WEIGHT_LIMIT (total_weight b.items) (left_false _ (is_straw2 b.alg && list_any is_heavy b.items) held.light) in omega (arith, h);
      signed = not_both (is_straw2 b.alg) (list_any is_heavy b.items) (right_false (nat_lt TOTAL_WEIGHT_LIMIT (total_weight b.items)) _ held.light);
    }

-- ---- all buckets of a map

id_of : (known : SymbolTable) (b : Bucket) → bucket_fault known b ≡ None → is_bucket_id b.id.0 ≡ true
unfolding bucket_fault
id_of known b h = is_so _ (fails M12 _ (passes (bucket_checks known b) 1 (M12 when not (is_bucket_id b.id.0)) refl h))

id_if : (known : SymbolTable) (o : Option Bucket) → IfSome o (λ b. bucket_fault known b ≡ None) → IfSome o (λ b. is_bucket_id b.id.0 ≡ true)
id_if known None h = tt
id_if known (Some b) h = id_of known b h

all_buckets : (known : SymbolTable) (xs : List Bucket) → Pass bucket_fault with_bucket known xs → AllBuckets xs
unfolding AllBuckets
all_buckets known xs h = λ j. id_if (fold with_bucket known (take j xs)) (slice_get xs j) (h j)

with_first : (x : Bucket) (xs : List Bucket) → is_bucket_id x.id.0 ≡ true → AllBuckets xs → AllBuckets (x ∷ xs)
unfolding AllBuckets
with_first x xs here more zero = here
with_first x xs here more (suc j) = more j

first_is : (x : Bucket) (xs : List Bucket) → AllBuckets (x ∷ xs) → is_bucket_id x.id.0 ≡ true
unfolding AllBuckets
first_is x xs h = h 0

no_bucket : AllBuckets []
unfolding AllBuckets
no_bucket j = tt

all_before : (xs : List Bucket) (i : ℕ) → AllBuckets xs → AllBuckets (take i xs)
all_before xs zero h = no_bucket
all_before [] (suc i) h = no_bucket
all_before (x ∷ xs) (suc i) h = with_first x (take i xs) (first_is x xs h) (all_before xs i (fewer x xs h))

place_before : {X : Type 0} (xs : List X) (i : ℕ) (x : X) → slice_get xs i ≡ Some x → length (take i xs) ≡ i
place_before [] i x h = cc
place_before (y ∷ xs) zero x h = refl
place_before (y ∷ xs) (suc i) x h = ap (λ n. suc n) (place_before xs i x h)

sound_if : (m : Map) (i : ℕ) (o : Option Bucket) → slice_get m.buckets i ≡ o → AllBuckets m.buckets →
    IfSome o (λ b. bucket_fault (known_at m (take i m.buckets)) b ≡ None) → IfSome o (λ b. IsBucketAt m i b)
sound_if m i None e all h = tt
sound_if m i (Some b) e all h = bucket_passes m i b (place_before m.buckets i b e) (all_before m.buckets i all) h

pub buckets_sound : (m : Map) (i : ℕ) → IsMap m → IfSome (slice_get m.buckets i) (λ b. IsBucketAt m i b)
buckets_sound m i is =
    let none = none_stands (draft_of m) is.faultless in
    let all : AllBuckets m.buckets = all_buckets (known_devices (draft_of m)) m.buckets none.0.2 in
    sound_if m i (slice_get m.buckets i) refl all (none.0.2 i)

-- ---- rules

chooseleaf : (leaf firstn zeroth : Bool) → (leaf && not firstn && zeroth) ≡ false → leaf ≡ true → firstn ≡ false → zeroth ≡ false
chooseleaf true true z h l f = cc
chooseleaf true false z h l f = h
chooseleaf false firstn z h l f = cc

abbrev choose_checks : SymbolTable → Bool → Bool → ℤ → ℕ → List (Option FaultCode)
choose_checks known firstn leaf n wanted = (M11 when not (has_number known.types wanted)) ∷ (M12 when not (is_count n)) ∷ (M14 when (leaf && not firstn && (wanted == 0))) ∷ []

step_passes : (m : Map) (k : SymbolTable) → ((id : ℤ) → has_id k.items id ≡ has_item m.devices m.buckets id) → ((n : ℕ) → has_number k.types n ≡ has_type m.types n) →
    (s : Step) → step_fault k s ≡ None → IsStep m s
unfolding step_fault choose_fault
step_passes m k ids types (Take id) h = sym (ids id.0) ∙ is_so (has_id k.items id.0) (fails M10 (not (has_id k.items id.0)) h)
step_passes m k ids types (SetChooseTries tries) h = below TRIES_LIMIT tries (fails M12 (nat_lt TRIES_LIMIT tries) h)
step_passes m k ids types (SetLeafTries tries) h = below TRIES_LIMIT tries (fails M12 (nat_lt TRIES_LIMIT tries) h)
step_passes m k ids types (SetVaryR value) h = below VARY_R_LIMIT value (fails M12 (nat_lt VARY_R_LIMIT value) h)
step_passes m k ids types (SetStable value) h = below 1 value (fails M12 (nat_lt 1 value) h)
step_passes m k ids types (Choose firstn leaf n wanted) h = record {
  typed = sym (types wanted) ∙ is_so _ (fails M11 _ (passes (choose_checks k firstn leaf n wanted) 0 (M11 when not (has_number k.types wanted)) refl h));
  count = is_so _ (fails M12 _ (passes (choose_checks k firstn leaf n wanted) 1 (M12 when not (is_count n)) refl h));
  bucket = chooseleaf leaf firstn (wanted == 0) (fails M14 _ (passes (choose_checks k firstn leaf n wanted) 2 (M14 when (leaf && not firstn && (wanted == 0))) refl h));
}
step_passes m k ids types Emit h = tt

steps_pass : (m : Map) (k : SymbolTable) → ((id : ℤ) → has_id k.items id ≡ has_item m.devices m.buckets id) → ((n : ℕ) → has_number k.types n ≡ has_type m.types n) →
    (steps : List Step) → steps_fault k steps ≡ None → (j : ℕ) → IfSome (slice_get steps j) (IsStep m)
steps_pass m k ids types [] h j = tt
steps_pass m k ids types (s ∷ steps) h zero = step_passes m k ids types s (first_none (step_fault k s) _ h)
steps_pass m k ids types (s ∷ steps) h (suc j) = steps_pass m k ids types steps (second_none (step_fault k s) _ h) j

-- what is declared after a map's first rules
abbrev rules_at : Map → List Rule → SymbolTable
rules_at m before = fold with_rule (known_buckets (draft_of m)) before

rule_items : (m : Map) (before : List Rule) → AllBuckets m.buckets → (id : ℤ) → has_id (rules_at m before).items id ≡ has_item m.devices m.buckets id
rule_items m before all id = rw (rules_behind (known_buckets (draft_of m)) before) (item_at m m.buckets all id)

rule_types : (m : Map) (before : List Rule) (n : ℕ) → has_number (rules_at m before).types n ≡ has_type m.types n
rule_types m before n = rw (rules_behind (known_buckets (draft_of m)) before) (type_at m m.buckets n)

rule_count : (m : Map) (before : List Rule) → length (rules_at m before).rules ≡ length before
rule_count m before = rw (rules_behind (known_buckets (draft_of m)) before, rules_before (draft_of m)) (simp length-map)

positive : (n : ℕ) → ((n == 0) || nat_lt STEP_LIMIT n) ≡ false → 1 ≤ n
positive zero h = cc
positive (suc n) h = omega arith

rule_passes : (m : Map) (i : ℕ) (r : Rule) → length (take i m.rules) ≡ i → AllBuckets m.buckets → rule_fault (rules_at m (take i m.rules)) r ≡ None → IsRuleAt m i r
unfolding rule_fault
rule_passes m i r len all h =
    let k : SymbolTable = rules_at m (take i m.rules) in
    let own : OwnRule k r = (rule_splits k r h).own in
    let room : length k.rules < RULE_LIMIT = (rule_splits k r h).room in
    let count : length k.rules ≡ length (take i m.rules) = rule_count m (take i m.rules) in
    record {
      place = omega arith;
      id = below RULE_ID_LIMIT r.id own.in_range;
      name = is_so (is_name r.name) own.form;
      some = positive (length r.steps) own.count;
      few = below STEP_LIMIT (length r.steps) (right_false (length r.steps == 0) _ own.count);
      steps = steps_pass m k (rule_items m (take i m.rules) all) (rule_types m (take i m.rules)) r.steps own.steps;
    }

rule_if : (m : Map) (i : ℕ) (o : Option Rule) → slice_get m.rules i ≡ o → AllBuckets m.buckets →
    IfSome o (λ r. rule_fault (rules_at m (take i m.rules)) r ≡ None) → IfSome o (λ r. IsRuleAt m i r)
rule_if m i None e all h = tt
rule_if m i (Some r) e all h = rule_passes m i r (place_before m.rules i r e) all h

pub rules_sound : (m : Map) (i : ℕ) → IsMap m → IfSome (slice_get m.rules i) (λ r. IsRuleAt m i r)
rules_sound m i is =
    let none = none_stands (draft_of m) is.faultless in
    rule_if m i (slice_get m.rules i) refl (all_buckets (known_devices (draft_of m)) m.buckets none.0.2) (none.0.3 i)

-- ---- types and devices

type_if : (m : Map) (i : ℕ) (o : Option TypeName) → slice_get m.types i ≡ o →
    IfSome o (λ t. type_fault (fold with_type nothing (take i m.types)) t ≡ None) → IfSome o (IsTypeAt i)
type_if m i None e h = tt
type_if m i (Some t) e h =
    let p = type_splits (fold with_type nothing (take i m.types)) t h in
    let count : length (fold with_type nothing (take i m.types)).types ≡ length (take i m.types) = rw (types_behind nothing (take i m.types)) (simp length-map) in
    let room = p.room in
    let len : length (take i m.types) ≡ i = place_before m.types i t e in
    record {
      place = omega (arith, room, count, len);
      number = below NUMBER_LIMIT t.number p.own.in_range;
      name = is_so (is_name t.name) (left_false _ (is_reserved t.name) p.own.form);
      not_reserved = right_false (not (is_name t.name)) (is_reserved t.name) p.own.form;
    }

pub types_sound : (m : Map) (i : ℕ) → IsMap m → IfSome (slice_get m.types i) (IsTypeAt i)
types_sound m i is = type_if m i (slice_get m.types i) refl ((none_stands (draft_of m) is.faultless).0.0 i)

device_if : (m : Map) (i : ℕ) (o : Option Device) → slice_get m.devices i ≡ o →
    IfSome o (λ d. device_fault (fold with_device (known_types (draft_of m)) (take i m.devices)) d ≡ None) → IfSome o (IsDeviceAt i)
device_if m i None e h = tt
device_if m i (Some d) e h =
    let k : SymbolTable = fold with_device (known_types (draft_of m)) (take i m.devices) in
    let p = device_splits k d h in
    let count : length k.items.devices ≡ length (take i m.devices) = rw (devices_behind (known_types (draft_of m)) (take i m.devices), ids_before (draft_of m)) (simp length-map) in
    let room = p.room in
    let len : length (take i m.devices) ≡ i = place_before m.devices i d e in
    record { place = omega (arith, room, count, len); id = below NUMBER_LIMIT d.id p.own.in_range; name = is_so (is_name d.name) p.own.form }

pub devices_sound : (m : Map) (i : ℕ) → IsMap m → IfSome (slice_get m.devices i) (IsDeviceAt i)
devices_sound m i is = device_if m i (slice_get m.devices i) refl ((none_stands (draft_of m) is.faultless).0.1 i)

-- ---- the end

end_sound : (m : Map) → IsMap m → (has_type m.types 0 ≡ true) × (are_in_range m.tunables ≡ true)
unfolding end_fault
end_sound m is =
    let h = (none_stands (draft_of m) is.faultless).1 in
    let checks = end_checks (known_rules (draft_of m)) m.tunables 0 0 in (
      sym (rule_types m m.rules 0) ∙ is_so _ (fails M4 _ (passes checks 0 (M4 when not (has_number (known_rules (draft_of m)).types 0)) refl h)),
      is_so _ (fails M12 _ (passes checks 1 (M12 when not (are_in_range m.tunables)) refl h)),
    )

pub device_type_sound : (m : Map) → IsMap m → has_type m.types 0 ≡ true
device_type_sound m is = (end_sound m is).0

pub tunables_sound : (m : Map) → IsMap m → are_in_range m.tunables ≡ true
tunables_sound m is = (end_sound m is).1
