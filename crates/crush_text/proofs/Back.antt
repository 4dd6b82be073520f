-- What the declarations of a map make of each of its elements.
use Rattle.std.proofs.Common.{◌≡◌, ◌∙◌, ℕ, ℤ, pos, negsuc, ◌+◌, ◌-◌, ◌≤◌, min, nat_le, List, [], ◌∷◌, ◌++◌, length, map, true, refl, sym, ap, arith, Option, Some, None, is_none}
use Rattle.std.proofs.lemmas.Bool.Decides.{nat_tests}
use Rattle.std.specs.List.{find, filter, filter_map, AllByRecursion}
use Rattle.crush_map.specs.declared.limits.TheConstants.{COUNT_LIMIT, NUMBER_LIMIT, RULE_ID_LIMIT}
use Rattle.crush_map.specs.crush_types.specs.declared.limits.TheConstants.{ID_COUNT}
use Rattle.crush_map.specs.declared.fault.FaultCode.{FaultCode}
use Rattle.crush_map.specs.declared.draft.Bucket.{Bucket}
use Rattle.crush_map.specs.declared.draft.Rule.{Rule}
use Rattle.crush_map.specs.declared.draft.Step.{Step}
use Rattle.crush_map.specs.declared.draft.Step.TheVariants.{Take, SetChooseTries, SetLeafTries, SetVaryR, SetStable, Choose, Emit}
use Rattle.crush_map.specs.declared.draft.MapDraft.{MapDraft}
use Rattle.crush_map.specs.crush_types.specs.declared.ItemId.{ItemId}
use Rattle.crush_map.specs.crush_types.specs.declared.Weight.{Weight}
use Rattle.crush_map.specs.Faults.{first_of, or_else, is_bucket_id, is_count, step_fault, steps_fault, rule_head_fault, rule_head_checks, rule_fault}
use Rattle.crush_map.specs.Map.{Map}
use Rattle.crush_map.specs.Sound.{IsEachOnce, has_type, has_item, IsStep}
use Rattle.crush_grammar.specs.declared.declaration.DeclaredItem.{DeclaredItem}
use Rattle.crush_grammar.specs.declared.declaration.DeclaredBucket.{DeclaredBucket}
use Rattle.crush_grammar.specs.declared.declaration.DeclaredRule.{DeclaredRule}
use Rattle.crush_writing.specs.Canonical.{type_name, item_name}
use Rattle.crush_text.specs.Places.{names_place, wrong_place, wrong_place_from, fill, in_place}
use Rattle.crush_text.specs.Judging.{Declared, fitted, fitted_integer, type_number, item_named, item_of, bucket_of, step_of, rule_of, declared_step_fault, declared_rule_fault, kept_step_fault}
use Rattle.crush_text.proofs.Spelt.{both}
use Rattle.crush_text.proofs.Numerals.{IsWithin}
use Rattle.crush_text.proofs.Names.{type_comes_back, item_comes_back}
use Rattle.crush_text.proofs.Checks.{first_none, second_none}
use Rattle.crush_text.proofs.Trees.{item_declared, step_declared}

-- ---- numbers that fit

pub fits : (n : ℕ) → n ≤ NUMBER_LIMIT → fitted n ≡ n
fits n h = omega arith

fits_within : (z : ℤ) → IsWithin ID_COUNT z → fitted_integer z ≡ z
fits_within (pos n) h = let same : min n 2147483647 ≡ n = omega arith in ap pos same
fits_within (negsuc n) h = let same : min n 2147483647 ≡ n = omega arith in ap negsuc same

pub bucket_id_within : (z : ℤ) → is_bucket_id z ≡ true → IsWithin ID_COUNT z
bucket_id_within (pos n) h = cc
bucket_id_within (negsuc n) h = grind (arith, nat_tests)

pub count_within : (z : ℤ) → is_count z ≡ true → IsWithin COUNT_LIMIT z
count_within (pos n) h = grind (arith, nat_tests)
count_within (negsuc n) h = let low = (both (nat_le n (COUNT_LIMIT - 1)) true h).0 in grind (arith, nat_tests)

pub wider : (z : ℤ) → IsWithin COUNT_LIMIT z → IsWithin ID_COUNT z
wider (pos n) h = omega arith
wider (negsuc n) h = omega arith

-- ---- places

no_names : (m : Map) (xs : List (ItemId × Weight)) (k : ℕ) → find (names_place k) (map (item_declared m) xs) ≡ None
no_names m [] k = refl
no_names m (x ∷ xs) k = no_names m xs k

all_others : (m : Map) (xs : List (ItemId × Weight)) → filter (λ item. is_none item.place) (map (item_declared m) xs) ≡ map (item_declared m) xs
all_others m [] = refl
all_others m (x ∷ xs) = ap (λ ys. item_declared m x ∷ ys) (all_others m xs)

fill_others : (items : List DeclaredItem) → ((k : ℕ) → find (names_place k) items ≡ None) → (others : List DeclaredItem) (k : ℕ) → fill items k (length others) others ≡ others
fill_others items none [] k = refl
fill_others items none (o ∷ others) k = rw (none k, fill) (ap (λ ys. o ∷ ys) (fill_others items none others (k + 1)))

pub stay_in_place : (m : Map) (xs : List (ItemId × Weight)) → in_place (map (item_declared m) xs) ≡ map (item_declared m) xs
unfolding in_place
stay_in_place m xs =
    ap (fill (map (item_declared m) xs) 0 (length (map (item_declared m) xs))) (all_others m xs) ∙ fill_others (map (item_declared m) xs) (no_names m xs) (map (item_declared m) xs) 0

no_line : (m : Map) (n : ℕ) (before : List DeclaredItem) (xs : List (ItemId × Weight)) → wrong_place_from n before (map (item_declared m) xs) ≡ None
no_line m n before [] = refl
no_line m n before (x ∷ xs) = no_line m n (before ++ item_declared m x ∷ []) xs

pub no_wrong_place : (m : Map) (xs : List (ItemId × Weight)) → wrong_place (map (item_declared m) xs) ≡ None
unfolding wrong_place
no_wrong_place m xs = no_line m (length (map (item_declared m) xs)) [] xs

-- ---- a draft with the types and the devices of a map, and the first of its buckets

pub record IsPart (d : MapDraft) (m : Map) : Type 0 where
  pub more : List Bucket
  pub types : m.types ≡ d.types
  pub devices : m.devices ≡ d.devices
  pub buckets : m.buckets ≡ d.buckets ++ more
  pub type_names : IsEachOnce (map (λ t. t.name) m.types)
  pub item_names : IsEachOnce (map (λ x. x.name) m.devices ++ map (λ b. b.name) m.buckets)

type_back : (d : MapDraft) (m : Map) → IsPart d m → (n : ℕ) → has_type m.types n ≡ true → type_number d (type_name m.types n) ≡ n
type_back d m part n has =
    ap (λ types. type_number (record d { types = types }) (type_name m.types n)) (sym part.types) ∙ type_comes_back m.types n part.type_names has

item_back : (d : MapDraft) (m : Map) → IsPart d m → (id : ℤ) → has_item d.devices d.buckets id ≡ true → (item_named d (item_name m id)).0 ≡ record { 0 = id }
item_back d m part id has = item_comes_back d m part.more part.devices part.buckets part.item_names id has

items_back : (d : MapDraft) (m : Map) → IsPart d m → (xs : List (ItemId × Weight)) → AllByRecursion (λ x. has_item d.devices d.buckets x.0.0 ≡ true) xs → map (item_of d) (map (item_declared m) xs) ≡ xs
items_back d m part [] all = refl
items_back d m part (x ∷ xs) all =
    let here : item_of d (item_declared m x) ≡ x = ap (λ (id : ItemId). (id, x.1)) (item_back d m part x.0.0 all.0) in
    let there = items_back d m part xs all.1 in
    ap (λ y. y ∷ map (item_of d) (map (item_declared m) xs)) here ∙ ap (λ ys. x ∷ ys) there

abbrev pub bucket_written : Map → ℕ → Bucket → DeclaredBucket
bucket_written m n b = record {
  head = record { line = n; type_name = type_name m.types b.kind_of; name = b.name };
  id = b.id.0;
  alg = b.alg;
  items = map (item_declared m) b.items;
}

abbrev with_parts : Bucket → ℤ → ℕ → List (ItemId × Weight) → Bucket
with_parts b id kind items = record { id = record { 0 = id }; name = b.name; kind_of = kind; alg = b.alg; items = items }

pub bucket_back : (d : MapDraft) (m : Map) (n : ℕ) (b : Bucket) → IsPart d m → is_bucket_id b.id.0 ≡ true → has_type m.types b.kind_of ≡ true →
    AllByRecursion (λ x. has_item d.devices d.buckets x.0.0 ≡ true) b.items → bucket_of d (bucket_written m n b) ≡ b
bucket_back d m n b part id typed all =
    let items = ap (map (item_of d)) (stay_in_place m b.items) ∙ items_back d m part b.items all in
    let kind = type_back d m part b.kind_of typed in
    ap (λ z. with_parts b z (type_number d (type_name m.types b.kind_of)) (map (item_of d) (in_place (map (item_declared m) b.items)))) (fits_within b.id.0 (bucket_id_within b.id.0 id))
    ∙ (ap (λ k. with_parts b b.id.0 k (map (item_of d) (in_place (map (item_declared m) b.items)))) kind
    ∙ ap (with_parts b b.id.0 b.kind_of) items)

-- ---- rules

step_back : (d : MapDraft) (m : Map) → IsPart d m → m.buckets ≡ d.buckets → (s : Step) → IsStep m s → step_of d (step_declared m s) ≡ Some s
step_back d m part same (Take id) is =
    let has : has_item d.devices d.buckets id.0 ≡ true = rw (← part.devices, ← same) is in
    ap (λ x. Some (Take x)) (item_back d m part id.0 has)
step_back d m part same (SetChooseTries n) is = ap (λ k. Some (SetChooseTries k)) (fits n (omega arith))
step_back d m part same (SetLeafTries n) is = ap (λ k. Some (SetLeafTries k)) (fits n (omega arith))
step_back d m part same (SetVaryR n) is = ap (λ k. Some (SetVaryR k)) (fits n (omega arith))
step_back d m part same (SetStable n) is = ap (λ k. Some (SetStable k)) (fits n (omega arith))
step_back d m part same (Choose firstn leaf n wanted) is =
    ap (λ z. Some (Choose firstn leaf z (type_number d (type_name m.types wanted)))) (fits_within n (wider n (count_within n is.count)))
    ∙ ap (λ k. Some (Choose firstn leaf n k)) (type_back d m part wanted is.typed)
step_back d m part same Emit is = refl

steps_back : (d : MapDraft) (m : Map) → IsPart d m → m.buckets ≡ d.buckets → (ss : List Step) → AllByRecursion (IsStep m) ss → filter_map (step_of d) (map (step_declared m) ss) ≡ ss
steps_back d m part same [] all = refl
steps_back d m part same (s ∷ ss) all = rw (step_back d m part same s all.0) (ap (λ ys. s ∷ ys) (steps_back d m part same ss all.1))

same_fault : (s : Declared) (m : Map) → IsPart s.draft m → m.buckets ≡ s.draft.buckets → (x : Step) → IsStep m x → declared_step_fault s (step_declared m x) ≡ step_fault s.known x
same_fault s m part same (Take id) is = ap (kept_step_fault s.known) (step_back s.draft m part same (Take id) is)
same_fault s m part same (SetChooseTries n) is = ap (kept_step_fault s.known) (step_back s.draft m part same (SetChooseTries n) is)
same_fault s m part same (SetLeafTries n) is = ap (kept_step_fault s.known) (step_back s.draft m part same (SetLeafTries n) is)
same_fault s m part same (SetVaryR n) is = ap (kept_step_fault s.known) (step_back s.draft m part same (SetVaryR n) is)
same_fault s m part same (SetStable n) is = ap (kept_step_fault s.known) (step_back s.draft m part same (SetStable n) is)
same_fault s m part same (Choose firstn leaf n wanted) is = ap (kept_step_fault s.known) (step_back s.draft m part same (Choose firstn leaf n wanted) is)
same_fault s m part same Emit is = refl

same_faults : (s : Declared) (m : Map) → IsPart s.draft m → m.buckets ≡ s.draft.buckets → (xs : List Step) → AllByRecursion (IsStep m) xs → first_of (map (declared_step_fault s) (map (step_declared m) xs)) ≡ steps_fault s.known xs
same_faults s m part same [] all = refl
same_faults s m part same (x ∷ xs) all =
    ap (λ o. or_else o (first_of (map (declared_step_fault s) (map (step_declared m) xs)))) (same_fault s m part same x all.0)
    ∙ ap (or_else (step_fault s.known x)) (same_faults s m part same xs all.1)

abbrev pub rule_written : Map → ℕ → Rule → DeclaredRule
rule_written m n r = record { line = n; name = r.name; id = r.id; erasure = r.erasure; steps = map (step_declared m) r.steps }

pub rule_back : (d : MapDraft) (m : Map) (n : ℕ) (r : Rule) → IsPart d m → m.buckets ≡ d.buckets → r.id ≤ RULE_ID_LIMIT → AllByRecursion (IsStep m) r.steps → rule_of d (rule_written m n r) ≡ r
rule_back d m n r part same small all =
    ap (λ id. record { id = id; name = r.name; erasure = r.erasure; steps = filter_map (step_of d) (map (step_declared m) r.steps) }) (fits r.id (omega arith))
    ∙ ap (λ ss. record r { steps = ss }) (steps_back d m part same r.steps all)

first_append : (xs : List (Option FaultCode)) (x : Option FaultCode) → first_of (xs ++ x ∷ []) ≡ None → (first_of xs ≡ None) × (x ≡ None)
first_append [] x h = (refl, first_none x None h)
first_append (y ∷ xs) x h =
    let rest = first_append xs x (second_none y (first_of (xs ++ x ∷ [])) h) in
    (ap (λ o. or_else o (first_of xs)) (first_none y (first_of (xs ++ x ∷ [])) h) ∙ rest.0, rest.1)

pub rule_passes : (s : Declared) (m : Map) (n : ℕ) (r : Rule) → IsPart s.draft m → m.buckets ≡ s.draft.buckets → r.id ≤ RULE_ID_LIMIT → AllByRecursion (IsStep m) r.steps → rule_fault s.known r ≡ None →
    declared_rule_fault s (rule_written m n r) ≡ None
unfolding rule_fault rule_head_fault declared_rule_fault
rule_passes s m n r part same small all h =
    let parts = first_append (rule_head_checks s.known r) (steps_fault s.known r.steps) h in
    ap (λ x. or_else (first_of (rule_head_checks s.known x)) (first_of (map (declared_step_fault s) (map (step_declared m) r.steps)))) (rule_back s.draft m n r part same small all)
    ∙ (ap (λ o. or_else o (first_of (map (declared_step_fault s) (map (step_declared m) r.steps)))) parts.0 ∙ (same_faults s m part same r.steps all ∙ parts.1))
