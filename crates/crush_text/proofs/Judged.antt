-- The declarations of a map have no fault, and make that map.
use Rattle.std.proofs.Common.{◌≡◌, ◌∙◌, ℕ, ◌+◌, ◌≤◌, ◌==◌, ◌&&◌, not, nat_le, List, [], ◌∷◌, ◌++◌, length, take, fold, Bool, true, false, refl, sym, ap, subst, arith, None}
use Rattle.std.proofs.lemmas.Bool.Decides.{nat_tests}
use Rattle.std.proofs.lemmas.List.{append-nil}
use Rattle.std.specs.List.{AllByRecursion}
use Rattle.crush_map.specs.declared.limits.TheConstants.{NUMBER_LIMIT, TOTAL_TRIES_LIMIT, VARY_R_LIMIT}
use Rattle.crush_map.specs.declared.fault.FaultCode.TheVariants.{M3, M12, M13}
use Rattle.crush_map.specs.declared.draft.TypeName.{TypeName}
use Rattle.crush_map.specs.declared.draft.Device.{Device}
use Rattle.crush_map.specs.declared.draft.Bucket.{Bucket}
use Rattle.crush_map.specs.declared.draft.Rule.{Rule}
use Rattle.crush_map.specs.declared.draft.Tunables.{Tunables}
use Rattle.crush_map.specs.Faults.{SymbolTable, ◌when◌, first_of, nothing, are_in_range, type_fault, device_fault, bucket_fault, rule_fault, with_type, with_device, with_bucket, with_rule, known_types, known_devices, known_buckets}
use Rattle.crush_map.specs.Map.{Map, draft_of}
use Rattle.crush_map.specs.Sound.{IsTypeAt, IsDeviceAt, IsBucketAt, IsRuleAt, IsStep, has_item}
use Rattle.crush_grammar.specs.declared.declaration.Declaration.{Declaration}
use Rattle.crush_grammar.specs.declared.declaration.TunableName.{TunableName}
use Rattle.crush_grammar.specs.declared.declaration.TunableName.TheVariants.{LocalTries, LocalFallbackTries, TotalTries, DescendOnce, VaryR, Stable}
use Rattle.crush_text.specs.Judging.{Declared, nothing_declared, with_tunable, is_local, is_named, tunable_fault, fitted, at_line, bucket_of, rule_of, declared_bucket_fault}
use Rattle.crush_text.proofs.Spelt.{both, numbered}
use Rattle.crush_text.proofs.Found.{at_each, taken}
use Rattle.crush_text.proofs.Trees.{tunables_of, tunable_declared, device_declared, type_declared, bucket_declared, bucket_height, rule_declared, rule_height}
use Rattle.crush_text.proofs.Going.{Goes, goes_on, one_goes, along}
use Rattle.crush_text.proofs.Back.{fits, IsPart, bucket_written, bucket_back, no_wrong_place, rule_written, rule_back, rule_passes}
use Rattle.crush_text.proofs.States.{by_devices, device_judged, type_judged, either_order, declared_so_far, with_devices, with_types, with_buckets, with_rules}
use Rattle.crush_text.proofs.SoundMap.{Sound, all_by, items_declared}

fold_push : {A X : Type 0} (f : A → X → A) (a : A) (xs : List X) (x : X) → fold f a (xs ++ x ∷ []) ≡ f (fold f a xs) x
fold_push f a [] x = refl
fold_push f a (y ∷ ys) x = fold_push f (f a y) ys x

-- ---- tunables

abbrev behind_tunable : Declared → TunableName × ℕ → Declared
behind_tunable s x = record s { draft = with_tunable s.draft x.0 x.1; tunables = s.tunables ++ x.0 ∷ [] }

three_pass : (a b c : Bool) → a ≡ false → b ≡ true → c ≡ false → first_of ((M3 when a) ∷ (M12 when not b) ∷ (M13 when c) ∷ []) ≡ None
three_pass false true false e f g = refl
three_pass false true true e f g = cc
three_pass false false c e f g = cc
three_pass true b c e f g = cc

tunable_goes : (s : Declared) (x : TunableName × ℕ) (n : ℕ) → x.1 ≤ NUMBER_LIMIT → is_named s.tunables x.0 ≡ false → are_in_range (with_tunable s.draft x.0 x.1).tunables ≡ true → (is_local x.0 && not (x.1 == 0)) ≡ false →
    Goes s (tunable_declared n x ∷ []) (behind_tunable s x)
unfolding tunable_fault
tunable_goes s x n small new range other =
    let same : fitted x.1 ≡ x.1 = fits x.1 small in
    one_goes s (tunable_declared n x) (behind_tunable s x)
    (ap (at_line n) (three_pass (is_named s.tunables x.0) (are_in_range (with_tunable s.draft x.0 (fitted x.1)).tunables) (is_local x.0 && not (x.1 == 0)) new (ap (λ value. are_in_range (with_tunable s.draft x.0 value).tunables) same ∙ range) other))
    (ap (λ value. record s { draft = with_tunable s.draft x.0 value; tunables = s.tunables ++ x.0 ∷ [] }) same)

below : (a b : ℕ) → nat_le a b ≡ true → a ≤ b
below a b h = grind (arith, nat_tests)

-- each tunable is in its range, and so are the first of them
pub record Ranges (t : Tunables) : Type 0 where
  pub first : nat_le t.total_tries TOTAL_TRIES_LIMIT ≡ true
  pub two : (nat_le t.total_tries TOTAL_TRIES_LIMIT && nat_le t.descend_once 1) ≡ true
  pub three : (nat_le t.total_tries TOTAL_TRIES_LIMIT && nat_le t.descend_once 1 && nat_le t.vary_r VARY_R_LIMIT) ≡ true
  pub total_tries : t.total_tries ≤ TOTAL_TRIES_LIMIT
  pub descend_once : t.descend_once ≤ 1
  pub vary_r : t.vary_r ≤ VARY_R_LIMIT
  pub stable : t.stable ≤ 1

pub ranges : (t : Tunables) → are_in_range t ≡ true → Ranges t
ranges t h =
    let three = both (nat_le t.total_tries TOTAL_TRIES_LIMIT && nat_le t.descend_once 1 && nat_le t.vary_r VARY_R_LIMIT) (nat_le t.stable 1) h in
    let two = both (nat_le t.total_tries TOTAL_TRIES_LIMIT && nat_le t.descend_once 1) (nat_le t.vary_r VARY_R_LIMIT) three.0 in
    let one = both (nat_le t.total_tries TOTAL_TRIES_LIMIT) (nat_le t.descend_once 1) two.0 in
    record {
      first = one.0;
      two = two.0;
      three = three.0;
      total_tries = below t.total_tries TOTAL_TRIES_LIMIT one.0;
      descend_once = below t.descend_once 1 one.1;
      vary_r = below t.vary_r VARY_R_LIMIT two.1;
      stable = below t.stable 1 three.1;
    }

pub tunables_go : (m : Map) → are_in_range m.tunables ≡ true → (n : ℕ) → Goes nothing_declared (numbered tunable_declared (λ x. 1) n (tunables_of m.tunables)) (with_devices m [])
tunables_go m range n =
    let t = m.tunables in
    let r = ranges t range in
    let s1 = behind_tunable nothing_declared (LocalTries, 0) in
    let s2 = behind_tunable s1 (LocalFallbackTries, 0) in
    let s3 = behind_tunable s2 (TotalTries, t.total_tries) in
    let s4 = behind_tunable s3 (DescendOnce, t.descend_once) in
    let s5 = behind_tunable s4 (VaryR, t.vary_r) in
    let s6 = behind_tunable s5 (Stable, t.stable) in
    let n1 = n + 1 in
    let n2 = n1 + 1 in
    let n3 = n2 + 1 in
    let n4 = n3 + 1 in
    let n5 = n4 + 1 in
    let g6 : Goes s5 (tunable_declared n5 (Stable, t.stable) ∷ []) s6 = tunable_goes s5 (Stable, t.stable) n5 (let low = r.stable in omega arith) refl range refl in
    let g5 = goes_on s4 (tunable_declared n4 (VaryR, t.vary_r) ∷ []) s5 (tunable_declared n5 (Stable, t.stable) ∷ []) s6 (tunable_goes s4 (VaryR, t.vary_r) n4 (let low = r.vary_r in omega arith) refl (rw (r.three) refl) refl) g6 in
    let g4 = goes_on s3 (tunable_declared n3 (DescendOnce, t.descend_once) ∷ []) s4 (tunable_declared n4 (VaryR, t.vary_r) ∷ tunable_declared n5 (Stable, t.stable) ∷ []) s6 (tunable_goes s3 (DescendOnce, t.descend_once) n3 (let low = r.descend_once in omega arith) refl (rw (r.two) refl) refl) g5 in
    let g3 = goes_on s2 (tunable_declared n2 (TotalTries, t.total_tries) ∷ []) s3 (tunable_declared n3 (DescendOnce, t.descend_once) ∷ tunable_declared n4 (VaryR, t.vary_r) ∷ tunable_declared n5 (Stable, t.stable) ∷ []) s6 (tunable_goes s2 (TotalTries, t.total_tries) n2 (let low = r.total_tries in omega arith) refl (rw (r.first) refl) refl) g4 in
    let g2 = goes_on s1 (tunable_declared n1 (LocalFallbackTries, 0) ∷ []) s2 (tunable_declared n2 (TotalTries, t.total_tries) ∷ tunable_declared n3 (DescendOnce, t.descend_once) ∷ tunable_declared n4 (VaryR, t.vary_r) ∷ tunable_declared n5 (Stable, t.stable) ∷ []) s6 (tunable_goes s1 (LocalFallbackTries, 0) n1 (omega arith) refl refl refl) g3 in
    goes_on nothing_declared (tunable_declared n (LocalTries, 0) ∷ []) s1 (tunable_declared n1 (LocalFallbackTries, 0) ∷ tunable_declared n2 (TotalTries, t.total_tries) ∷ tunable_declared n3 (DescendOnce, t.descend_once) ∷ tunable_declared n4 (VaryR, t.vary_r) ∷ tunable_declared n5 (Stable, t.stable) ∷ []) s6 (tunable_goes nothing_declared (LocalTries, 0) n (omega arith) refl refl refl) g2

-- ---- devices and types

device_goes : (m : Map) (before : List Device) (x : Device) → x.id ≤ NUMBER_LIMIT → device_fault (by_devices before) x ≡ None → (n : ℕ) → Goes (with_devices m before) (device_declared n x ∷ []) (with_devices m (before ++ x ∷ []))
device_goes m before x small passes n =
    let same : fitted x.id ≡ x.id = fits x.id small in
    let state = λ (k : SymbolTable) (y : Device). declared_so_far m.tunables [] (before ++ y ∷ []) [] [] k in
    one_goes (with_devices m before) (device_declared n x) (with_devices m (before ++ x ∷ []))
    (ap (at_line n) (ap (λ id. device_fault (by_devices before) (record { id = id; name = x.name })) same ∙ passes))
    (ap (λ id. state (with_device (by_devices before) (record { id = id; name = x.name })) (record { id = id; name = x.name })) same
    ∙ ap (λ k. state k x) (sym (fold_push with_device nothing before x)))

pub devices_go : (m : Map) → Sound m → (n : ℕ) → Goes (with_devices m []) (numbered device_declared (λ x. 1) n m.devices) (with_devices m m.devices)
devices_go m s n = along device_declared (λ x. 1) (with_devices m) m.devices (λ before x after e k.
    device_goes m before x (at_each (λ i others y. IsDeviceAt i y) m.devices s.devices before x after e).id
    (sym (device_judged m before x) ∙ at_each (λ i others y. device_fault (fold with_device (known_types (draft_of m)) others) y ≡ None) m.devices s.faultless.0.1 before x after e) k) n

type_goes : (m : Map) (before : List TypeName) (x : TypeName) → x.number ≤ NUMBER_LIMIT → type_fault (fold with_type (by_devices m.devices) before) x ≡ None → (n : ℕ) → Goes (with_types m before) (type_declared n x ∷ []) (with_types m (before ++ x ∷ []))
type_goes m before x small passes n =
    let same : fitted x.number ≡ x.number = fits x.number small in
    let known = fold with_type (by_devices m.devices) before in
    let state = λ (k : SymbolTable) (y : TypeName). declared_so_far m.tunables (before ++ y ∷ []) m.devices [] [] k in
    one_goes (with_types m before) (type_declared n x) (with_types m (before ++ x ∷ []))
    (ap (at_line n) (ap (λ number. type_fault known (record { number = number; name = x.name })) same ∙ passes))
    (ap (λ number. state (with_type known (record { number = number; name = x.name })) (record { number = number; name = x.name })) same
    ∙ ap (λ k. state k x) (sym (fold_push with_type (by_devices m.devices) before x)))

pub types_go : (m : Map) → Sound m → (n : ℕ) → Goes (with_types m []) (numbered type_declared (λ x. 1) n m.types) (with_types m m.types)
types_go m s n = along type_declared (λ x. 1) (with_types m) m.types (λ before x after e k.
    type_goes m before x (at_each (λ i others y. IsTypeAt i y) m.types s.types before x after e).number
    (type_judged m.devices before x ∙ at_each (λ i others y. type_fault (fold with_type nothing others) y ≡ None) m.types s.faultless.0.0 before x after e) k) n

-- ---- buckets

part_of : (m : Map) → Sound m → (before more : List Bucket) → m.buckets ≡ before ++ more → IsPart (with_buckets m before).draft m
part_of m s before more e = record { more = more; types = refl; devices = refl; buckets = e; type_names = s.type_names; item_names = s.item_names }

bucket_goes : (m : Map) → Sound m → (before : List Bucket) (b : Bucket) (after : List Bucket) → m.buckets ≡ before ++ b ∷ after → IsBucketAt m (length before) b →
    bucket_fault (fold with_bucket (known_devices (draft_of m)) before) b ≡ None → (n : ℕ) → Goes (with_buckets m before) (bucket_declared m n b ∷ []) (with_buckets m (before ++ b ∷ []))
unfolding declared_bucket_fault
bucket_goes m s before b after e is passes n =
    let known = fold with_bucket (known_devices (draft_of m)) before in
    let earlier : take (length before) m.buckets ≡ before = ap (take (length before)) e ∙ taken before b after in
    let items = subst (λ bs. AllByRecursion (λ x. has_item m.devices bs x.0.0 ≡ true) b.items) earlier (items_declared m (length before) b is) in
    let same : bucket_of (with_buckets m before).draft (bucket_written m n b) ≡ b = bucket_back (with_buckets m before).draft m n b (part_of m s before (b ∷ after) e) is.id is.typed items in
    let state = λ (k : SymbolTable) (y : Bucket). declared_so_far m.tunables m.types m.devices (before ++ y ∷ []) [] k in
    one_goes (with_buckets m before) (bucket_declared m n b) (with_buckets m (before ++ b ∷ []))
    (rw (no_wrong_place m b.items) (ap (at_line n) (ap (bucket_fault known) same ∙ passes)))
    (ap (λ y. state (with_bucket known y) y) same ∙ ap (λ k. state k b) (sym (fold_push with_bucket (known_devices (draft_of m)) before b)))

pub buckets_go : (m : Map) → Sound m → (n : ℕ) → Goes (with_buckets m []) (numbered (bucket_declared m) bucket_height n m.buckets) (with_buckets m m.buckets)
buckets_go m s n = along (bucket_declared m) bucket_height (with_buckets m) m.buckets (λ before b after e k.
    bucket_goes m s before b after e (at_each (λ i others y. IsBucketAt m i y) m.buckets s.buckets before b after e)
    (at_each (λ i others y. bucket_fault (fold with_bucket (known_devices (draft_of m)) others) y ≡ None) m.buckets s.faultless.0.2 before b after e) k) n

-- ---- rules

whole_part : (m : Map) → Sound m → (rules : List Rule) → IsPart (with_rules m rules).draft m
whole_part m s rules = record { more = []; types = refl; devices = refl; buckets = sym (append-nil m.buckets); type_names = s.type_names; item_names = s.item_names }

rule_goes : (m : Map) → Sound m → (before : List Rule) (r : Rule) → IsRuleAt m (length before) r → rule_fault (fold with_rule (known_buckets (draft_of m)) before) r ≡ None → (n : ℕ) →
    Goes (with_rules m before) (rule_declared m n r ∷ []) (with_rules m (before ++ r ∷ []))
rule_goes m s before r is passes n =
    let known = fold with_rule (known_buckets (draft_of m)) before in
    let part = whole_part m s before in
    let steps = all_by (IsStep m) r.steps is.steps in
    let same : rule_of (with_rules m before).draft (rule_written m n r) ≡ r = rule_back (with_rules m before).draft m n r part refl is.id steps in
    let state = λ (k : SymbolTable) (y : Rule). declared_so_far m.tunables m.types m.devices m.buckets (before ++ y ∷ []) k in
    one_goes (with_rules m before) (rule_declared m n r) (with_rules m (before ++ r ∷ []))
    (ap (at_line n) (rule_passes (with_rules m before) m n r part refl is.id steps passes))
    (ap (λ y. state (with_rule known y) y) same ∙ ap (λ k. state k r) (sym (fold_push with_rule (known_buckets (draft_of m)) before r)))

pub rules_go : (m : Map) → Sound m → (n : ℕ) → Goes (with_rules m []) (numbered (rule_declared m) rule_height n m.rules) (with_rules m m.rules)
rules_go m s n = along (rule_declared m) rule_height (with_rules m) m.rules (λ before r after e k.
    rule_goes m s before r (at_each (λ i others y. IsRuleAt m i y) m.rules s.rules before r after e)
    (at_each (λ i others y. rule_fault (fold with_rule (known_buckets (draft_of m)) others) y ≡ None) m.rules s.faultless.0.3 before r after e) k) n

-- ---- all of a map

-- the declarations of a map, on any lines
abbrev pub declarations_of : Map → ℕ → ℕ → ℕ → ℕ → ℕ → List Declaration
declarations_of m i j k l n =
    (numbered tunable_declared (λ x. 1) i (tunables_of m.tunables) ++ (numbered device_declared (λ x. 1) j m.devices ++ numbered type_declared (λ x. 1) k m.types))
    ++ (numbered (bucket_declared m) bucket_height l m.buckets ++ numbered (rule_declared m) rule_height n m.rules)

pub map_goes : (m : Map) → Sound m → (i j k l n : ℕ) → Goes nothing_declared (declarations_of m i j k l n) (with_rules m m.rules)
map_goes m s i j k l n =
    let types = subst (λ x. Goes (with_types m []) (numbered type_declared (λ x. 1) k m.types) (declared_so_far m.tunables m.types m.devices [] [] x)) (either_order m) (types_go m s k) in
    let behind = goes_on (with_devices m []) (numbered device_declared (λ x. 1) j m.devices) (with_types m []) (numbered type_declared (λ x. 1) k m.types) (with_buckets m []) (devices_go m s j) types in
    let early = goes_on nothing_declared (numbered tunable_declared (λ x. 1) i (tunables_of m.tunables)) (with_devices m []) (numbered device_declared (λ x. 1) j m.devices ++ numbered type_declared (λ x. 1) k m.types) (with_buckets m []) (tunables_go m s.tunables i) behind in
    let late = goes_on (with_buckets m []) (numbered (bucket_declared m) bucket_height l m.buckets) (with_rules m []) (numbered (rule_declared m) rule_height n m.rules) (with_rules m m.rules) (buckets_go m s l) (rules_go m s n) in
    goes_on nothing_declared (numbered tunable_declared (λ x. 1) i (tunables_of m.tunables) ++ (numbered device_declared (λ x. 1) j m.devices ++ numbered type_declared (λ x. 1) k m.types)) (with_buckets m [])
    (numbered (bucket_declared m) bucket_height l m.buckets ++ numbered (rule_declared m) rule_height n m.rules) (with_rules m m.rules) early late
