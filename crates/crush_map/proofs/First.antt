-- The first fault of a draft is at the place that it names, and nothing before it has one.
use Rattle.std.proofs.Common.{arith, ◌≡◌, ◌∙◌, ◌<◌, ◌+◌, Option, Some, None, List, [], ◌∷◌, ℕ, zero, suc, refl, sym, ap, take, fold, slice_get, IfSome, ◌⊎◌, inl, inr}
use Rattle.crush_map.specs.declared.fault.FaultCode.{FaultCode}
use Rattle.crush_map.specs.declared.fault.Element.{Element}
use Rattle.crush_map.specs.declared.fault.Element.TheVariants.{Types, Devices, Buckets, Rules, End}
use Rattle.crush_map.specs.declared.fault.MapFault.{MapFault}
use Rattle.crush_map.specs.declared.draft.MapDraft.{MapDraft}
use Rattle.crush_map.specs.Faults.{SymbolTable, nothing, or_else, at, at_place, first_in, first_fault, element_fault, type_fault, device_fault, bucket_fault, rule_fault, end_fault, with_type, with_device, with_bucket, with_rule, known_types, known_devices, known_buckets, known_rules}
use Rattle.crush_map.specs.Laws.{Pass, FailsFirst, IsFirstFault, HasNoFault, HasNoElementFault, TypesPass, DevicesPass, BucketsPass}
use Rattle.crush_map.proofs.Passing.{first_none, second_none}
use Rattle.crush_map.proofs.Reordered.{not_placed}
use Rattle.crush_map.proofs.Valid.{parts}

some_is : {A : Type 0} (x y : A) → Some x ≡ Some y → x ≡ y
some_is x y h = cc

-- ---- no fault

pub pass : {X : Type 0} (element : Element) (check : SymbolTable → X → Option FaultCode) (with : SymbolTable → X → SymbolTable) (n : ℕ) (k : SymbolTable) (xs : List X) →
    first_in element check with n k xs ≡ None → Pass check with k xs
unfolding first_in
pass element check with n k [] h i = tt
pass element check with n k (x ∷ xs) h zero = not_placed element n (check k x) (first_none (at_place element n (check k x)) _ h)
pass element check with n k (x ∷ xs) h (suc i) = pass element check with (n + 1) (with k x) xs (second_none (at_place element n (check k x)) _ h) i

-- ---- a fault

record Found {X : Type 0} (element : Element) (check : SymbolTable → X → Option FaultCode) (with : SymbolTable → X → SymbolTable) (n : ℕ) (k : SymbolTable) (xs : List X) (f : MapFault) : Type 0 where
  pub i : ℕ
  pub place : f ≡ at element (n + i) f.code
  pub first : FailsFirst check with k xs i f.code

earlier : {X : Type 0} (check : SymbolTable → X → Option FaultCode) (with : SymbolTable → X → SymbolTable) (k : SymbolTable) (x : X) (xs : List X) (i : ℕ) → check k x ≡ None →
    ((j : ℕ) → j < i → IfSome (slice_get xs j) (λ y. check (fold with (with k x) (take j xs)) y ≡ None)) →
    (j : ℕ) → j < suc i → IfSome (slice_get (x ∷ xs) j) (λ y. check (fold with k (take j (x ∷ xs))) y ≡ None)
earlier check with k x xs i e more zero short = e
earlier check with k x xs i e more (suc j) short = more j (omega arith)

found_by : {X : Type 0} (element : Element) (check : SymbolTable → X → Option FaultCode) (with : SymbolTable → X → SymbolTable) (n : ℕ) (k : SymbolTable) (x : X) (xs : List X) (f : MapFault) (o : Option FaultCode) → check k x ≡ o →
    or_else (at_place element n o) (first_in element check with (n + 1) (with k x) xs) ≡ Some f →
    (first_in element check with (n + 1) (with k x) xs ≡ Some f → Found element check with (n + 1) (with k x) xs f) → Found element check with n k (x ∷ xs) f
found_by element check with n k x xs f (Some code) e h more =
    let s = some_is (at element n code) f h in
    let c : code ≡ f.code = ap (λ g. g.code) s in
    let zeroth : n ≡ n + 0 = omega arith in
    record {
      i = 0;
      place = sym s ∙ (ap (at element n) c ∙ ap (λ m. at element m f.code) zeroth);
      first = (e ∙ ap (λ v. Some v) c, λ j short. absurd (omega arith));
    }
found_by element check with n k x xs f None e h more =
    let r = more h in
    let later : (n + 1) + r.i ≡ n + suc r.i = omega arith in
    record {
      i = suc r.i;
      place = r.place ∙ ap (λ m. at element m f.code) later;
      first = (r.first.0, earlier check with k x xs r.i e r.first.1);
    }

found : {X : Type 0} (element : Element) (check : SymbolTable → X → Option FaultCode) (with : SymbolTable → X → SymbolTable) (n : ℕ) (k : SymbolTable) (xs : List X) (f : MapFault) →
    first_in element check with n k xs ≡ Some f → Found element check with n k xs f
unfolding first_in
found element check with n k [] f h = cc
found element check with n k (x ∷ xs) f h =
    found_by element check with n k x xs f (check k x) refl h (λ later. found element check with (n + 1) (with k x) xs f later)

-- the first fault of a list has the list's name and is at its index
record FirstOf {X : Type 0} (element : Element) (check : SymbolTable → X → Option FaultCode) (with : SymbolTable → X → SymbolTable) (k : SymbolTable) (xs : List X) (f : MapFault) : Type 0 where
  pub element_is : f.element ≡ element
  pub first : FailsFirst check with k xs f.index f.code

first_of_list : {X : Type 0} (element : Element) (check : SymbolTable → X → Option FaultCode) (with : SymbolTable → X → SymbolTable) (k : SymbolTable) (xs : List X) (f : MapFault) →
    first_in element check with 0 k xs ≡ Some f → FirstOf element check with k xs f
first_of_list element check with k xs f h =
    let r = found element check with 0 k xs f h in
    let zeroth : 0 + r.i ≡ r.i = omega arith in
    let here : f.index ≡ r.i = ap (λ g. g.index) r.place ∙ zeroth in
    record { element_is = ap (λ g. g.element) r.place; first = rw here r.first }

-- ---- a whole draft

pub none_stands : (d : MapDraft) → first_fault d ≡ None → HasNoFault d
none_stands d h =
    let f = parts d h in (
      (
        pass Types type_fault with_type 0 nothing d.types f.types,
        pass Devices device_fault with_device 0 (known_types d) d.devices f.devices,
        pass Buckets bucket_fault with_bucket 0 (known_devices d) d.buckets f.buckets,
        pass Rules rule_fault with_rule 0 (known_buckets d) d.rules f.rules,
      ),
      f.end,
    )

-- a value of `or_else` is the first's, or the first has none and it is the second's
either : {X : Type 0} (first second : Option X) (f : X) → or_else first second ≡ Some f → (first ≡ Some f) ⊎ ((first ≡ None) × (second ≡ Some f))
either None second f h = inr (refl, h)
either (Some x) second f h = inl h

at_end : (d : MapDraft) (f : MapFault) (o : Option FaultCode) → end_fault (known_rules d) d.tunables d.local_tries d.local_fallback_tries ≡ o →
    HasNoElementFault d → at_place End 0 o ≡ Some f → IsFirstFault d f.element f.index f.code
at_end d f None e none h = cc
at_end d f (Some code) e none h =
    let s = some_is (at End 0 code) f h in
    let element : f.element ≡ End = ap (λ g. g.element) (sym s) in
    let index : f.index ≡ 0 = ap (λ g. g.index) (sym s) in
    let c : code ≡ f.code = ap (λ g. g.code) s in
    rw element (none, index, e ∙ ap (λ v. Some v) c)

rules_stand : (d : MapDraft) (f : MapFault) → TypesPass d → DevicesPass d → BucketsPass d → first_in Rules rule_fault with_rule 0 (known_buckets d) d.rules ≡ Some f → IsFirstFault d f.element f.index f.code
rules_stand d f ts ds bs h =
    let r = first_of_list Rules rule_fault with_rule (known_buckets d) d.rules f h in
    rw r.element_is (ts, ds, bs, r.first)

buckets_stand : (d : MapDraft) (f : MapFault) → TypesPass d → DevicesPass d → first_in Buckets bucket_fault with_bucket 0 (known_devices d) d.buckets ≡ Some f → IsFirstFault d f.element f.index f.code
buckets_stand d f ts ds h =
    let r = first_of_list Buckets bucket_fault with_bucket (known_devices d) d.buckets f h in
    rw r.element_is (ts, ds, r.first)

devices_stand : (d : MapDraft) (f : MapFault) → TypesPass d → first_in Devices device_fault with_device 0 (known_types d) d.devices ≡ Some f → IsFirstFault d f.element f.index f.code
devices_stand d f ts h =
    let r = first_of_list Devices device_fault with_device (known_types d) d.devices f h in
    rw r.element_is (ts, r.first)

types_stand : (d : MapDraft) (f : MapFault) → first_in Types type_fault with_type 0 nothing d.types ≡ Some f → IsFirstFault d f.element f.index f.code
types_stand d f h =
    let r = first_of_list Types type_fault with_type nothing d.types f h in
    rw r.element_is r.first

abbrev types_in : MapDraft → Option MapFault
types_in d = first_in Types type_fault with_type 0 nothing d.types

abbrev devices_in : MapDraft → Option MapFault
devices_in d = first_in Devices device_fault with_device 0 (known_types d) d.devices

abbrev buckets_in : MapDraft → Option MapFault
buckets_in d = first_in Buckets bucket_fault with_bucket 0 (known_devices d) d.buckets

abbrev rules_in : MapDraft → Option MapFault
rules_in d = first_in Rules rule_fault with_rule 0 (known_buckets d) d.rules

element_stands : (d : MapDraft) (f : MapFault) → element_fault d ≡ Some f → IsFirstFault d f.element f.index f.code
unfolding element_fault
element_stands d f h =
    elim (either (types_in d) (or_else (devices_in d) (or_else (buckets_in d) (rules_in d))) f h) as (λ _. IsFirstFault d f.element f.index f.code) [
      | inl e ↦ types_stand d f e
      | inr p ↦
          let ts = pass Types type_fault with_type 0 nothing d.types p.0 in
          elim (either (devices_in d) (or_else (buckets_in d) (rules_in d)) f p.1) as (λ _. IsFirstFault d f.element f.index f.code) [
            | inl e ↦ devices_stand d f ts e
            | inr q ↦
                let ds = pass Devices device_fault with_device 0 (known_types d) d.devices q.0 in
                elim (either (buckets_in d) (rules_in d) f q.1) as (λ _. IsFirstFault d f.element f.index f.code) [
                  | inl e ↦ buckets_stand d f ts ds e
                  | inr r ↦ rules_stand d f ts ds (pass Buckets bucket_fault with_bucket 0 (known_devices d) d.buckets r.0) r.1
                ]
          ]
    ]

no_element : (d : MapDraft) → element_fault d ≡ None → HasNoElementFault d
unfolding element_fault
no_element d h =
    let behind_types = second_none _ _ h in
    let behind_devices = second_none _ _ behind_types in (
      pass Types type_fault with_type 0 nothing d.types (first_none _ _ h),
      pass Devices device_fault with_device 0 (known_types d) d.devices (first_none _ _ behind_types),
      pass Buckets bucket_fault with_bucket 0 (known_devices d) d.buckets (first_none _ _ behind_devices),
      pass Rules rule_fault with_rule 0 (known_buckets d) d.rules (second_none _ _ behind_devices),
    )

pub fault_stands : (d : MapDraft) (f : MapFault) → first_fault d ≡ Some f → IsFirstFault d f.element f.index f.code
unfolding first_fault
fault_stands d f h =
    elim (either (element_fault d) (at_place End 0 (end_fault (known_rules d) d.tunables d.local_tries d.local_fallback_tries)) f h) as (λ _. IsFirstFault d f.element f.index f.code) [
      | inl e ↦ element_stands d f e
      | inr p ↦ at_end d f _ refl (no_element d p.0) p.1
    ]
