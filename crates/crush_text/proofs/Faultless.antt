-- Declarations without a fault are a draft without one.
--
-- Only rules are judged by different knowledge: in a text a rule may stand before a bucket.
use Rattle.std.proofs.Common.{◌≡◌, ◌∙◌, ◌+◌, ◌==◌, ◌||◌, ◌&&◌, nat_lt, nat_le, length, Bool, true, false, not, Option, Some, None, List, [], ◌∷◌, ◌++◌, ℕ, ℤ, pos, negsuc, refl, sym, ap, map, fold}
use Rattle.std.proofs.lemmas.List.Folds.{list_any-append}
use Rattle.std.proofs.lemmas.List.Sums.{fold-append}
use Rattle.crush_map.specs.declared.limits.TheConstants.{BUCKET_LIMIT, ITEM_LIMIT}
use Rattle.crush_map.specs.crush_types.specs.Weights.{has_equal_weights}
use Rattle.crush_map.specs.declared.fault.FaultCode.{FaultCode}
use Rattle.crush_map.specs.declared.fault.FaultCode.TheVariants.{M1, M2, M3, M4, M5, M6, M7, M8, M9, M10, M12, M15}
use Rattle.crush_map.specs.declared.fault.Element.{Element}
use Rattle.crush_map.specs.declared.fault.Element.TheVariants.{Types, Devices, Buckets, Rules, End}
use Rattle.crush_map.specs.declared.draft.TypeName.{TypeName}
use Rattle.crush_map.specs.declared.draft.Device.{Device}
use Rattle.crush_map.specs.declared.draft.Bucket.{Bucket}
use Rattle.crush_map.specs.declared.draft.Step.{Step}
use Rattle.crush_map.specs.declared.draft.Step.TheVariants as draft_steps
use Rattle.crush_map.specs.declared.draft.Rule.{Rule}
use Rattle.crush_map.specs.crush_types.specs.declared.ItemId.{ItemId}
use Rattle.crush_map.specs.crush_types.specs.declared.Weight.{Weight}
use Rattle.crush_map.specs.crush_types.specs.declared.Kind.{Kind}
use Rattle.crush_map.specs.Faults.{SymbolTable, Ids, first_of, or_else, ◌when◌, at_place, first_in, nothing, no_ids, has_number, has_id, has_name, with_id, is_name, is_bucket_id, is_too_heavy, items_fault, contents_fault, type_fault, device_fault, bucket_fault, rule_fault, choose_fault, step_fault, steps_fault, rule_head_checks, end_fault, with_type, with_device, with_bucket, with_rule, known_types, known_devices, known_buckets, known_rules, element_fault, first_fault}
use Rattle.crush_map.specs.crush_types.specs.Kinds.{is_uniform}
use Rattle.crush_grammar.specs.Syntax.{Text, Early, Late, early_declares, late_declares, text_declares}
use Rattle.crush_grammar.specs.Syntax.Early.{ATunable, ADevice, AType}
use Rattle.crush_grammar.specs.Syntax.Late.{ABucket, ARule}
use Rattle.crush_grammar.specs.declared.declaration.TunableName.{TunableName}
use Rattle.crush_grammar.specs.declared.declaration.TunableName.TheVariants.{LocalTries, LocalFallbackTries, TotalTries, DescendOnce, VaryR, Stable, StrawCalcVersion, AllowedBucketAlgs}
use Rattle.crush_text.specs.Judging.{Declared, nothing_declared, with_tunable, declared_bucket_fault, declaration_fault, declare, declared_from, fault_from, declared, declared_fault}
use Rattle.crush_text.proofs.Checks.{first_none, second_none, both_none, fails, last_of}
use Rattle.crush_text.proofs.Kept.{no_fault, rule_passes}

-- ---- one more element

place_none : (e : Element) (i : ℕ) (o : Option FaultCode) → o ≡ None → at_place e i o ≡ None
place_none e i None h = refl
place_none e i (Some code) h = cc

none_place : (e : Element) (i : ℕ) (o : Option FaultCode) → at_place e i o ≡ None → o ≡ None
none_place e i None h = refl
none_place e i (Some code) h = cc

-- behind elements without a fault, one without a fault
one_more : {X : Type 0} (e : Element) (check : SymbolTable → X → Option FaultCode) (with : SymbolTable → X → SymbolTable) (i : ℕ) (known : SymbolTable) (xs : List X) (x : X) →
    first_in e check with i known xs ≡ None → check (fold with known xs) x ≡ None → first_in e check with i known (xs ++ x ∷ []) ≡ None
unfolding first_in
one_more e check with i known [] x h k = both_none _ _ (place_none e i (check known x) k) refl
one_more e check with i known (y ∷ xs) x h k =
    both_none _ _ (first_none (at_place e i (check known y)) _ h) (one_more e check with (i + 1) (with known y) xs x (second_none (at_place e i (check known y)) _ h) k)

-- elements have no fault behind other knowledge, where each check and each further knowledge goes
-- over to it
as_well : {X : Type 0} (e : Element) (check : SymbolTable → X → Option FaultCode) (with : SymbolTable → X → SymbolTable) (other : SymbolTable → SymbolTable) →
    ((known : SymbolTable) (x : X) → check known x ≡ None → check (other known) x ≡ None) → ((known : SymbolTable) (x : X) → with (other known) x ≡ other (with known x)) →
    (i : ℕ) (known : SymbolTable) (xs : List X) → first_in e check with i known xs ≡ None → first_in e check with i (other known) xs ≡ None
unfolding first_in
as_well e check with other same swap i known [] h = refl
as_well e check with other same swap i known (x ∷ xs) h =
    let here = same known x (none_place e i (check known x) (first_none (at_place e i (check known x)) _ h)) in
    both_none _ _ (place_none e i (check (other known) x) here) (rw (swap known x) (as_well e check with other same swap (i + 1) (with known x) xs (second_none (at_place e i (check known x)) _ h)))

fold_swap : {X : Type 0} (with : SymbolTable → X → SymbolTable) (other : SymbolTable → SymbolTable) → ((known : SymbolTable) (x : X) → with (other known) x ≡ other (with known x)) → (known : SymbolTable) (xs : List X) → fold with (other known) xs ≡ other (fold with known xs)
fold_swap with other swap known [] = refl
fold_swap with other swap known (x ∷ xs) = rw (swap known x) (fold_swap with other swap (with known x) xs)

-- ---- what checks rest on

-- a device is judged without the types
device_as_well : (t : TypeName) (known : SymbolTable) (d : Device) → device_fault known d ≡ None → device_fault (with_type known t) d ≡ None
unfolding device_fault
device_as_well t known d h = h

items_as_well : (r : Rule) (known : SymbolTable) (before : Ids) (items : List (ItemId × Weight)) → items_fault (with_rule known r) before items ≡ items_fault known before items
unfolding items_fault
items_as_well r known before [] = refl
items_as_well r known before (item ∷ items) =
    ap (λ o. first_of ((M5 when not (has_id known.items item.0.0)) ∷ (M6 when has_id before item.0.0) ∷ o ∷ [])) (items_as_well r known (with_id before item.0.0) items)

contents_as_well : (r : Rule) (known : SymbolTable) (alg : Kind) (items : List (ItemId × Weight)) → contents_fault (with_rule known r) alg items ≡ contents_fault known alg items
unfolding contents_fault
contents_as_well r known alg items =
    ap (λ o. first_of (o ∷ (M8 when (is_uniform alg && not (has_equal_weights items))) ∷ (M7 when is_too_heavy alg items) ∷ [])) (items_as_well r known no_ids items)

-- a bucket is judged without the rules
bucket_as_well : (r : Rule) (known : SymbolTable) (b : Bucket) → bucket_fault (with_rule known r) b ≡ bucket_fault known b
unfolding bucket_fault
bucket_as_well r known b =
    ap (λ o. first_of (
    (M1 when nat_le BUCKET_LIMIT (length known.items.buckets))
    ∷ (M12 when not (is_bucket_id b.id.0))
    ∷ (M2 when has_id known.items b.id.0)
    ∷ (M15 when not (is_name b.name))
    ∷ (M3 when has_name known.item_names b.name)
    ∷ (M4 when not (has_number known.types b.kind_of))
    ∷ (M9 when (b.kind_of == 0))
    ∷ (M1 when nat_lt ITEM_LIMIT (length b.items))
    ∷ o
    ∷ []
    )) (contents_as_well r known b.alg b.items)

without_rules : (known : SymbolTable) (rs : List Rule) (b : Bucket) → bucket_fault (fold with_rule known rs) b ≡ None → bucket_fault known b ≡ None
without_rules known [] b h = h
without_rules known (r ∷ rs) b h = sym (bucket_as_well r known b) ∙ without_rules (with_rule known r) rs b h

-- ---- rules behind one more bucket

or_more : (a b : Bool) → a ≡ true → (a || b) ≡ true
or_more true b h = refl
or_more false b h = cc

number_as_well : (numbers : List ℕ) (n m : ℕ) → has_number numbers m ≡ true → has_number (numbers ++ n ∷ []) m ≡ true
number_as_well numbers n m h = list_any-append (λ k. k == m) numbers (n ∷ []) ∙ or_more (has_number numbers m) _ h

id_as_well : (ids : Ids) (j id : ℤ) → has_id ids id ≡ true → has_id (with_id ids j) id ≡ true
id_as_well ids (pos n) (pos m) h = number_as_well ids.devices n m h
id_as_well ids (pos n) (negsuc m) h = h
id_as_well ids (negsuc n) (pos m) h = h
id_as_well ids (negsuc n) (negsuc m) h = number_as_well ids.buckets n m h

not_false : (b : Bool) → not b ≡ false → b ≡ true
not_false true h = refl
not_false false h = cc

take_none : (b : Bool) → b ≡ true → (M10 when not b) ≡ None
take_none true h = refl
take_none false h = cc

step_as_well : (b : Bucket) (known : SymbolTable) (step : Step) → step_fault known step ≡ None → step_fault (with_bucket known b) step ≡ None
unfolding step_fault choose_fault
step_as_well b known (draft_steps.Take id) h = take_none _ (id_as_well known.items b.id.0 id.0 (not_false (has_id known.items id.0) (fails M10 (not (has_id known.items id.0)) h)))
step_as_well b known (draft_steps.SetChooseTries tries) h = h
step_as_well b known (draft_steps.SetLeafTries tries) h = h
step_as_well b known (draft_steps.SetVaryR value) h = h
step_as_well b known (draft_steps.SetStable value) h = h
step_as_well b known (draft_steps.Choose firstn leaf n wanted) h = h
step_as_well b known draft_steps.Emit h = h

steps_as_well : (b : Bucket) (known : SymbolTable) (xs : List Step) → steps_fault known xs ≡ None → steps_fault (with_bucket known b) xs ≡ None
steps_as_well b known [] h = refl
steps_as_well b known (x ∷ xs) h =
    both_none _ _ (step_as_well b known x (first_none (step_fault known x) _ h)) (steps_as_well b known xs (second_none (step_fault known x) _ h))

-- a rule without a fault has none where one more bucket is known
rule_as_well : (b : Bucket) (known : SymbolTable) (r : Rule) → rule_fault known r ≡ None → rule_fault (with_bucket known b) r ≡ None
unfolding rule_fault
rule_as_well b known r h =
    let parts : or_else (first_of (rule_head_checks known r)) (steps_fault known r.steps) ≡ None = sym (last_of (rule_head_checks known r) (steps_fault known r.steps)) ∙ h in
    last_of (rule_head_checks (with_bucket known b) r) (steps_fault (with_bucket known b) r.steps)
    ∙ both_none _ _ (first_none (first_of (rule_head_checks known r)) (steps_fault known r.steps) parts) (steps_as_well b known r.steps (second_none (first_of (rule_head_checks known r)) _ parts))

-- ---- tunables, types and devices

-- no bucket and no rule is declared yet; no type and no device has a fault, and they are what is
-- known
pub record EarlySound (s : Declared) : Type 0 where
  pub no_buckets : s.draft.buckets ≡ []
  pub no_rules : s.draft.rules ≡ []
  pub types : first_in Types type_fault with_type 0 nothing s.draft.types ≡ None
  pub devices : first_in Devices device_fault with_device 0 (known_types s.draft) s.draft.devices ≡ None
  pub known : s.known ≡ known_devices s.draft

early_tunable : (s : Declared) (name : TunableName) (value : ℕ) (named : List TunableName) → EarlySound s → EarlySound (record s { draft = with_tunable s.draft name value; tunables = named })
early_tunable s LocalTries value named h = record { no_buckets = h.no_buckets; no_rules = h.no_rules; types = h.types; devices = h.devices; known = h.known }
early_tunable s LocalFallbackTries value named h = record { no_buckets = h.no_buckets; no_rules = h.no_rules; types = h.types; devices = h.devices; known = h.known }
early_tunable s TotalTries value named h = record { no_buckets = h.no_buckets; no_rules = h.no_rules; types = h.types; devices = h.devices; known = h.known }
early_tunable s DescendOnce value named h = record { no_buckets = h.no_buckets; no_rules = h.no_rules; types = h.types; devices = h.devices; known = h.known }
early_tunable s VaryR value named h = record { no_buckets = h.no_buckets; no_rules = h.no_rules; types = h.types; devices = h.devices; known = h.known }
early_tunable s Stable value named h = record { no_buckets = h.no_buckets; no_rules = h.no_rules; types = h.types; devices = h.devices; known = h.known }
early_tunable s StrawCalcVersion value named h = record { no_buckets = h.no_buckets; no_rules = h.no_rules; types = h.types; devices = h.devices; known = h.known }
early_tunable s AllowedBucketAlgs value named h = record { no_buckets = h.no_buckets; no_rules = h.no_rules; types = h.types; devices = h.devices; known = h.known }

early_device : (s : Declared) (d : Device) → device_fault s.known d ≡ None → EarlySound s → EarlySound (record s { draft = record s.draft { devices = s.draft.devices ++ d ∷ [] }; known = with_device s.known d })
early_device s d clean h = record {
  no_buckets = h.no_buckets;
  no_rules = h.no_rules;
  types = h.types;
  devices = one_more Devices device_fault with_device 0 (known_types s.draft) s.draft.devices d h.devices (ap (λ k. device_fault k d) (sym h.known) ∙ clean);
  known = ap (λ k. with_device k d) h.known ∙ sym (fold-append with_device (known_types s.draft) s.draft.devices (d ∷ []));
}

-- a type is judged by the types alone
type_alone : (known : SymbolTable) (ds : List Device) (t : TypeName) → type_fault (fold with_device known ds) t ≡ type_fault known t
unfolding type_fault
type_alone known [] t = refl
type_alone known (d ∷ ds) t = type_alone (with_device known d) ds t

early_type : (s : Declared) (t : TypeName) → type_fault s.known t ≡ None → EarlySound s → EarlySound (record s { draft = record s.draft { types = s.draft.types ++ t ∷ [] }; known = with_type s.known t })
early_type s t clean h =
    let behind : known_types (record s.draft { types = s.draft.types ++ t ∷ [] }) ≡ with_type (known_types s.draft) t = fold-append with_type nothing s.draft.types (t ∷ []) in
    record {
      no_buckets = h.no_buckets;
      no_rules = h.no_rules;
      types = one_more Types type_fault with_type 0 nothing s.draft.types t h.types (sym (type_alone (known_types s.draft) s.draft.devices t) ∙ (ap (λ k. type_fault k t) (sym h.known) ∙ clean));
      devices = ap (λ k. first_in Devices device_fault with_device 0 k s.draft.devices) behind ∙ as_well Devices device_fault with_device (λ k. with_type k t) (device_as_well t) (λ k d. refl) 0 (known_types s.draft) s.draft.devices h.devices;
      known = ap (λ k. with_type k t) h.known ∙ sym (ap (λ k. fold with_device k s.draft.devices) behind ∙ fold_swap with_device (λ k. with_type k t) (λ k d. refl) (known_types s.draft) s.draft.devices);
    }

early_step : (s : Declared) (e : Early) → declaration_fault s (early_declares e) ≡ None → EarlySound s → EarlySound (declare s (early_declares e))
early_step s (ATunable t) clean h = early_tunable s t.name.value _ _ h
early_step s (ADevice d) clean h = early_device s _ (no_fault d.device.word.line _ clean) h
early_step s (AType t) clean h = early_type s _ (no_fault t.type.word.line _ clean) h

-- ---- buckets and rules

-- nothing that is declared has a fault as a draft, and it is what is known
pub record LateSound (s : Declared) : Type 0 where
  pub types : first_in Types type_fault with_type 0 nothing s.draft.types ≡ None
  pub devices : first_in Devices device_fault with_device 0 (known_types s.draft) s.draft.devices ≡ None
  pub buckets : first_in Buckets bucket_fault with_bucket 0 (known_devices s.draft) s.draft.buckets ≡ None
  pub rules : first_in Rules rule_fault with_rule 0 (known_buckets s.draft) s.draft.rules ≡ None
  pub known : s.known ≡ known_rules s.draft

none_yet : {X : Type 0} (e : Element) (check : SymbolTable → X → Option FaultCode) (with : SymbolTable → X → SymbolTable) (known : SymbolTable) (xs : List X) → xs ≡ [] → first_in e check with 0 known xs ≡ None
unfolding first_in
none_yet e check with known [] h = refl
none_yet e check with known (x ∷ xs) h = cc

fold_none : {X : Type 0} (with : SymbolTable → X → SymbolTable) (known : SymbolTable) (xs : List X) → xs ≡ [] → known ≡ fold with known xs
fold_none with known [] h = refl
fold_none with known (x ∷ xs) h = cc

late : (s : Declared) → EarlySound s → LateSound s
late s h = record {
  types = h.types;
  devices = h.devices;
  buckets = none_yet Buckets bucket_fault with_bucket (known_devices s.draft) s.draft.buckets h.no_buckets;
  rules = none_yet Rules rule_fault with_rule (known_buckets s.draft) s.draft.rules h.no_rules;
  known = h.known ∙ fold_none with_bucket (known_devices s.draft) s.draft.buckets h.no_buckets ∙ fold_none with_rule (known_buckets s.draft) s.draft.rules h.no_rules;
}

late_bucket : (s : Declared) (b : Bucket) → bucket_fault s.known b ≡ None → LateSound s → LateSound (record s { draft = record s.draft { buckets = s.draft.buckets ++ b ∷ [] }; known = with_bucket s.known b })
late_bucket s b clean h =
    let behind : known_buckets (record s.draft { buckets = s.draft.buckets ++ b ∷ [] }) ≡ with_bucket (known_buckets s.draft) b = fold-append with_bucket (known_devices s.draft) s.draft.buckets (b ∷ []) in
    record {
      types = h.types;
      devices = h.devices;
      buckets = one_more Buckets bucket_fault with_bucket 0 (known_devices s.draft) s.draft.buckets b h.buckets (without_rules (known_buckets s.draft) s.draft.rules b (ap (λ k. bucket_fault k b) (sym h.known) ∙ clean));
      rules = ap (λ k. first_in Rules rule_fault with_rule 0 k s.draft.rules) behind ∙ as_well Rules rule_fault with_rule (λ k. with_bucket k b) (rule_as_well b) (λ k r. refl) 0 (known_buckets s.draft) s.draft.rules h.rules;
      known = ap (λ k. with_bucket k b) h.known ∙ sym (ap (λ k. fold with_rule k s.draft.rules) behind ∙ fold_swap with_rule (λ k. with_bucket k b) (λ k r. refl) (known_buckets s.draft) s.draft.rules);
    }

late_rule : (s : Declared) (r : Rule) → rule_fault s.known r ≡ None → LateSound s → LateSound (record s { draft = record s.draft { rules = s.draft.rules ++ r ∷ [] }; known = with_rule s.known r })
late_rule s r clean h = record {
  types = h.types;
  devices = h.devices;
  buckets = h.buckets;
  rules = one_more Rules rule_fault with_rule 0 (known_buckets s.draft) s.draft.rules r h.rules (ap (λ k. rule_fault k r) (sym h.known) ∙ clean);
  known = ap (λ k. with_rule k r) h.known ∙ sym (fold-append with_rule (known_buckets s.draft) s.draft.rules (r ∷ []));
}

late_step : (s : Declared) (l : Late) → declaration_fault s (late_declares l) ≡ None → LateSound s → LateSound (declare s (late_declares l))
unfolding declared_bucket_fault
late_step s (ABucket b) clean h = late_bucket s _ (no_fault b.type_name.word.line _ (second_none _ _ clean)) h
late_step s (ARule r) clean h = late_rule s _ (rule_passes s _ (no_fault r.rule.word.line _ clean)) h

-- ---- whole texts

late_all : (s : Declared) (ls : List Late) → fault_from s (map late_declares ls) ≡ None → LateSound s → LateSound (declared_from s (map late_declares ls))
unfolding fault_from
late_all s [] clean h = h
late_all s (l ∷ ls) clean h =
    late_all (declare s (late_declares l)) ls (second_none (declaration_fault s (late_declares l)) _ clean)
    (late_step s l (first_none (declaration_fault s (late_declares l)) _ clean) h)

early_all : (s : Declared) (es : List Early) (ls : List Late) → fault_from s (map early_declares es ++ map late_declares ls) ≡ None → EarlySound s → LateSound (declared_from s (map early_declares es ++ map late_declares ls))
unfolding fault_from
early_all s [] ls clean h = late_all s ls clean (late s h)
early_all s (e ∷ es) ls clean h =
    early_all (declare s (early_declares e)) es ls (second_none (declaration_fault s (early_declares e)) _ clean)
    (early_step s e (first_none (declaration_fault s (early_declares e)) _ clean) h)

at_first : EarlySound nothing_declared
unfolding first_in
at_first = record { no_buckets = refl; no_rules = refl; types = refl; devices = refl; known = refl }

sound_draft : (s : Declared) → LateSound s → end_fault s.known s.draft.tunables s.draft.local_tries s.draft.local_fallback_tries ≡ None → first_fault s.draft ≡ None
unfolding first_fault element_fault
sound_draft s h end =
    both_none _ _ (both_none _ _ h.types (both_none _ _ h.devices (both_none _ _ h.buckets h.rules)))
    (ap (λ k. at_place End 0 (end_fault k s.draft.tunables s.draft.local_tries s.draft.local_fallback_tries)) (sym h.known) ∙ place_none End 0 _ end)

-- a text of the form whose declarations and whose end have no fault declares a draft without one
pub faultless : (t : Text) → declared_fault (text_declares t) ≡ None →
    end_fault (declared (text_declares t)).known (declared (text_declares t)).draft.tunables (declared (text_declares t)).draft.local_tries (declared (text_declares t)).draft.local_fallback_tries ≡ None →
    first_fault (declared (text_declares t)).draft ≡ None
faultless t clean end = sound_draft (declared (text_declares t)) (early_all nothing_declared t.early t.late clean at_first) end
