-- What is declared, in two orders: the checks of a next element answer the same.
use Rattle.std.proofs.Common.{◌≡◌, ◌==◌, ◌+◌, Option, List, [], ◌∷◌, ℕ, ℤ, pos, negsuc, refl, map, fold}
use Rattle.std.specs.Str.{bytes_eq}
use Rattle.std.specs.List.Sorted.{IsPermutation}
use Rattle.std.proofs.lemmas.List.Sorted.{IsPermutation-refl, IsPermutation-append_left, list_any-IsPermutation, length_permutation}
use Rattle.crush_map.specs.declared.fault.FaultCode.{FaultCode}
use Rattle.crush_map.specs.declared.fault.Element.{Element}
use Rattle.crush_map.specs.declared.draft.Device.{Device}
use Rattle.crush_map.specs.declared.draft.Bucket.{Bucket}
use Rattle.crush_map.specs.declared.draft.Rule.{Rule}
use Rattle.crush_map.specs.declared.draft.Tunables.{Tunables}
use Rattle.crush_map.specs.declared.draft.Step.{Step}
use Rattle.crush_map.specs.declared.draft.Step.TheVariants.{Take, SetChooseTries, SetLeafTries, SetVaryR, SetStable, Choose, Emit}
use Rattle.crush_types.specs.declared.ItemId.{ItemId}
use Rattle.crush_types.specs.declared.Weight.{Weight}
use Rattle.crush_types.specs.declared.Kind.{Kind}
use Rattle.crush_map.specs.Faults.{SymbolTable, Ids, has_id, with_id, has_number, has_name, items_fault, contents_fault, step_fault, choose_fault, device_fault, bucket_fault, rule_fault, end_fault, with_device, with_bucket, with_rule, first_in}

pub record AlikeIds (i j : Ids) : Type 0 where
  pub devices : IsPermutation i.devices j.devices
  pub buckets : IsPermutation i.buckets j.buckets

-- the same numbers and names
pub record Alike (k l : SymbolTable) : Type 0 where
  pub types : IsPermutation k.types l.types
  pub type_names : IsPermutation k.type_names l.type_names
  pub items : AlikeIds k.items l.items
  pub item_names : IsPermutation k.item_names l.item_names
  pub rules : IsPermutation k.rules l.rules
  pub rule_names : IsPermutation k.rule_names l.rule_names

pub alike_refl : (k : SymbolTable) → Alike k k
alike_refl k = record {
  types = IsPermutation-refl k.types;
  type_names = IsPermutation-refl k.type_names;
  items = record { devices = IsPermutation-refl k.items.devices; buckets = IsPermutation-refl k.items.buckets };
  item_names = IsPermutation-refl k.item_names;
  rules = IsPermutation-refl k.rules;
  rule_names = IsPermutation-refl k.rule_names;
}

-- ---- tests

number_alike : (xs ys : List ℕ) → IsPermutation xs ys → (n : ℕ) → has_number xs n ≡ has_number ys n
number_alike xs ys p n = list_any-IsPermutation (λ m. m == n) xs ys p

name_alike : (xs ys : List (List ℕ)) → IsPermutation xs ys → (n : List ℕ) → has_name xs n ≡ has_name ys n
name_alike xs ys p n = list_any-IsPermutation (λ m. bytes_eq m n) xs ys p

id_alike : (i j : Ids) → AlikeIds i j → (id : ℤ) → has_id i id ≡ has_id j id
id_alike i j a (pos n) = number_alike i.devices j.devices a.devices n
id_alike i j a (negsuc n) = number_alike i.buckets j.buckets a.buckets n

-- ---- the checks answer the same

pub device_alike : (k l : SymbolTable) → Alike k l → (d : Device) → device_fault k d ≡ device_fault l d
unfolding device_fault
device_alike k l a d = rw (length_permutation k.items.devices l.items.devices a.items.devices, number_alike k.items.devices l.items.devices a.items.devices d.id, name_alike k.item_names l.item_names a.item_names d.name) refl

items_alike : (k l : SymbolTable) → Alike k l → (before : Ids) (items : List (ItemId × Weight)) → items_fault k before items ≡ items_fault l before items
unfolding items_fault
items_alike k l a before [] = refl
items_alike k l a before (item ∷ items) = rw (id_alike k.items l.items a.items item.0.0, items_alike k l a (with_id before item.0.0) items) refl

contents_alike : (k l : SymbolTable) → Alike k l → (alg : Kind) (items : List (ItemId × Weight)) → contents_fault k alg items ≡ contents_fault l alg items
unfolding contents_fault
contents_alike k l a alg items = rw (items_alike k l a (record { devices = []; buckets = [] }) items) refl

pub bucket_alike : (k l : SymbolTable) → Alike k l → (b : Bucket) → bucket_fault k b ≡ bucket_fault l b
unfolding bucket_fault
bucket_alike k l a b = rw (length_permutation k.items.buckets l.items.buckets a.items.buckets, id_alike k.items l.items a.items b.id.0, name_alike k.item_names l.item_names a.item_names b.name, number_alike k.types l.types a.types b.kind_of, contents_alike k l a b.alg b.items) refl

step_alike : (k l : SymbolTable) → Alike k l → (s : Step) → step_fault k s ≡ step_fault l s
unfolding step_fault choose_fault
step_alike k l a (Take id) = rw (id_alike k.items l.items a.items id.0) refl
step_alike k l a (SetChooseTries tries) = refl
step_alike k l a (SetLeafTries tries) = refl
step_alike k l a (SetVaryR value) = refl
step_alike k l a (SetStable value) = refl
step_alike k l a (Choose firstn leaf n wanted) = rw (number_alike k.types l.types a.types wanted) refl
step_alike k l a Emit = refl

steps_alike : (k l : SymbolTable) → Alike k l → (steps : List Step) → map (step_fault k) steps ≡ map (step_fault l) steps
steps_alike k l a [] = refl
steps_alike k l a (s ∷ steps) = rw (step_alike k l a s, steps_alike k l a steps) refl

pub rule_alike : (k l : SymbolTable) → Alike k l → (r : Rule) → rule_fault k r ≡ rule_fault l r
unfolding rule_fault
rule_alike k l a r = rw (length_permutation k.rules l.rules a.rules, number_alike k.rules l.rules a.rules r.id, name_alike k.rule_names l.rule_names a.rule_names r.name, steps_alike k l a r.steps) refl

pub end_alike : (k l : SymbolTable) → Alike k l → (t : Tunables) (m n : ℕ) → end_fault k t m n ≡ end_fault l t m n
unfolding end_fault
end_alike k l a t m n = rw (number_alike k.types l.types a.types 0) refl

-- ---- adding an element to both

with_id_alike : (i j : Ids) → AlikeIds i j → (id : ℤ) → AlikeIds (with_id i id) (with_id j id)
with_id_alike i j a (pos n) = record { devices = IsPermutation-append_left (n ∷ []) i.devices j.devices a.devices; buckets = a.buckets }
with_id_alike i j a (negsuc n) = record { devices = a.devices; buckets = IsPermutation-append_left (n ∷ []) i.buckets j.buckets a.buckets }

pub with_bucket_alike : (k l : SymbolTable) → Alike k l → (b : Bucket) → Alike (with_bucket k b) (with_bucket l b)
with_bucket_alike k l a b = record {
  types = a.types;
  type_names = a.type_names;
  items = with_id_alike k.items l.items a.items b.id.0;
  item_names = IsPermutation-append_left (b.name ∷ []) k.item_names l.item_names a.item_names;
  rules = a.rules;
  rule_names = a.rule_names;
}

pub with_device_alike : (k l : SymbolTable) → Alike k l → (d : Device) → Alike (with_device k d) (with_device l d)
with_device_alike k l a d = record {
  types = a.types;
  type_names = a.type_names;
  items = with_id_alike k.items l.items a.items (pos d.id);
  item_names = IsPermutation-append_left (d.name ∷ []) k.item_names l.item_names a.item_names;
  rules = a.rules;
  rule_names = a.rule_names;
}

pub with_rule_alike : (k l : SymbolTable) → Alike k l → (r : Rule) → Alike (with_rule k r) (with_rule l r)
with_rule_alike k l a r = record {
  types = a.types;
  type_names = a.type_names;
  items = a.items;
  item_names = a.item_names;
  rules = IsPermutation-append_left (r.id ∷ []) k.rules l.rules a.rules;
  rule_names = IsPermutation-append_left (r.name ∷ []) k.rule_names l.rule_names a.rule_names;
}

-- ---- whole lists

pub list_alike : {X : Type 0} (element : Element) (check : SymbolTable → X → Option FaultCode) (with : SymbolTable → X → SymbolTable) →
    ((k l : SymbolTable) → Alike k l → (x : X) → check k x ≡ check l x) → ((k l : SymbolTable) → Alike k l → (x : X) → Alike (with k x) (with l x)) →
    (n : ℕ) (k l : SymbolTable) → Alike k l → (xs : List X) → first_in element check with n k xs ≡ first_in element check with n l xs
unfolding first_in
list_alike element check with same goes n k l a [] = refl
list_alike element check with same goes n k l a (x ∷ xs) = rw (same k l a x, list_alike element check with same goes (n + 1) (with k x) (with l x) (goes k l a x) xs) refl

pub fold_alike : {X : Type 0} (with : SymbolTable → X → SymbolTable) → ((k l : SymbolTable) → Alike k l → (x : X) → Alike (with k x) (with l x)) →
    (k l : SymbolTable) → Alike k l → (xs : List X) → Alike (fold with k xs) (fold with l xs)
fold_alike with goes k l a [] = a
fold_alike with goes k l a (x ∷ xs) = fold_alike with goes (with k x) (with l x) (goes k l a x) xs
