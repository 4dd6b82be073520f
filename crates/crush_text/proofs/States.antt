-- What is declared behind each part of a canonical text.
use Rattle.std.proofs.Common.{◌≡◌, ◌∙◌, ℕ, List, [], ◌∷◌, fold, refl, sym, ap}
use Rattle.crush_map.specs.declared.draft.TypeName.{TypeName}
use Rattle.crush_map.specs.declared.draft.Device.{Device}
use Rattle.crush_map.specs.declared.draft.Bucket.{Bucket}
use Rattle.crush_map.specs.declared.draft.Rule.{Rule}
use Rattle.crush_map.specs.declared.draft.Tunables.{Tunables}
use Rattle.crush_map.specs.Faults.{SymbolTable, Ids, nothing, type_fault, device_fault, with_type, with_device, with_bucket, with_rule, known_types, known_devices, known_buckets}
use Rattle.crush_map.specs.Map.{Map, draft_of}
use Rattle.crush_grammar.specs.declared.declaration.TunableName.{TunableName}
use Rattle.crush_grammar.specs.declared.declaration.TunableName.TheVariants.{LocalTries, LocalFallbackTries, TotalTries, DescendOnce, VaryR, Stable}
use Rattle.crush_text.specs.Judging.{Declared}

-- ---- types and devices are known apart from one another

abbrev types_of : SymbolTable → List ℕ → List (List ℕ) → SymbolTable
types_of k numbers names = record k { types = numbers; type_names = names }

abbrev items_of : SymbolTable → Ids → List (List ℕ) → SymbolTable
items_of k ids names = record k { items = ids; item_names = names }

types_alone : (k : SymbolTable) (ids : Ids) (names : List (List ℕ)) (xs : List TypeName) → fold with_type (items_of k ids names) xs ≡ items_of (fold with_type k xs) ids names
types_alone k ids names [] = refl
types_alone k ids names (x ∷ xs) = types_alone (with_type k x) ids names xs

types_keep : (k : SymbolTable) (xs : List TypeName) → fold with_type k xs ≡ types_of k (fold with_type k xs).types (fold with_type k xs).type_names
types_keep k [] = refl
types_keep k (x ∷ xs) = types_keep (with_type k x) xs

devices_alone : (k : SymbolTable) (numbers : List ℕ) (names : List (List ℕ)) (xs : List Device) → fold with_device (types_of k numbers names) xs ≡ types_of (fold with_device k xs) numbers names
devices_alone k numbers names [] = refl
devices_alone k numbers names (x ∷ xs) = devices_alone (with_device k x) numbers names xs

devices_keep : (k : SymbolTable) (xs : List Device) → fold with_device k xs ≡ items_of k (fold with_device k xs).items (fold with_device k xs).item_names
devices_keep k [] = refl
devices_keep k (x ∷ xs) = devices_keep (with_device k x) xs

-- what is known behind devices alone
abbrev pub by_devices : List Device → SymbolTable
by_devices xs = fold with_device nothing xs

-- a device is judged by devices alone
pub device_judged : (m : Map) (xs : List Device) (x : Device) → device_fault (fold with_device (known_types (draft_of m)) xs) x ≡ device_fault (by_devices xs) x
unfolding device_fault
device_judged m xs x =
    let t = known_types (draft_of m) in
    ap (λ k. device_fault k x) (ap (λ k. fold with_device k xs) (types_keep nothing m.types) ∙ devices_alone nothing t.types t.type_names xs)

-- a type is judged by types alone
pub type_judged : (devices : List Device) (xs : List TypeName) (x : TypeName) → type_fault (fold with_type (by_devices devices) xs) x ≡ type_fault (fold with_type nothing xs) x
unfolding type_fault
type_judged devices xs x =
    let d = by_devices devices in
    ap (λ k. type_fault k x) (ap (λ k. fold with_type k xs) (devices_keep nothing devices) ∙ types_alone nothing d.items d.item_names xs)

-- types behind devices make known what devices behind types do
pub either_order : (m : Map) → fold with_type (by_devices m.devices) m.types ≡ known_devices (draft_of m)
either_order m =
    let t = known_types (draft_of m) in
    let d = by_devices m.devices in
    let first : fold with_type d m.types ≡ items_of t d.items d.item_names = ap (λ k. fold with_type k m.types) (devices_keep nothing m.devices) ∙ types_alone nothing d.items d.item_names m.types in
    let other : known_devices (draft_of m) ≡ types_of d t.types t.type_names = ap (λ k. fold with_device k m.devices) (types_keep nothing m.types) ∙ devices_alone nothing t.types t.type_names m.devices in
    first ∙ (ap (λ k. items_of k d.items d.item_names) (types_keep nothing m.types) ∙ (ap (λ k. types_of k t.types t.type_names) (sym (devices_keep nothing m.devices)) ∙ sym other))

-- ---- states

abbrev pub all_tunables : List TunableName
all_tunables = LocalTries ∷ LocalFallbackTries ∷ TotalTries ∷ DescendOnce ∷ VaryR ∷ Stable ∷ []

-- what was declared behind the tunables: types, devices, buckets and rules, and what is known
abbrev pub declared_so_far : Tunables → List TypeName → List Device → List Bucket → List Rule → SymbolTable → Declared
declared_so_far t types devices buckets rules known = record {
  draft = record { types = types; devices = devices; buckets = buckets; rules = rules; local_tries = 0; local_fallback_tries = 0; tunables = t };
  known = known;
  tunables = all_tunables;
}

abbrev pub with_devices : Map → List Device → Declared
with_devices m devices = declared_so_far m.tunables [] devices [] [] (by_devices devices)

abbrev pub with_types : Map → List TypeName → Declared
with_types m types = declared_so_far m.tunables types m.devices [] [] (fold with_type (by_devices m.devices) types)

abbrev pub with_buckets : Map → List Bucket → Declared
with_buckets m buckets = declared_so_far m.tunables m.types m.devices buckets [] (fold with_bucket (known_devices (draft_of m)) buckets)

abbrev pub with_rules : Map → List Rule → Declared
with_rules m rules = declared_so_far m.tunables m.types m.devices m.buckets rules (fold with_rule (known_buckets (draft_of m)) rules)
