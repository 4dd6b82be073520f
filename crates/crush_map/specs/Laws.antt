-- What the first fault of a draft means, and the order of a map's elements.
use Rattle.std.specs.Prelude.{◌≡◌, ℕ, ◌<◌, List, take, fold, slice_get, Option, Some, None, IsSomeAnd, IfSome}
use Rattle.std.specs.List.Sorted.{IsNonDecreasingBy}
use Rattle.crush_map.specs.declared.fault.FaultCode.{FaultCode}
use Rattle.crush_map.specs.declared.fault.Element.{Element}
use Rattle.crush_map.specs.declared.fault.Element.TheVariants.{Types, Devices, Buckets, Rules, End}
use Rattle.crush_map.specs.declared.draft.MapDraft.{MapDraft}
use Rattle.crush_map.specs.Faults.{SymbolTable, nothing, type_fault, device_fault, bucket_fault, rule_fault, end_fault, with_type, with_device, with_bucket, with_rule, known_types, known_devices, known_buckets, known_rules}
use Rattle.crush_map.specs.Map.{Map}

-- no element of a list has a fault, each checked against what is declared before it
abbrev pub Pass : {X : Type 0} → (SymbolTable → X → Option FaultCode) → (SymbolTable → X → SymbolTable) → SymbolTable → List X → Type 0
Pass check with known xs = (i : ℕ) → IfSome (slice_get xs i) (λ x. check (fold with known (take i xs)) x ≡ None)

-- the element at this place has this fault, and no element before it has one, each checked against
-- what is declared before it
abbrev pub FailsFirst : {X : Type 0} → (SymbolTable → X → Option FaultCode) → (SymbolTable → X → SymbolTable) → SymbolTable → List X → ℕ → FaultCode → Type 0
FailsFirst check with known xs i code =
    IsSomeAnd (slice_get xs i) (λ x. check (fold with known (take i xs)) x ≡ Some code)
    × ((j : ℕ) → j < i → IfSome (slice_get xs j) (λ x. check (fold with known (take j xs)) x ≡ None))

abbrev pub TypesPass : MapDraft → Type 0
TypesPass d = Pass type_fault with_type nothing d.types

abbrev pub DevicesPass : MapDraft → Type 0
DevicesPass d = Pass device_fault with_device (known_types d) d.devices

abbrev pub BucketsPass : MapDraft → Type 0
BucketsPass d = Pass bucket_fault with_bucket (known_devices d) d.buckets

abbrev pub RulesPass : MapDraft → Type 0
RulesPass d = Pass rule_fault with_rule (known_buckets d) d.rules

-- no element of a draft has a fault
abbrev pub HasNoElementFault : MapDraft → Type 0
HasNoElementFault d = TypesPass d × DevicesPass d × BucketsPass d × RulesPass d

-- no element of a draft has a fault, and there is none at its end
abbrev pub HasNoFault : MapDraft → Type 0
HasNoFault d = HasNoElementFault d × (end_fault (known_rules d) d.tunables d.local_tries d.local_fallback_tries ≡ None)

-- a draft has this fault at this place, and none before it
abbrev pub IsFirstFault : MapDraft → Element → ℕ → FaultCode → Type 0
IsFirstFault d Types i code = FailsFirst type_fault with_type nothing d.types i code
IsFirstFault d Devices i code = TypesPass d × FailsFirst device_fault with_device (known_types d) d.devices i code
IsFirstFault d Buckets i code = TypesPass d × DevicesPass d × FailsFirst bucket_fault with_bucket (known_devices d) d.buckets i code
IsFirstFault d Rules i code = TypesPass d × DevicesPass d × BucketsPass d × FailsFirst rule_fault with_rule (known_buckets d) d.rules i code
IsFirstFault d End i code =
    HasNoElementFault d × (i ≡ 0) × (end_fault (known_rules d) d.tunables d.local_tries d.local_fallback_tries ≡ Some code)

-- types, devices and rules are in order of number
pub record IsInOrder (m : Map) : Type 0 where
  pub types : IsNonDecreasingBy (λ t. t.number) m.types
  pub devices : IsNonDecreasingBy (λ d. d.id) m.devices
  pub rules : IsNonDecreasingBy (λ r. r.id) m.rules
