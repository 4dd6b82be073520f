-- What declarations make of a map, and the first of them that has a fault.
--
-- They are judged in the order of the text, each behind those before it, by the checks by which the
-- elements of a draft are judged.
use Rattle.std.specs.Prelude.{ℕ, ℤ, pos, negsuc, min, ◌+◌, ◌==◌, ◌&&◌, not, Bool, true, false, List, [], ◌∷◌, ◌++◌, map, fold, find, filter_map, bytes_eq, unwrap_or, option_map, Option, Some, None}
use Rattle.std.specs.Option.{option_map_or}
use Rattle.crush_map.specs.declared.limits.TheConstants.{NUMBER_LIMIT}
use Rattle.crush_map.specs.declared.fault.FaultCode.{FaultCode}
use Rattle.crush_map.specs.declared.fault.FaultCode.TheVariants.{M3, M12, M13}
use Rattle.crush_map.specs.declared.draft.TypeName.{TypeName}
use Rattle.crush_map.specs.declared.draft.Device.{Device}
use Rattle.crush_map.specs.declared.draft.Bucket.{Bucket}
use Rattle.crush_map.specs.declared.draft.Step.{Step}
use Rattle.crush_map.specs.declared.draft.Step.TheVariants as draft_steps
use Rattle.crush_map.specs.declared.draft.Rule.{Rule}
use Rattle.crush_map.specs.declared.draft.MapDraft.{MapDraft}
use Rattle.crush_map.specs.crush_types.specs.declared.ItemId.{ItemId}
use Rattle.crush_map.specs.crush_types.specs.declared.Weight.{Weight}
use Rattle.crush_map.specs.crush_types.specs.Weights.{total_weight}
use Rattle.crush_map.specs.Faults.{◌when◌, or_else, first_of, SymbolTable, nothing, has_number, are_in_range, type_fault, device_fault, bucket_fault, rule_head_fault, step_fault, end_fault, with_type, with_device, with_bucket, with_rule}
use Rattle.crush_text.specs.Places.{wrong_place, in_place}
use Rattle.crush_grammar.specs.declared.code.TextCode.TheVariants.{X5, Map}
use Rattle.crush_grammar.specs.declared.code.TextFault.{TextFault}
use Rattle.crush_grammar.specs.declared.declaration.TunableName.{TunableName}
use Rattle.crush_grammar.specs.declared.declaration.TunableName.TheVariants.{LocalTries, LocalFallbackTries, TotalTries, DescendOnce, VaryR, Stable, StrawCalcVersion, AllowedBucketAlgs}
use Rattle.crush_grammar.specs.declared.declaration.Setting.TheVariants as settings
use Rattle.crush_grammar.specs.declared.declaration.DeclaredTunable.{DeclaredTunable}
use Rattle.crush_grammar.specs.declared.declaration.DeclaredDevice.{DeclaredDevice}
use Rattle.crush_grammar.specs.declared.declaration.DeclaredType.{DeclaredType}
use Rattle.crush_grammar.specs.declared.declaration.DeclaredItem.{DeclaredItem}
use Rattle.crush_grammar.specs.declared.declaration.DeclaredBucket.{DeclaredBucket}
use Rattle.crush_grammar.specs.declared.declaration.DeclaredStep.{DeclaredStep}
use Rattle.crush_grammar.specs.declared.declaration.DeclaredStep.TheVariants as steps
use Rattle.crush_grammar.specs.declared.declaration.DeclaredRule.{DeclaredRule}
use Rattle.crush_grammar.specs.declared.declaration.Declaration.{Declaration}
use Rattle.crush_grammar.specs.declared.declaration.Declaration.TheVariants as declarations

-- what was declared so far: a draft of the map, what is known by then, and the tunables that were
-- named
pub record Declared : Type 0 where
  pub draft : MapDraft
  pub known : SymbolTable
  pub tunables : List TunableName

-- before the first declaration; a tunable that no declaration names has its legacy value
abbrev pub nothing_declared : Declared
nothing_declared = record {
  draft = record {
    types = [];
    devices = [];
    buckets = [];
    rules = [];
    local_tries = 2;
    local_fallback_tries = 5;
    tunables = record { total_tries = 19; descend_once = 0; vary_r = 0; stable = 0 };
  };
  known = nothing;
  tunables = [];
}

-- ---- numbers

-- a number that a draft can't hold is taken as the nearest one that it can, which is out of every
-- range too
abbrev pub fitted : ℕ → ℕ
fitted n = min n 4294967295

abbrev pub fitted_integer : ℤ → ℤ
fitted_integer (pos n) = pos (min n 2147483647)
fitted_integer (negsuc n) = negsuc (min n 2147483647)

-- ---- names: one that is not declared stands for the number past the limit

-- no type has this number, and no item has it as its id
abbrev pub undeclared_number : ℕ
undeclared_number = NUMBER_LIMIT + 1

abbrev pub type_number : MapDraft → List ℕ → ℕ
type_number d name = option_map_or (λ t. t.number) (find (λ t. bytes_eq t.name name) d.types) undeclared_number

-- an id, and the weight of an item where none is said: 1.0 for a device, the sum of its items for a
-- bucket
abbrev pub of_device : Device → ItemId × Weight
of_device d = (record { 0 = pos d.id }, record { 0 = 65536 })

abbrev pub of_bucket : Bucket → ItemId × Weight
of_bucket b = (b.id, record { 0 = total_weight b.items })

abbrev pub undeclared : ItemId × Weight
undeclared = (record { 0 = pos undeclared_number }, record { 0 = 65536 })

abbrev pub item_named : MapDraft → List ℕ → ItemId × Weight
item_named d name = option_map_or of_device (find (λ x. bytes_eq x.name name) d.devices) (option_map_or of_bucket (find (λ b. bytes_eq b.name name) d.buckets) undeclared)

-- ---- tunables

-- local tries are the map's own; the last two are read and dropped
abbrev pub with_tunable : MapDraft → TunableName → ℕ → MapDraft
with_tunable d LocalTries value = record d { local_tries = value }
with_tunable d LocalFallbackTries value = record d { local_fallback_tries = value }
with_tunable d TotalTries value = record d { tunables = record d.tunables { total_tries = value } }
with_tunable d DescendOnce value = record d { tunables = record d.tunables { descend_once = value } }
with_tunable d VaryR value = record d { tunables = record d.tunables { vary_r = value } }
with_tunable d Stable value = record d { tunables = record d.tunables { stable = value } }
with_tunable d StrawCalcVersion value = d
with_tunable d AllowedBucketAlgs value = d

abbrev pub is_local : TunableName → Bool
is_local LocalTries = true
is_local LocalFallbackTries = true
is_local other = false

abbrev pub tunable_number : TunableName → ℕ
tunable_number LocalTries = 0
tunable_number LocalFallbackTries = 1
tunable_number TotalTries = 2
tunable_number DescendOnce = 3
tunable_number VaryR = 4
tunable_number Stable = 5
tunable_number StrawCalcVersion = 6
tunable_number AllowedBucketAlgs = 7

abbrev pub is_named : List TunableName → TunableName → Bool
is_named names name = has_number (map tunable_number names) (tunable_number name)

-- a tunable is named twice, is out of its range, or is one of the local tries and not 0
unfoldable pub tunable_fault : Declared → DeclaredTunable → Option FaultCode
tunable_fault s t = first_of (
    (M3 when is_named s.tunables t.name)
    ∷ (M12 when not (are_in_range (with_tunable s.draft t.name (fitted t.value)).tunables))
    ∷ (M13 when (is_local t.name && not (t.value == 0)))
    ∷ [])

-- ---- elements of a draft

abbrev pub device_of : DeclaredDevice → Device
device_of d = record { id = fitted d.id; name = d.name }

abbrev pub type_of : DeclaredType → TypeName
type_of t = record { number = fitted t.number; name = t.name }

abbrev pub item_of : MapDraft → DeclaredItem → ItemId × Weight
item_of d item = ((item_named d item.name).0, unwrap_or item.weight (item_named d item.name).1)

abbrev pub bucket_of : MapDraft → DeclaredBucket → Bucket
bucket_of d b = record {
  id = record { 0 = fitted_integer b.id };
  name = b.head.name;
  kind_of = type_number d b.head.type_name;
  alg = b.alg;
  items = map (item_of d) (in_place b.items);
}

-- steps that set local tries are dropped
abbrev pub step_of : MapDraft → DeclaredStep → Option Step
step_of d (steps.Take name) = Some (draft_steps.Take (item_named d name).0)
step_of d (steps.Set settings.ChooseTries n) = Some (draft_steps.SetChooseTries (fitted n))
step_of d (steps.Set settings.LeafTries n) = Some (draft_steps.SetLeafTries (fitted n))
step_of d (steps.Set settings.VaryR n) = Some (draft_steps.SetVaryR (fitted n))
step_of d (steps.Set settings.Stable n) = Some (draft_steps.SetStable (fitted n))
step_of d (steps.Set settings.LocalTries n) = None
step_of d (steps.Set settings.LocalFallbackTries n) = None
step_of d (steps.Choose firstn leaf n wanted) = Some (draft_steps.Choose firstn leaf (fitted_integer n) (type_number d wanted))
step_of d steps.Emit = Some draft_steps.Emit

abbrev pub rule_of : MapDraft → DeclaredRule → Rule
rule_of d r = record { id = fitted r.id; name = r.name; erasure = r.erasure; steps = filter_map (step_of d) r.steps }

-- ---- faults

abbrev pub kept_step_fault : SymbolTable → Option Step → Option FaultCode
kept_step_fault known None = None
kept_step_fault known (Some step) = step_fault known step

-- local tries other than 0 are a fault where they stand among the steps
abbrev pub declared_step_fault : Declared → DeclaredStep → Option FaultCode
declared_step_fault s (steps.Set settings.LocalTries n) = M13 when not (n == 0)
declared_step_fault s (steps.Set settings.LocalFallbackTries n) = M13 when not (n == 0)
declared_step_fault s step = kept_step_fault s.known (step_of s.draft step)

unfoldable pub declared_rule_fault : Declared → DeclaredRule → Option FaultCode
declared_rule_fault s r = or_else (rule_head_fault s.known (rule_of s.draft r)) (first_of (map (declared_step_fault s) r.steps))

abbrev pub at_line : ℕ → Option FaultCode → Option TextFault
at_line line fault = option_map (λ code. record { line = line; code = Map code }) fault

-- a wrong place stands before what else is wrong with a bucket, on the line of its number
unfoldable pub declared_bucket_fault : Declared → DeclaredBucket → Option TextFault
declared_bucket_fault s b =
    or_else (option_map (λ line. record { line = line; code = X5 }) (wrong_place b.items)) (at_line b.head.line (bucket_fault s.known (bucket_of s.draft b)))

-- the fault of a declaration behind others, on the line of its first word
abbrev pub declaration_fault : Declared → Declaration → Option TextFault
declaration_fault s (declarations.Tunable t) = at_line t.line (tunable_fault s t)
declaration_fault s (declarations.Device d) = at_line d.line (device_fault s.known (device_of d))
declaration_fault s (declarations.TypeName t) = at_line t.line (type_fault s.known (type_of t))
declaration_fault s (declarations.Bucket b) = declared_bucket_fault s b
declaration_fault s (declarations.Rule r) = at_line r.line (declared_rule_fault s r)

-- ---- declarations in order

-- one declaration more
abbrev pub declare : Declared → Declaration → Declared
declare s (declarations.Tunable t) = record s { draft = with_tunable s.draft t.name (fitted t.value); tunables = s.tunables ++ t.name ∷ [] }
declare s (declarations.Device d) = record s { draft = record s.draft { devices = s.draft.devices ++ device_of d ∷ [] }; known = with_device s.known (device_of d) }
declare s (declarations.TypeName t) = record s { draft = record s.draft { types = s.draft.types ++ type_of t ∷ [] }; known = with_type s.known (type_of t) }
declare s (declarations.Bucket b) = record s { draft = record s.draft { buckets = s.draft.buckets ++ bucket_of s.draft b ∷ [] }; known = with_bucket s.known (bucket_of s.draft b) }
declare s (declarations.Rule r) = record s { draft = record s.draft { rules = s.draft.rules ++ rule_of s.draft r ∷ [] }; known = with_rule s.known (rule_of s.draft r) }

abbrev pub declared_from : Declared → List Declaration → Declared
declared_from s ds = fold declare s ds

-- the first fault of declarations behind others
unfoldable pub fault_from : Declared → List Declaration → Option TextFault
fault_from s [] = None
fault_from s (d ∷ ds) = or_else (declaration_fault s d) (fault_from (declare s d) ds)

-- what all declarations of a text make, and the first fault of one
abbrev pub declared : List Declaration → Declared
declared ds = declared_from nothing_declared ds

abbrev pub declared_fault : List Declaration → Option TextFault
declared_fault ds = fault_from nothing_declared ds

-- the fault when all is declared, on this line
abbrev pub last_fault : ℕ → Declared → Option TextFault
last_fault line s = at_line line (end_fault s.known s.draft.tunables s.draft.local_tries s.draft.local_fallback_tries)
