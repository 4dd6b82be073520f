-- Which drafts are refused, and with which fault.
--
-- The limits are in `src/limits.rt`; each is itself allowed.
use Rattle.std.specs.Prelude.{ℕ, ℤ, pos, negsuc, int_le, neg_ℤ, ◌+◌, nat_lt, nat_le, ◌==◌, ◌&&◌, ◌||◌, not, Bool, false, List, [], ◌∷◌, ◌++◌, length, map, fold, codes, bytes_eq, Option, Some, None, if◌then◌else◌}
use Rattle.std.specs.List.{list_any, list_all}
use Rattle.crush_map.specs.declared.fault.FaultCode.{FaultCode}
use Rattle.crush_map.specs.declared.fault.FaultCode.TheVariants.{M1, M2, M3, M4, M5, M6, M7, M8, M9, M10, M11, M12, M13, M14, M15}
use Rattle.crush_map.specs.declared.fault.Element.{Element}
use Rattle.crush_map.specs.declared.fault.Element.TheVariants.{Types, Devices, Buckets, Rules, End}
use Rattle.crush_map.specs.declared.fault.MapFault.{MapFault}
use Rattle.crush_map.specs.declared.draft.TypeName.{TypeName}
use Rattle.crush_map.specs.declared.draft.Device.{Device}
use Rattle.crush_map.specs.declared.draft.Bucket.{Bucket}
use Rattle.crush_map.specs.declared.draft.Step.{Step}
use Rattle.crush_map.specs.declared.draft.Step.TheVariants.{Take, SetChooseTries, SetLeafTries, SetVaryR, SetStable, Choose, Emit}
use Rattle.crush_map.specs.declared.draft.Rule.{Rule}
use Rattle.crush_map.specs.declared.draft.Tunables.{Tunables}
use Rattle.crush_map.specs.declared.draft.MapDraft.{MapDraft}
use Rattle.crush_types.specs.declared.ItemId.{ItemId}
use Rattle.crush_types.specs.declared.Weight.{Weight}
use Rattle.crush_types.specs.declared.Kind.{Kind}
use Rattle.crush_types.specs.Kinds.{is_straw2, is_uniform}
use Rattle.crush_map.specs.declared.limits.TheConstants.{TYPE_LIMIT, DEVICE_LIMIT, BUCKET_LIMIT, ITEM_LIMIT, TOTAL_WEIGHT_LIMIT, STRAW2_WEIGHT_LIMIT, RULE_LIMIT, STEP_LIMIT, NAME_LIMIT, NUMBER_LIMIT, RULE_ID_LIMIT, COUNT_LIMIT, TRIES_LIMIT, TOTAL_TRIES_LIMIT, VARY_R_LIMIT}
use Rattle.crush_types.specs.Weights.{has_equal_weights, total_weight}

-- ---- checks in order

-- this fault if the test is true
infix 5 ◌when◌
abbrev pub ◌when◌ : FaultCode → Bool → Option FaultCode
code when test = if test then Some code else None

-- the first value if there is one, else the second
abbrev pub or_else : {X : Type 0} → Option X → Option X → Option X
or_else (Some x) other = Some x
or_else None other = other

-- the first fault of a list of checks
abbrev pub first_of : List (Option FaultCode) → Option FaultCode
first_of [] = None
first_of (check ∷ checks) = or_else check (first_of checks)

-- ---- what was declared before

-- ids of devices, and of buckets, where the id -1 - n is stored as n
pub record Ids : Type 0 where
  pub devices : List ℕ
  pub buckets : List ℕ

-- no id
abbrev pub no_ids : Ids
no_ids = record { devices = []; buckets = [] }

-- adds an id
abbrev pub with_id : Ids → ℤ → Ids
with_id ids (pos n) = record ids { devices = ids.devices ++ n ∷ [] }
with_id ids (negsuc n) = record ids { buckets = ids.buckets ++ n ∷ [] }

-- whether a number is in the list
abbrev pub has_number : List ℕ → ℕ → Bool
has_number numbers number = list_any (λ n. n == number) numbers

-- whether an id is among the ids
abbrev pub has_id : Ids → ℤ → Bool
has_id ids (pos n) = has_number ids.devices n
has_id ids (negsuc n) = has_number ids.buckets n

-- what is declared so far: numbers of types, ids of items and of rules, and names; devices and
-- buckets share one list of names
pub record SymbolTable : Type 0 where
  pub types : List ℕ
  pub type_names : List (List ℕ)
  pub items : Ids
  pub item_names : List (List ℕ)
  pub rules : List ℕ
  pub rule_names : List (List ℕ)

-- before the first declaration
abbrev pub nothing : SymbolTable
nothing = record { types = []; type_names = []; items = no_ids; item_names = []; rules = []; rule_names = [] }

-- whether a name is in the list
abbrev pub has_name : List (List ℕ) → List ℕ → Bool
has_name names name = list_any (λ n. bytes_eq n name) names

-- ---- names

-- an ASCII letter or digit, `-`, `_` or `.`
abbrev pub is_name_byte : ℕ → Bool
is_name_byte b = (nat_le 97 b && nat_le b 122) || (nat_le 65 b && nat_le b 90) || (nat_le 48 b && nat_le b 57) || (b == 45) || (b == 95) || (b == 46)

-- 1 to NAME_LIMIT bytes that are allowed in a name
abbrev pub is_name : List ℕ → Bool
is_name name = nat_le 1 (length name) && nat_le (length name) NAME_LIMIT && list_all is_name_byte name

-- the words that begin a declaration, and `class`: no type has one of them as its name
abbrev pub is_reserved : List ℕ → Bool
is_reserved name = list_any (λ word. bytes_eq word name) (codes "tunable" ∷ codes "device" ∷ codes "type" ∷ codes "rule" ∷ codes "choose_args" ∷ codes "class" ∷ [])

-- ---- types

-- of a type: there are TYPE_LIMIT already; its number is out of range, or declared already; its
-- name isn't of the form, or is reserved, or declared already
abbrev pub type_checks : SymbolTable → TypeName → List (Option FaultCode)
type_checks known t =
    (M1 when nat_le TYPE_LIMIT (length known.types))
    ∷ (M12 when nat_lt NUMBER_LIMIT t.number)
    ∷ (M2 when has_number known.types t.number)
    ∷ (M15 when (not (is_name t.name) || is_reserved t.name))
    ∷ (M3 when has_name known.type_names t.name)
    ∷ []

-- the fault of a type that is declared next
unfoldable pub type_fault : SymbolTable → TypeName → Option FaultCode
type_fault known t = first_of (type_checks known t)

-- adds a type
abbrev pub with_type : SymbolTable → TypeName → SymbolTable
with_type known t = record known { types = known.types ++ t.number ∷ []; type_names = known.type_names ++ t.name ∷ [] }

-- ---- devices

-- of a device: there are DEVICE_LIMIT already; its id is out of range, or declared already; its
-- name isn't of the form, or is declared already
abbrev pub device_checks : SymbolTable → Device → List (Option FaultCode)
device_checks known d =
    (M1 when nat_le DEVICE_LIMIT (length known.items.devices))
    ∷ (M12 when nat_lt NUMBER_LIMIT d.id)
    ∷ (M2 when has_number known.items.devices d.id)
    ∷ (M15 when not (is_name d.name))
    ∷ (M3 when has_name known.item_names d.name)
    ∷ []

-- the fault of a device that is declared next
unfoldable pub device_fault : SymbolTable → Device → Option FaultCode
device_fault known d = first_of (device_checks known d)

-- adds a device
abbrev pub with_device : SymbolTable → Device → SymbolTable
with_device known d = record known { items = with_id known.items (pos d.id); item_names = known.item_names ++ d.name ∷ [] }

-- ---- buckets

-- -1 to -1 - NUMBER_LIMIT
abbrev pub is_bucket_id : ℤ → Bool
is_bucket_id (pos id) = false
is_bucket_id (negsuc n) = nat_le n NUMBER_LIMIT

-- the first fault of a bucket's items from here on; `before` has the ids of the bucket's earlier
-- items
unfoldable pub items_fault : SymbolTable → Ids → List (ItemId × Weight) → Option FaultCode
items_fault known before [] = None
items_fault known before (item ∷ items) = first_of (
    (M5 when not (has_id known.items item.0.0))
    ∷ (M6 when has_id before item.0.0)
    ∷ items_fault known (with_id before item.0.0) items
    ∷ [])

-- whether an item's weight is above STRAW2_WEIGHT_LIMIT: Ceph takes a weight of a straw2 bucket
-- as a signed number of 32 bits
abbrev pub is_heavy : ItemId × Weight → Bool
is_heavy item = nat_lt STRAW2_WEIGHT_LIMIT item.1.0

-- whether the weights of a bucket of this kind have too great a sum, or one of them is too great
abbrev pub is_too_heavy : Kind → List (ItemId × Weight) → Bool
is_too_heavy alg items = nat_lt TOTAL_WEIGHT_LIMIT (total_weight items) || (is_straw2 alg && list_any is_heavy items)

-- the first fault of the items and weights of a bucket of this kind
unfoldable pub contents_fault : SymbolTable → Kind → List (ItemId × Weight) → Option FaultCode
contents_fault known alg items = first_of (
    items_fault known no_ids items
    ∷ (M8 when (is_uniform alg && not (has_equal_weights items)))
    ∷ (M7 when is_too_heavy alg items)
    ∷ [])

-- of a bucket: there are BUCKET_LIMIT already; its id is out of range, or declared already; its
-- name isn't of the form, or is declared already; its type isn't declared, or is that of devices;
-- it has more than ITEM_LIMIT items; its items and weights
abbrev pub bucket_checks : SymbolTable → Bucket → List (Option FaultCode)
bucket_checks known b =
    (M1 when nat_le BUCKET_LIMIT (length known.items.buckets))
    ∷ (M12 when not (is_bucket_id b.id.0))
    ∷ (M2 when has_id known.items b.id.0)
    ∷ (M15 when not (is_name b.name))
    ∷ (M3 when has_name known.item_names b.name)
    ∷ (M4 when not (has_number known.types b.kind_of))
    ∷ (M9 when (b.kind_of == 0))
    ∷ (M1 when nat_lt ITEM_LIMIT (length b.items))
    ∷ contents_fault known b.alg b.items
    ∷ []

-- the fault of a bucket that is declared next
unfoldable pub bucket_fault : SymbolTable → Bucket → Option FaultCode
bucket_fault known b = first_of (bucket_checks known b)

-- adds a bucket
abbrev pub with_bucket : SymbolTable → Bucket → SymbolTable
with_bucket known b = record known { items = with_id known.items b.id.0; item_names = known.item_names ++ b.name ∷ [] }

-- ---- rules

-- -COUNT_LIMIT to COUNT_LIMIT
abbrev pub is_count : ℤ → Bool
is_count n = int_le (neg_ℤ (pos COUNT_LIMIT)) n && int_le n (pos COUNT_LIMIT)

-- of a choose step: its type isn't declared; its count is out of range; it is chooseleaf indep of
-- type 0
unfoldable pub choose_fault : SymbolTable → Bool → Bool → ℤ → ℕ → Option FaultCode
choose_fault known firstn leaf n wanted = first_of (
    (M11 when not (has_number known.types wanted))
    ∷ (M12 when not (is_count n))
    ∷ (M14 when (leaf && not firstn && (wanted == 0)))
    ∷ [])

-- the fault of a step: an item that isn't declared, or a number out of range
unfoldable pub step_fault : SymbolTable → Step → Option FaultCode
step_fault known (Take id) = M10 when not (has_id known.items id.0)
step_fault known (SetChooseTries tries) = M12 when nat_lt TRIES_LIMIT tries
step_fault known (SetLeafTries tries) = M12 when nat_lt TRIES_LIMIT tries
step_fault known (SetVaryR value) = M12 when nat_lt VARY_R_LIMIT value
step_fault known (SetStable value) = M12 when nat_lt 1 value
step_fault known (Choose firstn leaf n wanted) = choose_fault known firstn leaf n wanted
step_fault known Emit = None

-- the first fault of steps
abbrev pub steps_fault : SymbolTable → List Step → Option FaultCode
steps_fault known steps = first_of (map (step_fault known) steps)

-- of a rule apart from its steps: there are RULE_LIMIT already; its id is out of range, or declared
-- already; its name isn't of the form, or is declared already; it has no step, or over STEP_LIMIT
abbrev pub rule_head_checks : SymbolTable → Rule → List (Option FaultCode)
rule_head_checks known r =
    (M1 when nat_le RULE_LIMIT (length known.rules))
    ∷ (M12 when nat_lt RULE_ID_LIMIT r.id)
    ∷ (M2 when has_number known.rules r.id)
    ∷ (M15 when not (is_name r.name))
    ∷ (M3 when has_name known.rule_names r.name)
    ∷ (M1 when ((length r.steps == 0) || nat_lt STEP_LIMIT (length r.steps)))
    ∷ []

-- the fault of a rule that is declared next, apart from the faults of its steps
unfoldable pub rule_head_fault : SymbolTable → Rule → Option FaultCode
rule_head_fault known r = first_of (rule_head_checks known r)

-- of a rule: the checks apart from its steps, and then its steps
abbrev pub rule_checks : SymbolTable → Rule → List (Option FaultCode)
rule_checks known r = rule_head_checks known r ++ steps_fault known r.steps ∷ []

-- the fault of a rule that is declared next
unfoldable pub rule_fault : SymbolTable → Rule → Option FaultCode
rule_fault known r = first_of (rule_checks known r)

-- adds a rule
abbrev pub with_rule : SymbolTable → Rule → SymbolTable
with_rule known r = record known { rules = known.rules ++ r.id ∷ []; rule_names = known.rule_names ++ r.name ∷ [] }

-- ---- the end

-- whether each tunable is in its range; chooseleaf_descend_once and chooseleaf_stable are 0 or 1
abbrev pub are_in_range : Tunables → Bool
are_in_range t = nat_le t.total_tries TOTAL_TRIES_LIMIT && nat_le t.descend_once 1 && nat_le t.vary_r VARY_R_LIMIT && nat_le t.stable 1

-- at the end: there is no type 0; a tunable is out of range; local tries or local fallback tries
-- are not 0
abbrev pub end_checks : SymbolTable → Tunables → ℕ → ℕ → List (Option FaultCode)
end_checks known tunables local_tries local_fallback_tries =
    (M4 when not (has_number known.types 0))
    ∷ (M12 when not (are_in_range tunables))
    ∷ (M13 when not ((local_tries == 0) && (local_fallback_tries == 0)))
    ∷ []

-- the fault at the end, of the tunables, the local tries and the local fallback tries
unfoldable pub end_fault : SymbolTable → Tunables → ℕ → ℕ → Option FaultCode
end_fault known tunables local_tries local_fallback_tries = first_of (end_checks known tunables local_tries local_fallback_tries)

-- ---- a whole draft

-- the fault at this place of a list
abbrev pub at : Element → ℕ → FaultCode → MapFault
at element place code = record { code = code; element = element; index = place }

-- the fault at this place, if there is one
abbrev pub at_place : Element → ℕ → Option FaultCode → Option MapFault
at_place element place None = None
at_place element place (Some code) = Some (at element place code)

-- the first fault of a list whose first element has this place: each element is checked against
-- what is declared before it, and then added
unfoldable pub first_in : {X : Type 0} → Element → (SymbolTable → X → Option FaultCode) → (SymbolTable → X → SymbolTable) → ℕ → SymbolTable → List X → Option MapFault
first_in element check with place known [] = None
first_in element check with place known (x ∷ xs) = or_else (at_place element place (check known x)) (first_in element check with (place + 1) (with known x) xs)

-- what is declared after the types of a draft, after its devices too, after its buckets too, and
-- after its rules too
abbrev pub known_types : MapDraft → SymbolTable
known_types d = fold with_type nothing d.types

abbrev pub known_devices : MapDraft → SymbolTable
known_devices d = fold with_device (known_types d) d.devices

abbrev pub known_buckets : MapDraft → SymbolTable
known_buckets d = fold with_bucket (known_devices d) d.buckets

abbrev pub known_rules : MapDraft → SymbolTable
known_rules d = fold with_rule (known_buckets d) d.rules

-- the first fault of the elements of a draft: of its types, then of its devices, its buckets and
-- its rules
unfoldable pub element_fault : MapDraft → Option MapFault
element_fault d =
    or_else (first_in Types type_fault with_type 0 nothing d.types)
    (or_else (first_in Devices device_fault with_device 0 (known_types d) d.devices)
    (or_else (first_in Buckets bucket_fault with_bucket 0 (known_devices d) d.buckets)
    (first_in Rules rule_fault with_rule 0 (known_buckets d) d.rules)))

-- the first fault of a draft: that of its elements, else the one at its end
unfoldable pub first_fault : MapDraft → Option MapFault
first_fault d = or_else (element_fault d) (at_place End 0 (end_fault (known_rules d) d.tunables d.local_tries d.local_fallback_tries))
