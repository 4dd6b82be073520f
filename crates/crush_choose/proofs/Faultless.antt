-- The rules of a map have no fault, and its tunables are in range.
use Rattle.std.proofs.Common.{◌≡◌, ℕ, zero, suc, ◌+◌, Bool, true, false, not, List, [], ◌∷◌, slice_get, Option, Some, None, refl}
use Rattle.crush_map.specs.declared.fault.FaultCode.{FaultCode}
use Rattle.crush_map.specs.declared.fault.FaultCode.TheVariants.{M4, M12}
use Rattle.crush_map.specs.declared.fault.Element.{Element}
use Rattle.crush_map.specs.declared.fault.Element.TheVariants.{Types, Devices, Buckets, Rules, End}
use Rattle.crush_map.specs.declared.draft.Rule.{Rule}
use Rattle.crush_map.specs.declared.draft.MapDraft.{MapDraft}
use Rattle.crush_map.specs.Faults.{SymbolTable, ◌when◌, or_else, has_number, are_in_range, at_place, first_in, type_fault, with_type, device_fault, with_device, bucket_fault, with_bucket, rule_fault, with_rule, nothing, known_types, known_devices, known_buckets, known_rules, element_fault, end_fault, first_fault}
use Rattle.crush_map.specs.Map.{Map, IsMap, draft_of}
use Rattle.crush_bucket.specs.Tables.{tables_of}
use Rattle.crush_choose.specs.Rules.{CanRun}

first_none : {X : Type 0} (a b : Option X) → or_else a b ≡ None → a ≡ None
first_none None b h = refl
first_none (Some a) b h = cc

rest_none : {X : Type 0} (a b : Option X) → or_else a b ≡ None → b ≡ None
rest_none None b h = h
rest_none (Some a) b h = cc

no_code : (element : Element) (place : ℕ) (o : Option FaultCode) → at_place element place o ≡ None → o ≡ None
no_code element place None h = refl
no_code element place (Some code) h = cc

test_fails : (code : FaultCode) (test : Bool) → (code when test) ≡ None → test ≡ false
test_fails code true h = cc
test_fails code false h = refl

not_false : (b : Bool) → not b ≡ false → b ≡ true
not_false true h = refl
not_false false h = cc

-- some declarations given which a rule has no fault
record Passes (rule : Rule) : Type 0 where
  known : SymbolTable
  faultless : rule_fault known rule ≡ None

each_passes : (place : ℕ) (known : SymbolTable) (rules : List Rule) → first_in Rules rule_fault with_rule place known rules ≡ None
    → (i : ℕ) (rule : Rule) → slice_get rules i ≡ Some rule → Passes rule
unfolding first_in
each_passes place known [] h i rule is = cc
each_passes place known (r ∷ rules) h zero rule is =
    let e : r ≡ rule = cc in
    record { known = known; faultless = rw (← e) (no_code Rules place _ (first_none _ _ h)) }
each_passes place known (r ∷ rules) h (suc i) rule is = each_passes (place + 1) (with_rule known r) rules (rest_none _ _ h) i rule is

rules_pass : (d : MapDraft) → first_fault d ≡ None → first_in Rules rule_fault with_rule 0 (known_buckets d) d.rules ≡ None
unfolding first_fault element_fault
rules_pass d h =
    let elements = first_none (element_fault d) (at_place End 0 (end_fault (known_rules d) d.tunables d.local_tries d.local_fallback_tries)) h in
    rest_none (first_in Buckets bucket_fault with_bucket 0 (known_devices d) d.buckets) _
    (rest_none (first_in Devices device_fault with_device 0 (known_types d) d.devices) _
    (rest_none (first_in Types type_fault with_type 0 nothing d.types) _ elements))

tunables_pass : (d : MapDraft) → first_fault d ≡ None → are_in_range d.tunables ≡ true
unfolding first_fault end_fault
tunables_pass d h =
    let ends = no_code End 0 _ (rest_none (element_fault d) _ h) in
    not_false _ (test_fails M12 _ (first_none (M12 when not (are_in_range d.tunables)) _ (rest_none (M4 when not (has_number (known_rules d).types 0)) _ ends)))

pub can_run : (m : Map) (place : ℕ) (rule : Rule) → IsMap m → slice_get m.rules place ≡ Some rule → CanRun (tables_of m) rule
can_run m place rule is there =
    let pass = each_passes 0 (known_buckets (draft_of m)) m.rules (rules_pass (draft_of m) is.faultless) place rule there in
    record { known = pass.known; faultless = pass.faultless; tunables = tunables_pass (draft_of m) is.faultless }
