-- Steps of the checks of elements.
use Rattle.std.proofs.Common.{◌≡◌, ◌∙◌, ◌<◌, ◌+◌, true, false, Option, Some, None, List, [], ◌∷◌, ◌++◌, ℕ, refl, ap, length, drop, get_or, drop-cons, add-one}
use Rattle.crush_types.specs.declared.ItemId.{ItemId}
use Rattle.crush_types.specs.declared.Weight.{Weight}
use Rattle.crush_map.specs.declared.draft.Rule.{Rule}
use Rattle.crush_map.specs.declared.fault.FaultCode.{FaultCode}
use Rattle.crush_map.specs.Faults.{SymbolTable, Ids, items_fault, has_id, with_id, or_else, first_of, rule_fault, rule_head_fault, rule_head_checks, steps_fault}

pub or_else-none : {X : Type 0} (o : Option X) → or_else o None ≡ o
or_else-none None = refl
or_else-none (Some x) = refl

passed : (known : SymbolTable) (before : Ids) (item : ItemId × Weight) (items : List (ItemId × Weight)) → has_id known.items item.0.0 ≡ true → has_id before item.0.0 ≡ false →
    items_fault known before (item ∷ items) ≡ items_fault known (with_id before item.0.0) items
unfolding items_fault
passed known before item items here new = rw (here, new) (or_else-none (items_fault known (with_id before item.0.0) items))

-- after an item that passes, the check goes on with the item added to the earlier ones
pub items-more : (known : SymbolTable) (before : Ids) (items : List (ItemId × Weight)) (i : ℕ) (d : ItemId × Weight) → i < length items →
    has_id known.items (get_or items i d).0.0 ≡ true → has_id before (get_or items i d).0.0 ≡ false →
    items_fault known before (drop i items) ≡ items_fault known (with_id before (get_or items i d).0.0) (drop (i + 1) items)
items-more known before items i d short here new =
    ap (items_fault known before) (drop-cons items i d short) ∙ passed known before (get_or items i d) _ here new ∙ rw add-one refl

pub last_of : (checks : List (Option FaultCode)) (check : Option FaultCode) → first_of (checks ++ check ∷ []) ≡ or_else (first_of checks) check
last_of [] check = or_else-none check
last_of (Some code ∷ checks) check = refl
last_of (None ∷ checks) check = last_of checks check

-- the fault of a rule is that of its head, else that of its steps
pub rule_fault_by_parts : (known : SymbolTable) (r : Rule) → rule_fault known r ≡ or_else (rule_head_fault known r) (steps_fault known r.steps)
unfolding rule_fault rule_head_fault
rule_fault_by_parts known r = last_of (rule_head_checks known r) (steps_fault known r.steps)
