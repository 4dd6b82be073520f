-- Types, devices and rules are elements with a number and a name.
use Rattle.std.proofs.Common.{arith, ◌≡◌, ◌∙◌, ◌<◌, false, not, ◌||◌, ◌==◌, None, List, [], ◌∷◌, ℕ, refl, sym, length, nat_lt, nat_le}
use Rattle.std.proofs.lemmas.Bool.Decides.{nat_tests}
use Rattle.crush_map.specs.declared.fault.FaultCode.TheVariants.{M1, M2, M3, M12, M15}
use Rattle.crush_map.specs.declared.draft.TypeName.{TypeName}
use Rattle.crush_map.specs.declared.draft.Device.{Device}
use Rattle.crush_map.specs.declared.draft.Rule.{Rule}
use Rattle.crush_map.specs.declared.draft.Step.{Step}
use Rattle.crush_map.specs.declared.draft.Step.TheVariants.{Take, SetChooseTries, SetLeafTries, SetVaryR, SetStable, Choose, Emit}
use Rattle.crush_map.specs.declared.limits.TheConstants.{TYPE_LIMIT, DEVICE_LIMIT, RULE_LIMIT, STEP_LIMIT, NUMBER_LIMIT, RULE_ID_LIMIT}
use Rattle.crush_map.specs.Faults.{SymbolTable, ◌when◌, has_number, has_name, is_name, is_reserved, steps_fault, step_fault, choose_fault, type_checks, type_fault, with_type, device_checks, device_fault, with_device, rule_checks, rule_fault, with_rule}
use Rattle.crush_map.proofs.Passing.{passes, fails}
use Rattle.crush_map.proofs.Reordered.{Kind, Passes}

pub above : (a b : ℕ) → nat_le a b ≡ false → b < a
above a b h = grind (arith, nat_tests)

not_above : (a b : ℕ) → b < a → nat_le a b ≡ false
not_above a b h = grind (arith, nat_tests)

-- ---- types

pub record OwnType (known : SymbolTable) (t : TypeName) : Type 0 where
  pub in_range : nat_lt NUMBER_LIMIT t.number ≡ false
  pub form : (not (is_name t.name) || is_reserved t.name) ≡ false

pub type_splits : (k : SymbolTable) (t : TypeName) → type_fault k t ≡ None → Passes OwnType TYPE_LIMIT (λ t. t.number) (λ t. t.name) k.types k.type_names k t
unfolding type_fault
type_splits k t h = record {
  room = above TYPE_LIMIT (length k.types) (fails M1 _ (passes (type_checks k t) 0 (M1 when nat_le TYPE_LIMIT (length k.types)) refl h));
  own = record {
    in_range = fails M12 _ (passes (type_checks k t) 1 (M12 when nat_lt NUMBER_LIMIT t.number) refl h);
    form = fails M15 _ (passes (type_checks k t) 3 (M15 when (not (is_name t.name) || is_reserved t.name)) refl h);
  };
  new_number = fails M2 _ (passes (type_checks k t) 2 (M2 when has_number k.types t.number) refl h);
  new_name = fails M3 _ (passes (type_checks k t) 4 (M3 when has_name k.type_names t.name) refl h);
}

pub type_joins : (k : SymbolTable) (t : TypeName) → Passes OwnType TYPE_LIMIT (λ t. t.number) (λ t. t.name) k.types k.type_names k t → type_fault k t ≡ None
unfolding type_fault
type_joins k t p = rw (not_above TYPE_LIMIT (length k.types) p.room, p.own.in_range, p.new_number, p.own.form, p.new_name) refl

abbrev pub type_kind : Kind type_fault with_type OwnType
type_kind = record {
  limit = TYPE_LIMIT;
  number = λ t. t.number;
  name = λ t. t.name;
  numbers = λ k. k.types;
  names = λ k. k.type_names;
  numbers_with = λ k x. refl;
  names_with = λ k x. refl;
  own_with = λ k x y h. record { in_range = h.in_range; form = h.form };
  own_before = λ k x y h. record { in_range = h.in_range; form = h.form };
  splits = type_splits;
  joins = type_joins;
}

-- ---- devices

pub record OwnDevice (known : SymbolTable) (d : Device) : Type 0 where
  pub in_range : nat_lt NUMBER_LIMIT d.id ≡ false
  pub form : not (is_name d.name) ≡ false

pub device_splits : (k : SymbolTable) (d : Device) → device_fault k d ≡ None → Passes OwnDevice DEVICE_LIMIT (λ d. d.id) (λ d. d.name) k.items.devices k.item_names k d
unfolding device_fault
device_splits k d h = record {
  room = above DEVICE_LIMIT (length k.items.devices) (fails M1 _ (passes (device_checks k d) 0 (M1 when nat_le DEVICE_LIMIT (length k.items.devices)) refl h));
  own = record {
    in_range = fails M12 _ (passes (device_checks k d) 1 (M12 when nat_lt NUMBER_LIMIT d.id) refl h);
    form = fails M15 _ (passes (device_checks k d) 3 (M15 when not (is_name d.name)) refl h);
  };
  new_number = fails M2 _ (passes (device_checks k d) 2 (M2 when has_number k.items.devices d.id) refl h);
  new_name = fails M3 _ (passes (device_checks k d) 4 (M3 when has_name k.item_names d.name) refl h);
}

pub device_joins : (k : SymbolTable) (d : Device) → Passes OwnDevice DEVICE_LIMIT (λ d. d.id) (λ d. d.name) k.items.devices k.item_names k d → device_fault k d ≡ None
unfolding device_fault
device_joins k d p = rw (not_above DEVICE_LIMIT (length k.items.devices) p.room, p.own.in_range, p.new_number, p.own.form, p.new_name) refl

abbrev pub device_kind : Kind device_fault with_device OwnDevice
device_kind = record {
  limit = DEVICE_LIMIT;
  number = λ d. d.id;
  name = λ d. d.name;
  numbers = λ k. k.items.devices;
  names = λ k. k.item_names;
  numbers_with = λ k x. refl;
  names_with = λ k x. refl;
  own_with = λ k x y h. record { in_range = h.in_range; form = h.form };
  own_before = λ k x y h. record { in_range = h.in_range; form = h.form };
  splits = device_splits;
  joins = device_joins;
}

-- ---- rules

pub record OwnRule (known : SymbolTable) (r : Rule) : Type 0 where
  pub in_range : nat_lt RULE_ID_LIMIT r.id ≡ false
  pub form : not (is_name r.name) ≡ false
  pub count : ((length r.steps == 0) || nat_lt STEP_LIMIT (length r.steps)) ≡ false
  pub steps : steps_fault known r.steps ≡ None

pub rule_splits : (k : SymbolTable) (r : Rule) → rule_fault k r ≡ None → Passes OwnRule RULE_LIMIT (λ r. r.id) (λ r. r.name) k.rules k.rule_names k r
unfolding rule_fault
rule_splits k r h = record {
  room = above RULE_LIMIT (length k.rules) (fails M1 _ (passes (rule_checks k r) 0 (M1 when nat_le RULE_LIMIT (length k.rules)) refl h));
  own = record {
    in_range = fails M12 _ (passes (rule_checks k r) 1 (M12 when nat_lt RULE_ID_LIMIT r.id) refl h);
    form = fails M15 _ (passes (rule_checks k r) 3 (M15 when not (is_name r.name)) refl h);
    count = fails M1 _ (passes (rule_checks k r) 5 (M1 when ((length r.steps == 0) || nat_lt STEP_LIMIT (length r.steps))) refl h);
    steps = passes (rule_checks k r) 6 (steps_fault k r.steps) refl h;
  };
  new_number = fails M2 _ (passes (rule_checks k r) 2 (M2 when has_number k.rules r.id) refl h);
  new_name = fails M3 _ (passes (rule_checks k r) 4 (M3 when has_name k.rule_names r.name) refl h);
}

pub rule_joins : (k : SymbolTable) (r : Rule) → Passes OwnRule RULE_LIMIT (λ r. r.id) (λ r. r.name) k.rules k.rule_names k r → rule_fault k r ≡ None
unfolding rule_fault
rule_joins k r p = rw (not_above RULE_LIMIT (length k.rules) p.room, p.own.in_range, p.new_number, p.own.form, p.new_name, p.own.count, p.own.steps) refl

-- the fault of a step depends on the declared types and items alone
step_behind : (k : SymbolTable) (r : Rule) (s : Step) → step_fault (with_rule k r) s ≡ step_fault k s
unfolding step_fault choose_fault
step_behind k r (Take id) = refl
step_behind k r (SetChooseTries tries) = refl
step_behind k r (SetLeafTries tries) = refl
step_behind k r (SetVaryR value) = refl
step_behind k r (SetStable value) = refl
step_behind k r (Choose firstn leaf n wanted) = refl
step_behind k r Emit = refl

pub steps_behind : (k : SymbolTable) (r : Rule) (steps : List Step) → steps_fault (with_rule k r) steps ≡ steps_fault k steps
steps_behind k r [] = refl
steps_behind k r (s ∷ steps) = rw (step_behind k r s, steps_behind k r steps) refl

abbrev pub rule_kind : Kind rule_fault with_rule OwnRule
rule_kind = record {
  limit = RULE_LIMIT;
  number = λ r. r.id;
  name = λ r. r.name;
  numbers = λ k. k.rules;
  names = λ k. k.rule_names;
  numbers_with = λ k x. refl;
  names_with = λ k x. refl;
  own_with = λ k x y h. record { in_range = h.in_range; form = h.form; count = h.count; steps = steps_behind k x y.steps ∙ h.steps };
  own_before = λ k x y h. record { in_range = h.in_range; form = h.form; count = h.count; steps = sym (steps_behind k x y.steps) ∙ h.steps };
  splits = rule_splits;
  joins = rule_joins;
}
