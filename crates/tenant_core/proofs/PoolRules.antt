-- The newest version has the rule of each pool.
use Rattle.std.proofs.Common.{◌≡◌, ◌∙◌, ℕ, ◌<◌, ◌==◌, List, [], ◌∷◌, find, Bool, true, false, nat_lt, if◌then◌else◌, Option, Some, None, is_some, option_and_then, is_ok, refl, subst, arith}
use Rattle.std.proofs.lemmas.Bool.Decides.{nat_tests}
use Rattle.std.specs.List.{list_all}
use Rattle.crush_map.specs.Map.{Map}
use Rattle.crush_map.specs.declared.draft.Rule.{Rule}
use Rattle.crush_pool.specs.Placements.{rule_numbered}
use Rattle.tenant_core.proofs.Once.{decided_fits, only_commands_change}
use Rattle.tenant_core.specs.Commands.{decision, Command}
use Rattle.tenant_core.specs.Step.{decision_on}
use Rattle.tenant_core.specs.declared.decision.Effect.TheVariants as effect
use Rattle.tenant_core.specs.declared.request.Action.{Action}
use Rattle.tenant_resources.specs.Groups as groups
use Rattle.tenant_state.proofs.Leaving.{rules_stay}
use Rattle.tenant_state.proofs.Staying.{both_true}
use Rattle.tenant_state.specs.Receipts.{Receipts, with_receipt}
use Rattle.tenant_state.specs.State.{Inventory, TenantPool, TenantState, Change, after, have_rules, inventory_of, with_made, with_receipts, version, newest, on_version, if_there, pool, rule_of}

-- ---- each change leaves the rules of pools in the newest version

-- `with_receipts` doesn't change what the rules of pools are found in
same_rules : (i : Inventory) (receipts : Receipts) → have_rules (inventory_of (with_receipts i receipts)) ≡ have_rules i
same_rules i receipts = refl

command_leaves : (k : Command) (s : TenantState) (c : Change) → (decision k s).effect ≡ effect.Change c → have_rules (inventory_of s) ≡ true → have_rules (inventory_of (after c s)) ≡ true
command_leaves k s c h had =
    same_rules (with_made c.made (inventory_of s)) (with_receipt c.number c.receipt s.receipts)
    ∙ rules_stay c.made (inventory_of s) (decided_fits k s c h).made had

pub action_leaves : (tenant : List ℕ) (a : Action) (s : TenantState) (c : Change) → (decision_on tenant a (Some s)).effect ≡ effect.Change c → have_rules (inventory_of s) ≡ true → have_rules (inventory_of (after c s)) ≡ true
action_leaves tenant a s c h had = only_commands_change (λ c. have_rules (inventory_of (after c s)) ≡ true) tenant a s c h (λ k is. command_leaves k s c is had)

-- ---- so each group is placed

found-passes : {A : Type 0} (t test : A → Bool) (xs : List A) (x : A) → list_all t xs ≡ true → find test xs ≡ Some x → t x ≡ true
found-passes t test [] x all h = cc
found-passes t test (y ∷ ys) x all h =
    let are = both_true (t y) (list_all t ys) all in at (test y) are.0 (λ later. found-passes t test ys x are.1 later) h
  where
    at : (b : Bool) → t y ≡ true → (find test ys ≡ Some x → t x ≡ true) → (if b then Some y else find test ys) ≡ Some x → t x ≡ true
    at true one rest is = let same : y ≡ x = cc in subst (λ z. t z ≡ true) same one
    at false one rest is = rest is

ruled : (m : Map) (s : Inventory) (p : TenantPool) (group : ℕ) (o : Option Rule) → rule_numbered m p.parts.rule ≡ o → is_some o ≡ true → is_ok (groups.on_map group (on_version s p m)) ≡ true
ruled m s p group None is h = cc
ruled m s p group (Some r) is h = rw is (rw is refl)

placed_on : (s : Inventory) (p : TenantPool) (group : ℕ) (o : Option Map) → is_some (option_and_then (λ m. rule_numbered m p.parts.rule) o) ≡ true → is_ok (groups.on_map group (if_there s p o)) ≡ true
placed_on s p group None h = cc
placed_on s p group (Some m) h = ruled m s p group (rule_numbered m p.parts.rule) refl h

pub groups_are_placed : (s : Inventory) (id group : ℕ) (p : TenantPool) → have_rules s ≡ true → pool id s ≡ Some p → group < p.parts.pg_num → is_ok (groups.placed s p group) ≡ true
groups_are_placed s id group p had is below =
    let inside : nat_lt group p.parts.pg_num ≡ true = grind (arith, nat_tests, below) in
    rw inside (placed_on s p group (version (newest s) s) (found-passes (λ q. is_some (rule_of s q.parts)) (λ q. q.parts.id == id) s.pools p had is))
