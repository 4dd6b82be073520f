-- Tests of each part, and how many there are.
use Rattle.std.proofs.Common.{◌≡◌, ◌==◌, ◌<◌, ◌||◌, ℕ, List, [], ◌∷◌, length, map, Bool, false, Option, Some, None, is_some, option_and_then, arith, refl, sym, ap, ◌∙◌}
use Rattle.std.specs.List.{list_all, list_any}
use Rattle.std.proofs.lemmas.Bool.Decides.{nat_tests}
use Rattle.std.proofs.lemmas.List.{length-map}
use Rattle.table_schema.specs.sqlite_value.specs.Order.{Row}
use Rattle.crush_map.specs.Map.{Map}
use Rattle.crush_pool.specs.Placements.{rule_numbered}
use Rattle.tenant_state.specs.State.{Inventory, TenantPool, has_rules_of, have_rules, newest, version}

pub any_map : {X Y : Type 0} (test : X → Bool) (of : Y → X) (ys : List Y) → list_any test (map of ys) ≡ list_any (λ y. test (of y)) ys
any_map test of [] = refl
any_map test of (y ∷ ys) = ap (λ b. test (of y) || b) (any_map test of ys)

-- ---- the rules of pools in the newest version

rules_in : List TenantPool → Option Map → Bool
rules_in pools found = list_all (λ p. is_some (option_and_then (λ m. rule_numbered m p.parts.rule) found)) pools

pub rules_on_some : (i : Inventory) (m : Map) → Some m ≡ version (newest i) i → has_rules_of i.pools m ≡ have_rules i
unfolding rules_in
rules_on_some i m is = ap (rules_in i.pools) is

none_of : (pools : List TenantPool) → (length pools == 0) ≡ list_all (λ p. false) pools
none_of [] = refl
none_of (p ∷ pools) = differs (length (p ∷ pools)) (omega arith)
  where
    differs : (n : ℕ) → 0 < n → (n == 0) ≡ false
    differs n more = grind (arith, nat_tests)

pub rules_on_none : (i : Inventory) → None ≡ version (newest i) i → (length i.pools == 0) ≡ have_rules i
unfolding rules_in
rules_on_none i is = none_of i.pools ∙ ap (rules_in i.pools) is

-- ---- how many rows there are

pub count_rows : {R V : Type 0} (f : R → Row) (g : V → Row) (rows : List R) (vs : List V) → map f rows ≡ map g vs → length rows ≡ length vs
count_rows f g rows vs same = sym (length-map rows f) ∙ (ap length same ∙ length-map vs g)
