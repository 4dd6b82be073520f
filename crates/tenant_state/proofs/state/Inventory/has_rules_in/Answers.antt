use Rattle.std.proofs.Common.{rules, tests, ◌∙◌, Bool, is_some, sym, ap}
use Rattle.std.proofs.lemmas.Iterator.{YieldsList-from_slice}
use Rattle.std.proofs.lemmas.Iterator.Search.{all_from_yields_List}
use Rattle.std.proofs.lemmas.List.Folds.{list_all-map}
use Rattle.std.specs.List.{list_all}
use Rattle.std.specs.declared.alloc.Global.{Global}
use Rattle.std.specs.declared.rc.Rc.{Rc}
use Rattle.crush_map.specs.Map.{Map}
use Rattle.crush_pool.specs.Placements.{rule_numbered}
use Rattle.tenant_state.specs.State.{Inventory, TenantPool}
use Rattle.tenant_state.proofs.state.Inventory.has_rules_in.Goals as goal

abbrev has_rule : Map → TenantPool → Bool
has_rule m p = is_some (rule_numbered m p.parts.rule)

pub returns : goal.returns
returns c =
    all_from_yields_List (λ (p : Rc TenantPool Global). has_rule c.args.map.now p.value) _ _ _ c.all.ensures.ran (YieldsList-from_slice c.as_slice.result.now cc) (λ x b q k. search (rules, tests))
    ∙ (sym (list_all-map (has_rule c.args.map.now) (λ (p : Rc TenantPool Global). p.value) c.as_slice.result.now)
    ∙ ap (list_all (has_rule c.args.map.now)) (c.as_slice.ensures ∙ ap (λ (i : Inventory). i.pools) c.self.view_is))
