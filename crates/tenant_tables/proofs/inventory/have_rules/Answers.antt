use Rattle.std.proofs.Common.{◌≡◌, ◌==◌, ◌∙◌, Some, None, length, sym, ap}
use Rattle.std.proofs.lemmas.List.{length-map}
use Rattle.tenant_state.specs.State.{version}
use Rattle.tenant_tables.proofs.Counting.{rules_on_some, rules_on_none}
use Rattle.tenant_tables.proofs.inventory.have_rules.Goals as goal

pub returns-in-Some : goal.returns-in-Some
returns-in-Some c =
    let i = c.args.inventory.now in
    let m = c.map.result.now in
    let is : Some m ≡ version c.newest.result i = ap Some c.map.ensures ∙ c.in-Some.ensures in
    c.has_rules_in.ensures ∙ rules_on_some i m (is ∙ ap (λ n. version n i) c.newest.ensures)

pub returns-in-None : goal.returns-in-None
returns-in-None c =
    let i = c.args.inventory.now in
    let is : None ≡ version c.newest.result i = c.in-None.ensures in
    let count : length c.as_slice.result.now ≡ length i.pools =
    sym (length-map c.as_slice.result.now (λ p. p.value)) ∙ ap length (c.as_slice.ensures ∙ c.pools.ensures) in
    c.is_empty.ensures ∙ (ap (λ n. n == 0) count ∙ rules_on_none i (is ∙ ap (λ n. version n i) c.newest.ensures))
