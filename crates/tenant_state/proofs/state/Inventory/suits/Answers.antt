use Rattle.std.proofs.Common.{◌≡◌, ◌==◌, ◌∙◌, Some, None, find, option_map, ap, sym}
use Rattle.tenant_state.specs.Made.{made_of}
use Rattle.tenant_state.specs.State.{Inventory, TenantPool, can_have, suits}
use Rattle.tenant_state.proofs.state.Inventory.suits.Goals as goal

pub returns-in-Some : goal.returns-in-Some
returns-in-Some c =
    let there : Some c.in-Some.pool.now ≡ find (λ p. p.parts.id == c.in-Exceptions.id) c.args.self.now.pools =
    ap (option_map (λ p. p.now)) (sym c.in-Some.is)
    ∙ (c.get.ensures ∙ (ap (λ n. find (λ (p : TenantPool). p.parts.id == n) c.self.inside.pools) c.from.ensures
    ∙ ap (λ (i : Inventory). find (λ (p : TenantPool). p.parts.id == c.in-Exceptions.id) i.pools) c.self.view_is)) in
    c.can_have.ensures ∙ (ap (can_have c.in-Exceptions.exceptions) there ∙ ap (λ m. suits (made_of m) c.args.self.now) (sym c.in-Exceptions.is))

pub returns-in-None : goal.returns-in-None
returns-in-None c =
    let gone : None ≡ find (λ p. p.parts.id == c.in-Exceptions.id) c.args.self.now.pools =
    ap (option_map (λ p. p.now)) (sym c.in-None.is)
    ∙ (c.get.ensures ∙ (ap (λ n. find (λ (p : TenantPool). p.parts.id == n) c.self.inside.pools) c.from.ensures
    ∙ ap (λ (i : Inventory). find (λ (p : TenantPool). p.parts.id == c.in-Exceptions.id) i.pools) c.self.view_is)) in
    ap (can_have c.in-Exceptions.exceptions) gone ∙ ap (λ m. suits (made_of m) c.args.self.now) (sym c.in-Exceptions.is)
