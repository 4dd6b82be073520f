use Rattle.std.proofs.Common.{◌==◌, ◌∙◌, Some, find, sym, ap}
use Rattle.tenant_state.proofs.Ordering.{found, not_found}
use Rattle.tenant_state.proofs.pools.Pools.get_shared.Goals as goal

pub returns-in-Some : goal.returns-in-Some
returns-in-Some c =
    ap Some (ap (λ p. p.value) c.index.ensures)
    ∙ (found (λ p. p.value) (λ p. p.parts.id == c.args.id) c.index.result.now c.in-Some.place c.self.inside.pools.items
    (ap (λ l. Rattle.std.specs.List.position (λ p. p.value.parts.id == c.args.id) l) (sym c.deref.ensures.value) ∙ (sym c.place_with.ensures ∙ c.in-Some.is))
    ∙ ap (find (λ p. p.parts.id == c.args.id)) c.self.view_is)

pub returns-in-None : goal.returns-in-None
returns-in-None c =
    not_found (λ p. p.value) (λ p. p.parts.id == c.args.id) c.self.inside.pools.items
    (ap (λ l. Rattle.std.specs.List.position (λ p. p.value.parts.id == c.args.id) l) (sym c.deref.ensures.value) ∙ (sym c.place_with.ensures ∙ c.in-None.is))
    ∙ ap (find (λ p. p.parts.id == c.args.id)) c.self.view_is
