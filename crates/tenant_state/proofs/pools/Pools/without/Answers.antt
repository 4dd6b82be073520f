use Rattle.std.proofs.Common.{◌≡◌, ◌==◌, ◌∙◌, map, position, sym, ap}
use Rattle.tenant_state.proofs.Keeping.{same_shared}
use Rattle.tenant_state.proofs.Ordering.{removed, absent}
use Rattle.tenant_state.specs.Ordered.{without}
use Rattle.tenant_state.specs.State.{TenantPool}
use Rattle.tenant_state.proofs.pools.Pools.without.Goals as goal
use Rattle.tenant_state.proofs.pools.Pools.without.Goals.{in-Some, in_default}

pub returns : goal.returns
returns c =
    let same = same_shared c.self.inside.pools.items c.in_ok-pools.pools.items c.in_ok-pools.ensures.cases.0 ∙ c.self.view_is in
    let asked : position (λ p. p.value.parts.id == c.args.id) c.in_ok-pools.pools.items ≡ c.place_with.result =
    sym (c.place_with.ensures ∙ (ap (λ l. position (λ p. p.value.parts.id == c.from.result) l) c.deref.ensures.value
    ∙ ap (λ n. position (λ p. p.value.parts.id == n) c.in_ok-pools.pools.items) c.from.ensures)) in
    elim c.match-place_with.branch [
      | in-Some w ↦ c.of.ensures ∙ (ap (λ v. map (λ p. p.value) v.items) w.pools-is
          ∙ (ap (map (λ p. p.value)) w.remove-removed.ensures.items
          ∙ (removed (λ p. p.value) (λ (p : TenantPool). p.parts.id) c.args.id w.remove-removed.result w.in-Some.place c.in_ok-pools.pools.items (asked ∙ w.in-Some.is)
          ∙ ap (without (λ (p : TenantPool). p.parts.id) c.args.id) same)))
      | in_default w ↦ c.of.ensures ∙ (ap (λ v. map (λ p. p.value) v.items) w.pools-is
          ∙ (absent (λ p. p.value) (λ (p : TenantPool). p.parts.id) c.args.id c.in_ok-pools.pools.items (asked ∙ w.in_default.is)
          ∙ ap (without (λ (p : TenantPool). p.parts.id) c.args.id) same))
    ]
