use Rattle.std.proofs.Common.{ℕ, ◌∙◌, [], map, ap}
use Rattle.crush_pool.specs.declared.pool.PoolParts.{PoolParts}
use Rattle.tenant_state.proofs.Keeping.{same_shared}
use Rattle.tenant_state.specs.Ordered.{with_element}
use Rattle.tenant_state.specs.State.{TenantPool}
use Rattle.tenant_state.proofs.pools.Pools.with.Goals as goal

abbrev id_of : TenantPool → ℕ
id_of p = p.parts.id

abbrev with_none : PoolParts → TenantPool
with_none parts = record { parts = parts; pairs = [] }

pub returns : goal.returns
returns c =
    let same = same_shared c.self.inside.pools.items c.in_ok-pools.pools.items c.in_ok-pools.ensures.cases.0 ∙ c.self.view_is in
    let new = c.in_ok-new-2.ensures.ok ∙ (c.in_ok-new.ensures ∙ ap with_none c.in_ok-clone.ensures.cases) in
    c.of.ensures ∙ (c.in_ok-insert.ensures
    ∙ (ap (λ (p : TenantPool). with_element id_of p (map (λ p. p.value) c.in_ok-pools.pools.items)) new
    ∙ ap (with_element id_of (with_none c.args.pool.now.value)) same))
