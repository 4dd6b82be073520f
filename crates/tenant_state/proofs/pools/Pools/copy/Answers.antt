use Rattle.std.proofs.Common.{◌-◌, ◌^◌, ◌∙◌, List, min, ap, sym}
use Rattle.std.specs.List.{sum_by}
use Rattle.tenant_state.proofs.Keeping.{same_shared}
use Rattle.tenant_state.specs.Size.{pool_size}
use Rattle.tenant_state.specs.State.{TenantPool}
use Rattle.tenant_state.proofs.pools.Pools.copy.Goals as goal

-- the copy has the same pools, so that their size is the same
pub invariant_of-result : goal.invariant_of-result
invariant_of-result c =
    c.self.invariant
    ∙ ap (λ (pools : List TenantPool). min (sum_by pool_size pools) (2 ^ 64 - 1)) (sym (same_shared c.self.inside.pools.items c.in_ok-clone.field-0.items c.in_ok-clone.ensures.cases.0))

pub returns : goal.returns
returns c = same_shared c.self.inside.pools.items c.in_ok-clone.field-0.items c.in_ok-clone.ensures.cases.0 ∙ c.self.view_is
