use Rattle.std.proofs.Common.{◌-◌, ◌^◌, min, ◌∙◌, List, ap}
use Rattle.crush_pool.specs.declared.exceptions.Pair.{Pair}
use Rattle.crush_pool.specs.declared.pool.PoolParts.{PoolParts}
use Rattle.tenant_state.specs.Size.{pool_size}
use Rattle.tenant_state.proofs.pool.TenantPool.of.Goals as goal

pub invariant_of-result : goal.invariant_of-result
invariant_of-result c = record {
  id = ap (λ (p : PoolParts). p.id) (c.parts.ensures.same ∙ c.deref.ensures);
  pairs = c.requires;
  size = c.size_of_pool-size.ensures c.args.pool.value
      ∙ ap (λ (pairs : List Pair). min (pool_size (record { parts = c.args.pool.value; pairs = pairs })) (2 ^ 64 - 1)) (c.pairs.ensures.same ∙ c.exceptions.ensures);
}
