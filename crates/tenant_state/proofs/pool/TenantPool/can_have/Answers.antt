use Rattle.std.proofs.Common.{◌≡◌, nat_lt, true, ◌∙◌, ap, subst}
use Rattle.std.specs.List.{list_all}
use Rattle.crush_pool.specs.Exceptions.{are_pairs}
use Rattle.crush_pool.specs.declared.exceptions.Pair.{Pair}
use Rattle.crush_pool.specs.declared.limits.TheConstants.{GROUP_LIMIT}
use Rattle.crush_pool.specs.declared.pool.PoolParts.{PoolParts}
use Rattle.tenant_state.proofs.Pairing.{are_below}
use Rattle.tenant_state.proofs.pool.TenantPool.can_have.Goals as goal

pub returns : goal.returns
returns c =
    let valid = subst (λ l. are_pairs GROUP_LIMIT l ≡ true) c.exceptions.ensures c.pairs.ensures.valid in
    c.are_below.ensures
    ∙ (ap (list_all (λ (p : Pair). nat_lt p.group c.parts.result.now.pg_num)) (c.pairs.ensures.same ∙ c.exceptions.ensures)
    ∙ (are_below c.parts.result.now.pg_num c.args.exceptions.now valid ∙ ap (λ (p : PoolParts). are_pairs p.pg_num c.args.exceptions.now) c.parts.ensures))
