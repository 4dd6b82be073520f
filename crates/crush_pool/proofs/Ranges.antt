-- The ranges of a pool's numbers.
use Rattle.std.proofs.Common.{◌≡◌, ◌≤◌, true, arith}
use Rattle.std.proofs.lemmas.Bool.Decides.{nat_tests}
use Rattle.crush_pool.specs.Pools.{is_pool}
use Rattle.crush_pool.specs.declared.limits.TheConstants.{GROUP_LIMIT, POOL_ID_LIMIT}
use Rattle.crush_pool.specs.declared.pool.PoolParts.{PoolParts}

pub pool_ranges : (p : PoolParts) → is_pool p ≡ true → (p.id ≤ POOL_ID_LIMIT) × (p.pgp_num ≤ GROUP_LIMIT)
pool_ranges p valid = grind (arith, nat_tests, valid)

pub pool_groups : (p : PoolParts) → is_pool p ≡ true → p.pg_num ≤ GROUP_LIMIT
pool_groups p valid = grind (arith, nat_tests, valid)
