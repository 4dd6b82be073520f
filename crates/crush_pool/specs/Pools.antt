-- Pools, the group of an object and the seed of a group (`pg_pool_t` of Ceph's `osd/osd_types.cc`).
use Rattle.std.specs.Prelude.{ℕ, ◌+◌, ◌%◌, ◌^◌, ◌&&◌, nat_le, Bool, List, if◌then◌else◌}
use Rattle.crush_hash.specs.Hash.{hash2, name_hash}
use Rattle.crush_map.specs.Faults.{is_name}
use Rattle.crush_map.specs.declared.limits.TheConstants.{RULE_ID_LIMIT}
use Rattle.crush_choose.specs.declared.limits.TheConstants.{SIZE_LIMIT}
use Rattle.crush_pool.specs.Groups.{mask_of, stable_mod}
use Rattle.crush_pool.specs.declared.limits.TheConstants.{GROUP_LIMIT, POOL_ID_LIMIT}
use Rattle.crush_pool.specs.declared.pool.PoolParts.{PoolParts}

-- the numbers and the name of a pool are in their ranges; a group's seed takes no more values than
-- there are groups
abbrev pub is_pool : PoolParts → Bool
is_pool p =
    nat_le 1 p.id && nat_le p.id POOL_ID_LIMIT && is_name p.name && nat_le 1 p.size && nat_le p.size SIZE_LIMIT && nat_le p.rule RULE_ID_LIMIT
    && nat_le 1 p.pg_num && nat_le p.pg_num GROUP_LIMIT && nat_le 1 p.pgp_num && nat_le p.pgp_num p.pg_num

-- the group of the object with a name
abbrev pub group_of : PoolParts → List ℕ → ℕ
group_of p name = stable_mod (name_hash name) p.pg_num (mask_of p.pg_num)

-- the input x with which a group's rule runs (`raw_pg_to_pps`)
abbrev pub seed_of : PoolParts → ℕ → ℕ
seed_of p group =
    let place = stable_mod group p.pgp_num (mask_of p.pgp_num) in
    if p.hashpspool then hash2 place p.id else (place + p.id) % 2 ^ 32
