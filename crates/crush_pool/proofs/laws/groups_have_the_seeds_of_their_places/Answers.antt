use Rattle.std.proofs.Common.{◌≡◌, ◌+◌, ◌%◌, ◌^◌, ℕ, if◌then◌else◌, ap, sym, ◌∙◌, arith}
use Rattle.std.proofs.Math.Nat.{mod-eq_of_lt}
use Rattle.crush_hash.specs.Hash.{hash2}
use Rattle.crush_pool.specs.Groups.{mask_of, stable_mod}
use Rattle.crush_pool.specs.declared.pool.PoolParts.{PoolParts}
use Rattle.crush_pool.proofs.Ranges.{pool_ranges}
use Rattle.crush_pool.proofs.laws.groups_have_the_seeds_of_their_places.Goals as goal

abbrev place_of : PoolParts → ℕ → ℕ
place_of p group = stable_mod group p.pgp_num (mask_of p.pgp_num)

-- the seed of a group with a place
abbrev seed_at : PoolParts → ℕ → ℕ
seed_at p place = if p.hashpspool then hash2 place p.id else (place + p.id) % 2 ^ 32

pub returns-clause-place : goal.returns-clause-place
returns-clause-place c = λ p group some.
    let below = c.numbers_fall_into_groups.ensures.below group p.pgp_num some in
    let own = c.numbers_fall_into_groups.ensures.own (place_of p group) p.pgp_num below in
    sym (ap (λ (place : ℕ). seed_at p place) own)

pub returns-clause-hash : goal.returns-clause-hash
returns-clause-hash c = λ p group hashed less.
    let own = c.numbers_fall_into_groups.ensures.own group p.pgp_num less in
    rw hashed (ap (λ (place : ℕ). hash2 place p.id) own)

pub returns-clause-sum : goal.returns-clause-sum
returns-clause-sum c = λ p group valid plain less.
    let own = c.numbers_fall_into_groups.ensures.own group p.pgp_num less in
    let ranges = pool_ranges p valid in
    let fits : (group + p.id) % 2 ^ 32 ≡ group + p.id = mod-eq_of_lt (omega (arith, less, ranges.0, ranges.1)) in
    rw plain (ap (λ (place : ℕ). (place + p.id) % 2 ^ 32) own ∙ fits)
