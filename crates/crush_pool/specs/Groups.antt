-- Which of b groups a number falls into (`ceph_stable_mod` of Ceph's `include/rados.h`, and
-- `pg_pool_t::calc_pg_masks`).
use Rattle.std.specs.Prelude.{ℕ, ◌-◌, ◌/◌, ◌^◌, nat_lt, if◌then◌else◌}
use Rattle.std.specs.Int.Bits.{bit_and}
use Rattle.crush_bucket.specs.Kinds.{height_of}

-- 2^k - 1 for the least k such that 2^k is at least b
abbrev pub mask_of : ℕ → ℕ
mask_of b = 2 ^ height_of b - 1

-- the bits of x that the mask leaves; where they are not below b, without the highest of them
abbrev pub stable_mod : ℕ → ℕ → ℕ → ℕ
stable_mod x b mask = let kept = bit_and x mask in if nat_lt kept b then kept else bit_and x (mask / 2)
