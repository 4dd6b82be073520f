use Rattle.std.proofs.Common.{◌≡◌, refl, ap}
use Rattle.crush_hash.specs.Hash.{hash3, Words}
use Rattle.crush_hash.proofs.four_lanes.hash3_of.Goals as goal

first : {u v : Words} → u ≡ v → u.0 ≡ v.0
first e = ap (λ (w : Words). w.0) e

second : {u v : Words} → u ≡ v → u.1 ≡ v.1
second e = ap (λ (w : Words). w.1) e

third : {u v : Words} → u ≡ v → u.2 ≡ v.2
third e = ap (λ (w : Words). w.2) e

pub returns : goal.returns
unfolding hash3
returns c n h =
    rw (
      third (c.mix-u.ensures n h),
      third (c.mix-t.ensures n h),
      first (c.mix-s.ensures n h),
      third (c.mix-s.ensures n h),
      first (c.mix-q.ensures n h),
      second (c.mix-q.ensures n h),
      third (c.mix-q.ensures n h),
      first (c.mix-p.ensures n h),
      second (c.mix-p.ensures n h),
      third (c.mix-p.ensures n h),
      c.xor-h3.ensures n h,
      c.xor-h2.ensures n h,
      c.xor-h1.ensures n h,
      c.splat.ensures n h,
      c.splat-2.ensures n h,
      c.splat-3.ensures n h,
    ) refl
