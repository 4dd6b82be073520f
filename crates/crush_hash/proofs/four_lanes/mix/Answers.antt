use Rattle.std.proofs.Common.{refl}
use Rattle.crush_hash.specs.Hash.{mix}
use Rattle.crush_hash.proofs.four_lanes.mix.Goals as goal

pub returns : goal.returns
unfolding mix
returns c n h =
    rw (
      c.down-c3.ensures n h,
      c.up-b3.ensures n h,
      c.down-a3.ensures n h,
      c.down-c2.ensures n h,
      c.up-b2.ensures n h,
      c.down-a2.ensures n h,
      c.down-c1.ensures n h,
      c.up-b1.ensures n h,
      c.down-a1.ensures n h,
    ) refl
