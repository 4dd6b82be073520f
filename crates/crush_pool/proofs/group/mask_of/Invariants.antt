use Rattle.std.proofs.Common.{◌≡◌, ℕ, ◌<◌, ◌-◌, ◌*◌, ◌^◌}
use Rattle.crush_pool.proofs.group.mask_of.Given as goal

abbrev pub invariant-loop-width : goal.invariant-loop-width
invariant-loop-width l = record {
  width : l.width ≡ 2 ^ l.height;
  low : l.height < 33;
  below : (h : ℕ) → h < l.height → 2 ^ h < l.b;
}

abbrev pub decreases-loop-width : goal.decreases-loop-width
decreases-loop-width l = 2 * l.b - l.width
