use Rattle.std.proofs.Common.{◌/◌, ◌^◌}
use Rattle.crush_hash.specs.Hash.{down}
use Rattle.crush_hash.proofs.LaneLemmas.{line_of}
use Rattle.crush_hash.proofs.four_lanes.down.Goals as goal

pub returns : goal.returns
unfolding down
returns c =
    line_of (λ z bits. z / 2 ^ bits) c.args.bits 4 c.args.x c.args.y c.args.z c.fits-x.0 c.fits-y.0 c.fits-z.0
