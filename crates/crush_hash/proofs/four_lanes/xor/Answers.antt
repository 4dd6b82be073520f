use Rattle.std.proofs.Common.{bit_xor}
use Rattle.crush_hash.proofs.LaneLemmas.{lane_of}
use Rattle.crush_hash.proofs.four_lanes.xor.Goals as goal

pub returns : goal.returns
returns c = lane_of bit_xor 4 c.args.x c.args.y c.fits-x.0 c.fits-y.0
