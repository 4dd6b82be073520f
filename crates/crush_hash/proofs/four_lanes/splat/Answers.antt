use Rattle.std.proofs.lemmas.Simd.{get_or-replicate}
use Rattle.crush_hash.proofs.four_lanes.splat.Goals as goal

pub returns : goal.returns
returns c n h = get_or-replicate 4 n c.args.word 0 h
