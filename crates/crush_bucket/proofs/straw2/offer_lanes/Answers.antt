use Rattle.std.proofs.Common.{slice_index, arith}
use Rattle.crush_bucket.proofs.Offers.{offered_at}
use Rattle.crush_bucket.proofs.straw2.offer_lanes.Goals as goal

pub loop-lane-preserved : goal.loop-lane-preserved
loop-lane-preserved c =
    let lane = c.loop-lane.lane in
    offered_at c.args.items.now c.args.x c.args.r c.args.from lane (slice_index c.args.hashes.now lane) c.loop-lane.best c.offer.new.best c.loop-lane.invariant (c.requires.hashes lane (omega arith)) c.offer.ensures
