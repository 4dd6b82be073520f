use Rattle.std.proofs.Common.{arith, ◌<◌, length}
use Rattle.crush_report.proofs.Touching.{targets_more}
use Rattle.crush_report.proofs.touches.add_targets.Goals as goal

pub loop-pair-preserved : goal.loop-pair-preserved
loop-pair-preserved c =
    let inside : c.loop-pair.pair-index < length c.args.pairs.now = omega arith in
    record {
      each = λ d. targets_more c.args.devices.now.items c.loop-pair.devices.items c.add_target.new.devices.items c.args.pairs.now c.args.group c.loop-pair.pair-index d _ inside
          (c.loop-pair.invariant.each d) (c.in_ok-add_target.ensures.each d);
      once = λ was. c.in_ok-add_target.ensures.once (c.loop-pair.invariant.once was);
    }
