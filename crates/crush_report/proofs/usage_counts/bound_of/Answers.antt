use Rattle.std.proofs.Common.{◌+◌, arith}
use Rattle.crush_report.proofs.Tallies.{bound_more, bound_none, greater_of}
use Rattle.crush_report.proofs.usage_counts.bound_of.Goals as goal

pub loop-device-init : goal.loop-device-init
loop-device-init c = bound_none c.args.devices.now

pub loop-device-preserved : goal.loop-device-preserved
loop-device-preserved c =
    let more = bound_more c.args.devices.now c.loop-device.device-index c.device-item.result c.loop-device-test.true c.device-item.is in
    let greater = greater_of c.loop-device.bound (c.device-item.result.id + 1) in
    omega (arith, c.max-bound.ensures, c.loop-device.invariant, more, greater)
