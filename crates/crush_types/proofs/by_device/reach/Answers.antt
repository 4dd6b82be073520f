use Rattle.std.proofs.Common.{arith}
use Rattle.std.specs.Vec.{vec_len}
use Rattle.crush_types.proofs.DeviceValues.{padded-resized}
use Rattle.crush_types.proofs.by_device.reach.Goals as goal

pub returns-in_ok-resize-clause-same : goal.returns-in_ok-resize-clause-same
returns-in_ok-resize-clause-same g c =
    rw (c.in_ok-resize.ensures.items) (padded-resized c.args.rest c.args.table.now.items c.args.len (vec_len c.args.table.now) (c.args.table.now.ok.0) (omega (arith, c.if-len.true, c.len.ensures)) c.requires.fits)
