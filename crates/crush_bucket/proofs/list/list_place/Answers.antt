use Rattle.std.proofs.Common.{length, ◌%◌, arith}
use Rattle.crush_bucket.specs.Kinds.{takes}
use Rattle.crush_bucket.proofs.Greatest.{or_below}
use Rattle.crush_bucket.proofs.list.list_place.Goals as goal

pub returns-clause-within : goal.returns-clause-within
returns-clause-within c =
    let size = length c.args.items.now in
    let below = or_below (takes c.args.id c.args.items.now c.args.x c.args.r) (size % 8) size c.requires.some (omega arith) in
    omega (arith, below, c.last_of_rest.ensures)
