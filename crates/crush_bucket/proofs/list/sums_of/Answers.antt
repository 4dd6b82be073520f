use Rattle.std.proofs.Common.{◌+◌, arith}
use Rattle.crush_bucket.proofs.Weights.{within_more, within_total}
use Rattle.crush_bucket.proofs.list.sums_of.Goals as goal

pub overflow_add-sum : goal.overflow_add-sum
overflow_add-sum c =
    omega (arith, within_more c.args.items.now c.loop-item.item-index, within_total c.args.items.now 0 (c.loop-item.item-index + 1))
