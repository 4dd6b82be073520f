use Rattle.std.proofs.Common.{◌+◌, ◌*◌, ◌≤◌, arith, sym}
use Rattle.crush_bucket.proofs.Quotients.{none_not_less, less_than_none, above_not_less, far_below_less, by_division}
use Rattle.crush_bucket.proofs.soonest.is_sooner.Goals as goal

pub returns-then-weight-eq0 : goal.returns-then-weight-eq0
returns-then-weight-eq0 c = sym (none_not_less c.args.delay c.args.weight c.args.other c.args.other_weight c.requires.other_low (omega arith))

pub returns-then-other_weight-eq0 : goal.returns-then-other_weight-eq0
returns-then-other_weight-eq0 c = sym (less_than_none c.args.delay c.args.weight c.args.other c.args.other_weight c.requires.low (omega arith) (omega arith))

pub returns-then-mine-others : goal.returns-then-mine-others
returns-then-mine-others c =
    let more : c.args.other * c.args.weight ≤ c.args.delay * c.args.other_weight = rw (c.from.ensures, c.from-2.ensures, c.from-3.ensures, c.from-4.ensures) at c.if-mine-others.true in
    sym (above_not_less c.args.delay c.args.weight c.args.other c.args.other_weight (omega arith) (omega arith) more)

pub returns-then-mine-from : goal.returns-then-mine-from
returns-then-mine-from c =
    let gap : c.args.delay * c.args.other_weight + c.args.weight * c.args.other_weight ≤ c.args.other * c.args.weight = rw (c.from.ensures, c.from-2.ensures, c.from-3.ensures, c.from-4.ensures, c.from-5.ensures, c.from-6.ensures) at c.if-mine-from.true in
    sym (far_below_less c.args.delay c.args.weight c.args.other c.args.other_weight (omega arith) (omega arith) gap)

pub returns : goal.returns
returns c = rw (c.from-7.ensures, c.from-8.ensures) (sym (by_division c.args.delay c.args.weight c.args.other c.args.other_weight (omega arith) (omega arith)))
