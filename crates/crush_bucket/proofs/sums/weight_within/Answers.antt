use Rattle.std.proofs.Common.{◌≡◌, arith}
use Rattle.std.proofs.lemmas.List.{take_rest}
use Rattle.crush_bucket.proofs.Weights.{within_total, within_cut}
use Rattle.crush_bucket.specs.Bucket.{weight_within}
use Rattle.crush_bucket.proofs.sums.weight_within.Goals as goal

pub overflow_cast-result : goal.overflow_cast-result
overflow_cast-result c =
    let rest = take_rest c.args.items.now c.min.result in
    let cut = within_cut c.args.items.now c.args.from c.args.count in
    let is : c.total_weight.result ≡ weight_within c.args.items.now c.args.from c.args.count = grind (arith, rest, cut) in
    omega (arith, is, within_total c.args.items.now c.args.from c.args.count)

pub returns : goal.returns
returns c =
    let rest = take_rest c.args.items.now c.min.result in
    let cut = within_cut c.args.items.now c.args.from c.args.count in
    grind (arith, rest, cut)
