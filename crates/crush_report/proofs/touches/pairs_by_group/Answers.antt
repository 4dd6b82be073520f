use Rattle.std.proofs.Common.{◌≡◌, ◌≤◌, ◌++◌, ◌∙◌, Some, ap, arith, subst}
use Rattle.std.specs.List.{range_with_len}
use Rattle.crush_report.specs.OnMaps.{touched_on}
use Rattle.crush_report.proofs.OnMaps.{impact_on}
use Rattle.crush_report.specs.Private.Touching.{touches_of}
use Rattle.crush_report.specs.Touches.{groups_in}
use Rattle.crush_report.proofs.Touching.{pairs_more}
use Rattle.crush_report.proofs.touches.pairs_by_group.Goals as goal

pub loop-group-preserved : goal.loop-group-preserved
loop-group-preserved c =
    let n = c.loop-group.group in
    let devices = c.find_devices.new.devices.items in
    let added : c.add_pairs.new.pairs.items ≡ c.loop-group.pairs.items ++ touches_of n devices =
    c.in_ok-add_pairs.ensures ∙ ap (λ ds. c.loop-group.pairs.items ++ touches_of n ds) c.as_slice.ensures.value in
    record {
      fits = c.find_devices.ensures.fits;
      found = λ d. pairs_more c.args.placer.now n d c.loop-group.pairs.items c.add_pairs.new.pairs.items devices added c.in_ok-find_devices.ensures.once c.in_ok-find_devices.ensures.each (c.loop-group.invariant.found d);
    }

pub returns : goal.returns
returns c =
    let p = c.args.placer.now in
    let n = c.loop-group.group in
    let end : n ≤ p.pool.pg_num = rw c.pool_parts-parts.ensures.same at c.loop-group.auto.group-end in
    let above : p.pool.pg_num ≤ n = rw c.pool_parts-parts.ensures.same at c.loop-group-test.false in
    let all : n ≡ p.pool.pg_num = omega (arith, end, above) in
    λ d. ap Some (subst (λ m. groups_in c.loop-group.pairs.items d ≡ touched_on p d (range_with_len 0 m)) all (c.loop-group.invariant.found d)) ∙ impact_on p d c.tables.ensures.rule
