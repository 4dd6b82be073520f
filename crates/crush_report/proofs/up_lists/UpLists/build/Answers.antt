use Rattle.std.proofs.Common.{◌∙◌, sym, subst}
use Rattle.crush_report.specs.UpLists.{AreUpListsOn}
use Rattle.crush_report.proofs.Lists.{lists_on}
use Rattle.crush_report.proofs.up_lists.UpLists.build.Goals as goal

pub returns-then-fits : goal.returns-then-fits
returns-then-fits c =
    let p = c.args.placer.now in
    let lists = rw (c.in_ok-run.ensures.same, c.pool_parts-parts.ensures.same) at (c.in_ok-fits.ensures.lists c.if-fits.true) in
    subst (AreUpListsOn p) (sym lists) (lists_on p c.build.ensures.rule)
