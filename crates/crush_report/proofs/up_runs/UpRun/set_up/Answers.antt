use Rattle.std.proofs.Common.{◌∙◌}
use Rattle.crush_report.proofs.OnMaps.{answer_few, up_of_answer}
use Rattle.crush_report.proofs.up_runs.UpRun.set_up.Goals as goal

pub set_up-requires : goal.set_up-requires
set_up-requires c = answer_few c.self.inside.placer.now c.args.group c.in-Some.raw.now c.in-Some.ensures c.self.invariant.answers.size

pub returns-in-Some-clause-up : goal.returns-in-Some-clause-up
returns-in-Some-clause-up c =
    let is = up_of_answer c.self.inside.placer.now c.args.group c.in-Some.raw.now c.in-Some.ensures in
    rw (← c.self.view_is) (rw is at c.set_up.ensures)

pub returns-in-None-clause-up : goal.returns-in-None-clause-up
returns-in-None-clause-up c =
    let is = up_of_answer c.self.inside.placer.now c.args.group c.items.result.now (c.items.ensures.value ∙ c.run_next.ensures.items) in
    rw (← c.self.view_is) (rw is at c.set_up-in-None.ensures)
