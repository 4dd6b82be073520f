use Rattle.std.proofs.Common.{◌≡◌}
use Rattle.crush_choose.specs.Rules.{IsTrace, rule_answer}
use Rattle.crush_choose.proofs.Staying.{items_stay, trace_stays}
use Rattle.crush_choose.proofs.rule.run_rule.Goals as goal

pub trace_steps-requires-clause-rule : goal.trace_steps-requires-clause-rule
trace_steps-requires-clause-rule c = rw c.requires.fits c.requires.rule

pub returns-clause-stays : goal.returns-clause-stays
returns-clause-stays c =
    let items : c.trace_steps.new.run.emitted ≡ rule_answer c.args.tables.now c.args.weights.now c.args.rule.now.steps c.args.x c.args.size =
    rw c.requires.fits at c.trace_steps.ensures.items in
    let trace : IsTrace c.args.tables.now c.args.weights.now c.args.rule.now.steps c.args.x c.args.size c.trace_steps.new.run.made.items =
    rw c.requires.fits at c.trace_steps.ensures.trace in
    λ lowered outside. items_stay c.args.tables.now c.args.weights.now lowered c.args.rule.now.steps c.args.x c.args.size _ _ items trace outside

pub returns-clause-trace_stays : goal.returns-clause-trace_stays
returns-clause-trace_stays c =
    let trace : IsTrace c.args.tables.now c.args.weights.now c.args.rule.now.steps c.args.x c.args.size c.trace_steps.new.run.made.items =
    rw c.requires.fits at c.trace_steps.ensures.trace in
    λ lowered outside. trace_stays c.args.tables.now c.args.weights.now lowered c.args.rule.now.steps c.args.x c.args.size _ trace outside
