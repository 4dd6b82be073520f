use Rattle.std.proofs.Common.{ℕ, ◌<◌, length, slice_index_or, refl, arith}
use Rattle.crush_choose.specs.Private.Runs.{IsStep, no_step}
use Rattle.crush_choose.proofs.Running.{rule_few, rule_steps}
use Rattle.crush_choose.proofs.rule.Runner.take_steps.Goals as goal

pub loop-k-init : goal.loop-k-init
loop-k-init c = record {
  rest = rw (c.start.ensures.value, c.tunables.ensures, c.tables.ensures, c.as_slice-steps.ensures) refl;
  run = c.start.ensures.run c.args.self.now.size;
  few = rw c.as_slice-steps.ensures (rule_few c.requires.rule.known c.args.rule.now c.requires.rule.faultless);
  same = refl;
}

pub after_step-requires-clause-step : goal.after_step-requires-clause-step
after_step-requires-clause-step c =
    let all : (k : ℕ) → k < length c.as_slice-steps.result.now → IsStep c.args.self.now.size (slice_index_or c.as_slice-steps.result.now k no_step) =
    rw c.as_slice-steps.ensures (rule_steps c.requires.rule.known c.args.rule.now c.args.self.now.size (omega arith) c.requires.rule.faultless) in
    all c.loop-k.k c.loop-k-test.true
