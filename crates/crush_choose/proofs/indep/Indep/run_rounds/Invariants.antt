use Rattle.std.proofs.Common.{◌≡◌, length}
use Rattle.crush_choose.specs.Indep.{indep_try, after_rounds}
use Rattle.crush_choose.proofs.indep.Indep.run_rounds.Given as goal

abbrev pub invariant-loop-round : goal.invariant-loop-round
invariant-loop-round l = record {
  marks : l.marks ≡ after_rounds (indep_try l.initial.scratch l.self.weights.now l.self.call.now) l.self.call.now.n l.round;
  places : length l.marks ≡ l.self.call.now.n;
  same : l.scratch ≡ l.initial.scratch;
}
