use Rattle.std.proofs.Common.{◌≡◌, length}
use Rattle.crush_choose.specs.Indep.{indep_try, in_round}
use Rattle.crush_choose.proofs.indep.Indep.run_round.Given as goal

abbrev pub invariant-loop-pos : goal.invariant-loop-pos
invariant-loop-pos l = record {
  marks : l.marks ≡ in_round (indep_try l.initial.scratch l.self.weights.now l.self.call.now) l.round l.pos l.initial.marks;
  places : length l.marks ≡ l.self.call.now.n;
  same : l.scratch ≡ l.initial.scratch;
}
