use Rattle.std.proofs.Common.{◌≡◌, None}
use Rattle.crush_choose.specs.Firstn.{firstn_try}
use Rattle.crush_choose.specs.Least.{least}
use Rattle.crush_choose.proofs.firstn.Firstn.decide.Given as goal

abbrev pub invariant-loop-round : goal.invariant-loop-round
invariant-loop-round l = record {
  none : least (firstn_try l.initial.scratch l.self.weights.now l.self.call.now l.self.items.now l.self.leaves.now l.rep) l.round ≡ None;
  same : l.scratch ≡ l.initial.scratch;
}
