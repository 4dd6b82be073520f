use Rattle.std.proofs.Common.{◌≡◌, None}
use Rattle.crush_choose.specs.Indep.{indep_leaf_by}
use Rattle.crush_choose.specs.Least.{least}
use Rattle.crush_choose.proofs.indep.Indep.leaf_below.Given as goal

abbrev pub invariant-loop-round : goal.invariant-loop-round
invariant-loop-round l = record {
  none : least (indep_leaf_by l.initial.scratch l.self.weights.now l.self.call.now l.bucket l.start) l.round ≡ None;
  same : l.scratch ≡ l.initial.scratch;
}
