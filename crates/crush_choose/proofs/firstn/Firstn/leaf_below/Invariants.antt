use Rattle.std.proofs.Common.{◌≡◌, ◌+◌, None}
use Rattle.crush_choose.specs.Firstn.{leaf_by}
use Rattle.crush_choose.specs.Least.{least}
use Rattle.crush_choose.proofs.firstn.Firstn.leaf_below.Given as goal

abbrev pub invariant-loop-g : goal.invariant-loop-g
invariant-loop-g l = record {
  none : least (λ g. leaf_by l.initial.scratch l.self.weights.now l.self.call.now l.self.leaves.now l.bucket (l.start + g)) l.g ≡ None;
  same : l.scratch ≡ l.initial.scratch;
}
