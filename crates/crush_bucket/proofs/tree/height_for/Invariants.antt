use Rattle.std.proofs.Common.{◌≡◌, ◌≤◌, ◌+◌, ◌-◌, ◌*◌, ◌^◌, nat_le}
use Rattle.crush_bucket.specs.Kinds.{height_of, least_from}
use Rattle.crush_bucket.proofs.tree.height_for.Given as goal

abbrev pub invariant-loop-width : goal.invariant-loop-width
invariant-loop-width l = record {
  width : l.width ≡ 2 ^ l.height;
  near : l.width ≤ 2 * l.size + 1;
  rest : height_of l.size ≡ least_from (λ k. nat_le l.size (2 ^ k)) l.height (l.size - l.height);
}

abbrev pub decreases-loop-width : goal.decreases-loop-width
decreases-loop-width l = l.size - l.width
