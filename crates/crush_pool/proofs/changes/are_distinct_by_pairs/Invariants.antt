use Rattle.std.proofs.Common.{◌≡◌, length}
use Rattle.crush_pool.specs.Changes.{are_distinct}
use Rattle.crush_pool.proofs.changes.are_distinct_by_pairs.Given as goal

-- the remaining changes decide
abbrev pub invariant-loop-rest : goal.invariant-loop-rest
invariant-loop-rest l = are_distinct l.rest ≡ are_distinct l.changes

abbrev pub decreases-loop-rest : goal.decreases-loop-rest
decreases-loop-rest l = length l.rest
