use Rattle.std.proofs.Common.{◌≡◌, length}
use Rattle.crush_report.specs.Moves.{same_slots}
use Rattle.crush_report.proofs.moved_groups.same_slots.Given as goal

-- the remaining slots decide
abbrev pub invariant-loop-left : goal.invariant-loop-left
invariant-loop-left l = same_slots l.left l.right ≡ same_slots l.first l.second

abbrev pub decreases-loop-left : goal.decreases-loop-left
decreases-loop-left l = length l.left
