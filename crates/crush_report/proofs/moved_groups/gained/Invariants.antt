use Rattle.std.proofs.Common.{◌≡◌, ◌+◌, ◌≤◌, length}
use Rattle.crush_report.specs.Moves.{gained}
use Rattle.crush_report.proofs.moved_groups.gained.Given as goal

abbrev pub invariant-loop-rest : goal.invariant-loop-rest
invariant-loop-rest l = record {
  sum : l.count + gained l.old l.rest ≡ gained l.old l.new;
  few : l.count + length l.rest ≤ length l.new;
}

abbrev pub decreases-loop-rest : goal.decreases-loop-rest
decreases-loop-rest l = length l.rest
