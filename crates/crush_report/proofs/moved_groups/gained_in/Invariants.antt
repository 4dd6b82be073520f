use Rattle.std.proofs.Common.{◌≡◌, ◌+◌, length}
use Rattle.crush_report.specs.Moves.{gained_in}
use Rattle.crush_report.proofs.moved_groups.gained_in.Given as goal

abbrev pub invariant-loop-rest : goal.invariant-loop-rest
invariant-loop-rest l = l.total + gained_in l.rest ≡ gained_in l.rows

abbrev pub decreases-loop-rest : goal.decreases-loop-rest
decreases-loop-rest l = length l.rest
