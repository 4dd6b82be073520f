use Rattle.std.proofs.Common.{◌≡◌, length}
use Rattle.tenant_reports.specs.Picks.{are_distinct}
use Rattle.tenant_reports.proofs.picks.are_few_distinct.Given as goal

-- the items of the rest differ exactly where those of the whole list do
abbrev pub invariant-loop-rest : goal.invariant-loop-rest
invariant-loop-rest l = are_distinct l.rest ≡ are_distinct l.entries

abbrev pub decreases-loop-rest : goal.decreases-loop-rest
decreases-loop-rest l = length l.rest
