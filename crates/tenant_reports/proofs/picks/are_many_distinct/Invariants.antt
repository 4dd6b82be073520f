use Rattle.std.proofs.Common.{◌≡◌, true, drop}
use Rattle.tenant_reports.specs.Picks.{are_distinct}
use Rattle.tenant_reports.specs.Private.Seen.{HasItems}
use Rattle.tenant_reports.proofs.picks.are_many_distinct.Given as goal

abbrev pub invariant-loop-place : goal.invariant-loop-place
invariant-loop-place l = record {
  seen : HasItems l.seen (drop l.place l.entries);
  distinct : are_distinct (drop l.place l.entries) ≡ true;
}
