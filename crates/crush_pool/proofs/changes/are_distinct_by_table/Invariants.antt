use Rattle.std.proofs.Common.{◌≡◌, true, drop}
use Rattle.crush_pool.specs.Changes.{are_distinct}
use Rattle.crush_pool.specs.Private.Seen.{HasDevices}
use Rattle.crush_pool.proofs.changes.are_distinct_by_table.Given as goal

abbrev pub invariant-loop-place : goal.invariant-loop-place
invariant-loop-place l = record {
  seen : HasDevices l.seen (drop l.place l.changes);
  distinct : are_distinct (drop l.place l.changes) ≡ true;
}
