use Rattle.std.proofs.Common.{◌≡◌}
use Rattle.std.specs.List.{range_with_len}
use Rattle.crush_bucket.specs.Tables.{scratch_of, tables_of}
use Rattle.crush_report.specs.OnMaps.{touched_on}
use Rattle.crush_report.proofs.touched_groups.impact_with.Given as goal

abbrev pub invariant-loop-group : goal.invariant-loop-group
invariant-loop-group l = record {
  fits : l.scratch ≡ scratch_of (tables_of l.placer.map);
  found : l.found.items ≡ touched_on l.placer l.device (range_with_len 0 l.group);
}
